-- `table_holds::nesting_holds` meets its contract. The loop's invariant: each of the first i records that a table
-- speaks of stands where it may.
use Prim.Native.Nat.{◌+◌, ◌<◌, ℕ}
use mathlib.Core.Bool.{true}
use mathlib.Core.Path.{◌≡◌}
use Rattle.table_holds.specs.Tests.{stood}
use Rattle.model.specs.Climbing.{container}
use Rattle.model.specs.Records.{at, records}
use Rattle.model.specs.Tables.{bits, parts}
use Rattle.table_partners.specs.Facts.{standing}
use Rattle.table_holds.proofs.nesting_holds.Given as goal

abbrev pub invariant-loop-i : goal.invariant-loop-i
invariant-loop-i l = (x : ℕ) → x < l.i → standing (records l.it) x ≡ true → stood (parts (bits l.table)) (container (records l.it) (x + 1)) (at (records l.it) (x + 1)) ≡ true
