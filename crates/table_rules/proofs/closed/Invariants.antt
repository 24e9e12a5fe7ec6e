-- `table_rules::closed` meets its contract: the rules hold for all rows by the movers exactly where they do by the partners. The
-- loop's invariant: the rules hold for the rows below p.
use Rattle.std.proofs.Common.{ℕ, ◌<◌}
use Rattle.table_rules.specs.Tests.{RowHeld}
use Rattle.table_words.specs.BitSets.{Bits}
use Rattle.table_rules.proofs.closed.Given as goal

abbrev pub invariant-loop-p : goal.invariant-loop-p
invariant-loop-p l = (x : ℕ) → x < l.p → RowHeld l.movers (Bits l.w) x
