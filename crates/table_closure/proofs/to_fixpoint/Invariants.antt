-- `table_closure::to_fixpoint` meets its contract. The loop's invariant: each row has its rules, unless it reads a row of
-- `dirty`. A sweep that changes nothing leaves `dirty` empty, so all rows have theirs; else the table has more bits, and what
-- is left of 193 * 64 falls.
use Prim.Native.Nat.{◌-◌, ◌<◌, ℕ}
use Rattle.model.specs.Tables.{total}
use Rattle.tables.specs.Grow.{Grown, Any}
use Rattle.model.proofs.Laws.Sets.{Narrow}
use Rattle.table_words.specs.BitSets.{Bits}
use Rattle.table_movers.specs.Rules.{NestingClosed}
use Rattle.table_closure.specs.Sweeps.{Owed}
use Rattle.table_closure.proofs.to_fixpoint.Given as goal

abbrev pub invariant-loop-dirty : goal.invariant-loop-dirty
invariant-loop-dirty l = Narrow 64 l.w × ((q : ℕ) → q < 64 → Owed l.movers l.w l.dirty q) × Grown (NestingClosed l.movers) Any (Bits l.initial.w) (Bits l.w)

abbrev pub decreases-loop-dirty : goal.decreases-loop-dirty
decreases-loop-dirty l = 12352 - total l.w
