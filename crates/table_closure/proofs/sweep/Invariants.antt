-- `table_closure::sweep` meets its contract. The loop's invariant (`Sweeping`): rows before p owe their rules only for what
-- changed in this sweep, all rows for what changed in this sweep or the one before. A row that reads no row of either owes
-- nothing, so it may be left out.
use Rattle.std.proofs.Common.{◌≡◌, length}
use Rattle.table_closure.specs.Laws.{Sweeping}
use Rattle.table_closure.proofs.sweep.Given as goal

abbrev pub invariant-loop-p : goal.invariant-loop-p
invariant-loop-p l = (length l.w ≡ 193) × Sweeping l.movers l.initial.w l.w l.dirty_before l.dirty l.p
