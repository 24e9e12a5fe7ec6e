-- `table_rules::row_holds` meets its contract. The loop's invariant: the labels to come are a part of those in row p, and the
-- rules hold for those no longer among them.
use Rattle.std.proofs.Common.{◌≡◌, ℕ, ◌*◌, get_or, true}
use Rattle.model.specs.Tables.{test_bit}
use Rattle.table_rules.specs.Laws.{Tested}
use Rattle.table_rules.proofs.row_holds.Given as goal

abbrev pub invariant-loop-b : goal.invariant-loop-b
invariant-loop-b l = ((x : ℕ) → test_bit l.b-iterator.0 x ≡ true → test_bit (get_or l.w (2 * l.p) 0) x ≡ true) × Tested l.movers l.w l.p l.b-iterator.0
