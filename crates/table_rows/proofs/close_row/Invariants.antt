-- `table_rows::close_row` meets its contract. The loop's invariant: the labels to come are a part of those that stood in row p
-- at the start, the pairs of those no longer among them are closed unless the table has changed since, and all rows that
-- changed are read by row p.
use Rattle.std.proofs.Common.{◌≡◌, ℕ, ◌*◌, get_or, length, true}
use Rattle.table_rows.specs.Laws.{ReadBelow}
use Rattle.table_rows.specs.Changes.{RowsChanged}
use Rattle.model.specs.Tables.{test_bit}
use Rattle.tables.specs.Grow.{Grown}
use Rattle.table_words.specs.BitSets.{Bits}
use Rattle.table_words.specs.OverBits.{AtBits, AtTaken}
use Rattle.table_movers.specs.Rules.{PairClosed}
use Rattle.table_rows.proofs.close_row.Given as goal

abbrev pub invariant-loop-b : goal.invariant-loop-b
invariant-loop-b l =
    (length l.w ≡ 193) × ((x : ℕ) → test_bit l.b-iterator.0 x ≡ true → test_bit (get_or l.initial.w (2 * l.p) 0) x ≡ true)
    × Grown (AtBits (PairClosed l.movers l.p) (get_or l.initial.w (2 * l.p) 0)) (AtTaken (PairClosed l.movers l.p) (get_or l.initial.w (2 * l.p) 0) l.b-iterator.0) (Bits l.initial.w) (Bits l.w) × RowsChanged (ReadBelow l.initial.w l.p) l.initial.w l.w l.changed
