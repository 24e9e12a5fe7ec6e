-- `calls::row` meets its contract. By length and label: the part of 16 bytes is within the table, and the empty part starts
-- where the table does.
use borrow.Author.Tests.{eq-eqb, le-leb, lt-leb, ne_eqb}
use mathlib.Core.Bool.{and-false}
use mathlib.Core.Path.{refl}
use lib.ListN.{length}
use native.Mathlib.Nat.{add-sub_cancel_left}
use native.Mathlib.Omega.{arith}
use Rattle.model.specs.Tables.{table_sized}
use Rattle.model.specs.Calls.{part_if, row_of, row_start, start_if}
use Rattle.calls.proofs.row.Goals as goal

pub returns-then-table-ne-TABLE_BYTES : goal.returns-then-table-ne-TABLE_BYTES
unfolding row_of part_if table_sized row_start start_if
returns-then-table-ne-TABLE_BYTES c =
    let n = ne_eqb (length c.args.table.now) 1544 (λ e. omega (arith, e, c.if-table-ne-TABLE_BYTES.true)) in
    record { content = simp n; block = refl; place = simp n (omega arith) }

pub returns-then-label-gt63 : goal.returns-then-label-gt63
unfolding row_of part_if table_sized row_start start_if
returns-then-label-gt63 c =
    let l = lt-leb c.args.label 63 (omega (arith, c.if-label-gt63.true)) in
    record { content = simp (l, and-false); block = refl; place = simp (l, and-false) (omega arith) }

pub returns : goal.returns
unfolding row_of part_if table_sized row_start start_if
returns c =
    let e = eq-eqb (length c.args.table.now) 1544 (omega (arith, c.if-table-ne-TABLE_BYTES.false)) in
    let l = le-leb c.args.label 63 (omega (arith, c.if-label-gt63.false)) in
    record { content = simp (e, l, add-sub_cancel_left); block = refl; place = simp (e, l) (omega arith) }
