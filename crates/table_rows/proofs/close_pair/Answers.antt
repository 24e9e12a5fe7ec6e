-- `table_rows::close_pair` meets its contract. Both rows are read from the table as it was; what the two steps add lies in
-- every set that has the rules for the pair, and where they add nothing the table has them. The rows that change are p and b.
use Rattle.table_rows.specs.Laws.{pair-moved, pair-open, pair-shut}
use Rattle.table_rows.specs.Changes.{RowsChanged, changed_then}
use mathlib.Core.Logic.{inl, inr}
use mathlib.Core.Path.{◌∙◌, sym}
use native.Mathlib.Omega.{arith}
use Rattle.table_rows.specs.Rows.{RowOfPair}
use Rattle.table_rows.proofs.close_pair.Goals as goal

pub returns-then-bit_of : goal.returns-then-bit_of
returns-then-bit_of c =
    let a = c.args in let m = a.movers.now in
    let x = c.or_into-entered in let y = c.or_into-exited in let z = c.or_row in let b = c.bit_of in let M : RowsChanged (RowOfPair a.p a.b) _ _ _ = changed_then x.ensures.rows_changed y.ensures.rows_changed (λ r e. inr (omega arith)) (λ r e. inl (omega arith)) in record { grown = pair-open m a.p a.b (sym b.ensures ∙ c.if-bit_of.true) (pair-moved m a.p a.b a.w.now x.ensures.grown y.ensures.grown) z.ensures.grown; rows_changed = changed_then M z.ensures.rows_changed (λ r e. e) (λ r e. e) }

pub returns : goal.returns
returns c =
    let a = c.args in let m = a.movers.now in
    let x = c.or_into-entered in let y = c.or_into-exited in let b = c.bit_of in record { grown = pair-shut m a.p a.b (sym b.ensures ∙ c.if-bit_of.false) (pair-moved m a.p a.b a.w.now x.ensures.grown y.ensures.grown); rows_changed = changed_then x.ensures.rows_changed y.ensures.rows_changed (λ r e. inr (omega arith)) (λ r e. inl (omega arith)) }
