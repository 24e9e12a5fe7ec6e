-- `table_rows::or_row` meets its contract. Both words of row b are read before row p is written, for p may be b.
use Rattle.table_rows.specs.Laws.{or-rows}
use Rattle.table_rows.specs.Changes.{changed_then}
use mathlib.Core.Logic.{inl}
use native.Mathlib.Omega.{arith}
use Rattle.table_rows.proofs.or_row.Goals as goal

pub returns : goal.returns
returns c =
    let a = c.args in let x = c.or_into-ambients in let y = c.or_into in record { grown = or-rows a.w.now a.p a.b x.ensures.grown y.ensures.grown; rows_changed = changed_then x.ensures.rows_changed y.ensures.rows_changed (λ r e. inl (omega arith)) (λ r e. inl (omega arith)) }
