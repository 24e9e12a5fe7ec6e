-- `table_rules::open_holds` meets its contract. The rows are the table's parts of 16 bytes, numbers b and p.
use Rattle.std.proofs.Common.{◌≡◌, [], get_or, ◌∙◌, sym, arith}
use Rattle.table_rules.specs.Laws.{open-not, open-other, open-suspect, rows_inside}
use Rattle.model.specs.Finite.{every}
use Rattle.model.specs.Tables.{bits, parts, place_s}
use Rattle.table_rules.proofs.open_holds.Goals as goal
use Rattle.table_rules.proofs.open_holds.Goals.{After-row_included}

inside : (c : After-row_included) → every 128 (λ k. bits (get_or c.as_chunks.result.0.now c.args.b []) k) (λ k. bits (get_or c.as_chunks.result.0.now c.args.p []) k) ≡
    every 128 (λ k. (parts (bits c.args.table.now)).I c.args.b k) (λ k. (parts (bits c.args.table.now)).I c.args.p k)
inside c = rows_inside c.args.table.now c.as_chunks.result.0.now _ c.args.b c.args.p c.as_chunks.ensures.front (omega (arith, c.told-table)) (omega (arith, c.told-table))

pub returns-then-not-row_included : goal.returns-then-not-row_included
returns-then-not-row_included c =
    let e = c.row_included.ensures ∙ inside (goal.at.returns-then-not-row_included c).After-row_included in
    open-not _ _ _ (sym e ∙ c.if-not-row_included.true)

pub returns-then-bit : goal.returns-then-bit
unfolding place_s
returns-then-bit c =
    let e = c.row_included.ensures ∙ inside (goal.at.returns-then-bit c).After-row_included in
    c.bit-then-bit.ensures ∙ open-suspect _ _ _ (sym e ∙ c.if-not-row_included.false) (sym c.bit.ensures ∙ c.if-bit.true)

pub returns : goal.returns
unfolding place_s
returns c =
    let e = c.row_included.ensures ∙ inside (goal.at.returns c).After-row_included in
    open-other _ _ _ (sym e ∙ c.if-not-row_included.false) (sym c.bit.ensures ∙ c.if-bit.false)
