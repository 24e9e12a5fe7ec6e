-- `tables::table_right` meets its contract: the length, then column 0 of I, then row 0 of H.
use Rattle.std.proofs.Common.{◌≡◌, ℕ, List, true, false, ◌∙◌, ap, sym, rules}
use Rattle.tables.specs.Loops.{Clear, table-first, table-long, table-second}
use Rattle.tables.proofs.table_right.Goals as goal

pub returns-in_default : goal.returns-in_default
returns-in_default c = table-long _ (search rules)

pub returns-then-clear_bits : goal.returns-then-clear_bits
returns-then-clear_bits c =
    let whole = c.in-Some.ensures.cases in
    let e : Clear c.args.table.now 0 128 ≡ true = ap (λ (t : List ℕ). Clear t 0 128) (sym whole.same) ∙ sym c.clear_bits.ensures ∙ c.if-clear_bits.true in
    c.clear_bits-then-clear_bits.ensures ∙ ap (λ (t : List ℕ). Clear t 8192 1) whole.same ∙ table-second _ whole.long e

pub returns-else-clear_bits : goal.returns-else-clear_bits
returns-else-clear_bits c =
    let whole = c.in-Some.ensures.cases in
    let e : Clear c.args.table.now 0 128 ≡ false = ap (λ (t : List ℕ). Clear t 0 128) (sym whole.same) ∙ sym c.clear_bits.ensures ∙ c.if-clear_bits.false in
    c.if-clear_bits.false ∙ table-first _ whole.long e
