-- `table_rules::pair_holds` meets its contract. The rule of open is asked only where p is a mover of open for b.
use Rattle.table_rules.specs.Laws.{decide-no, pair-open, pair-shut}
use Rattle.model.specs.Tables.{bits}
use mathlib.Core.Path.{◌∙◌, sym}
use Rattle.table_words.specs.BitSets.{Bits}
use Rattle.table_rules.proofs.pair_holds.Goals as goal

pub returns-then-not-in_out_holds : goal.returns-then-not-in_out_holds
returns-then-not-in_out_holds c = decide-no _ (λ f. c.in_out_holds.ensures.passes f.moves) (c.if-not-in_out_holds.true)

pub returns-then-bit_of : goal.returns-then-bit_of
returns-then-bit_of c =
    let a = c.args in pair-open a.movers.now a.p a.b (Bits a.w.now) (bits a.table.now) c.open_holds.result c.requires.same_bits (c.in_out_holds.ensures.holds (c.if-not-in_out_holds.false))
    (sym c.bit_of.ensures ∙ c.if-bit_of.true) c.open_holds.ensures

pub returns : goal.returns
returns c =
    let a = c.args in pair-shut a.movers.now a.p a.b (Bits a.w.now) (c.in_out_holds.ensures.holds (c.if-not-in_out_holds.false)) (sym c.bit_of.ensures ∙ c.if-bit_of.false)
