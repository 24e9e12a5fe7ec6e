-- `table_rules::in_out_holds` meets its contract. Each rule of in and out for the pair is an inclusion of words; each test
-- that fails denies one of them, and the three together are all.
use Rattle.table_rules.specs.Laws.{decide-no, moves-in, moves-make, moves_out, moves-suspect}
use Rattle.model.proofs.Laws.Sets.{Narrow}
use mathlib.Core.Bool.{true≢false}
use mathlib.Core.Path.{◌∙◌, refl, sym}
use Rattle.table_rules.proofs.in_out_holds.Goals as goal

pub returns-then-not-within : goal.returns-then-not-within
returns-then-not-within c =
    let a = c.args in let n : Narrow 64 a.w.now = c.fits-w in
    decide-no _ (λ f. c.within.ensures.passes (moves-in a.w.now a.movers.now a.p a.b n c.requires.p_bound c.requires.b_bound f)) (c.if-not-within.true)

pub returns-then-not-within-2 : goal.returns-then-not-within-2
returns-then-not-within-2 c =
    let a = c.args in let n : Narrow 64 a.w.now = c.fits-w in
    decide-no _ (λ f. c.within-2.ensures.passes (moves_out a.w.now a.movers.now a.p a.b n c.requires.p_bound c.requires.b_bound f)) (c.if-not-within-2.true)

pub returns-then-bit_of : goal.returns-then-bit_of
returns-then-bit_of c =
    let a = c.args in let n : Narrow 64 a.w.now = c.fits-w in
    let t = sym c.bit_of.ensures ∙ c.if-bit_of.true in
    let d = c.within-then-bit_of.ensures in record {
      holds = λ x. moves-make a.w.now a.movers.now a.p a.b n c.requires.p_bound c.requires.b_bound (c.within.ensures.holds (c.if-not-within.false))
          (c.within-2.ensures.holds (c.if-not-within-2.false)) (λ _. d.holds x);
      passes = λ f. d.passes (moves-suspect a.w.now a.movers.now a.p a.b n c.requires.p_bound c.requires.b_bound t f);
    }

pub returns : goal.returns
returns c =
    let a = c.args in let n : Narrow 64 a.w.now = c.fits-w in
    let d = sym c.bit_of.ensures ∙ c.if-bit_of.false in
    record {
      holds = λ _. moves-make a.w.now a.movers.now a.p a.b n c.requires.p_bound c.requires.b_bound (c.within.ensures.holds (c.if-not-within.false))
          (c.within-2.ensures.holds (c.if-not-within-2.false)) (λ t. absurd (true≢false (sym t ∙ d)));
      passes = λ _. refl;
    }
