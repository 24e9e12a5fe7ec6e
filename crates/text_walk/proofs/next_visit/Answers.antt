-- The goals of `text_walk::next_visit`; the argument stands in Invariants.
use Rattle.std.proofs.Common.{◌≡◌, ◌∙◌, ◌+◌, ◌-◌, arith, refl, sym, rules}
use Rattle.std.specs.Prelude.{None}
use Rattle.text_form.specs.Laws.Walking.{at-is, next-hit, next_last, next-none, next_up}
use Rattle.text_walk.proofs.next_visit.Goals as goal

pub loop-above-init : goal.loop-above-init
loop-above-init c = refl

pub returns-in-Some : goal.returns-in-Some
returns-in-Some c =
    let u : c.loop-above.above - 1 + 1 ≡ c.loop-above.above = omega (arith, c.loop-above-test.true) in
    rw u (next-hit _ _ _ _ c.loop-above-test.true (sym c.child_over.ensures ∙ c.in-Some.is) ∙ sym c.loop-above.invariant)

pub loop-above-preserved : goal.loop-above-preserved
loop-above-preserved c = c.loop-above.invariant ∙ next_up _ _ _ _ c.loop-above-test.true (sym c.child_over.ensures ∙ c.in_default.is) (at-is c.requires _ _ c.record_at-r.ensures)

pub returns-in_err-number : goal.returns-in_err-number
returns-in_err-number c =
    let e : c.from_residual.result ≡ None = search rules in
    e ∙ next-none _ _ _ _ c.loop-above-test.false (sym c.child_over-2.ensures ∙ c.in_err-number.was) ∙ sym c.loop-above.invariant

pub returns : goal.returns
returns c = next_last _ _ _ _ c.loop-above-test.false (sym c.child_over-2.ensures ∙ c.in_ok-number.was) ∙ sym c.loop-above.invariant
