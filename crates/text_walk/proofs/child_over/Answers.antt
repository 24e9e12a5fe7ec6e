-- The goals of `text_walk::child_over`; the argument stands in Invariants.
use Rattle.std.proofs.Common.{◌∙◌, refl, sym, arith}
use Rattle.text_form.specs.Laws.Walking.{at-is, whole-count, child-end, child-hit, child-step, child-test}
use Rattle.text_walk.proofs.child_over.Goals as goal

pub overflow_cast-n : goal.overflow_cast-n
overflow_cast-n c = record { fits = omega (arith, c.requires.few) }

pub loop-j-init : goal.loop-j-init
loop-j-init c = refl

pub returns-then-is_gone-r : goal.returns-then-is_gone-r
returns-then-is_gone-r c =
    sym (c.loop-j.invariant ∙ child-hit _ _ _ (omega (arith, c.loop-j-test.true, whole-count c.args.it.now)) (child-test _ _ _ c.record_at-r.result (at-is c.requires _ _ c.record_at-r.ensures) c.is_gone.ensures c.if-is_gone-r.true))

pub loop-j-preserved : goal.loop-j-preserved
loop-j-preserved c =
    c.loop-j.invariant ∙ child-step _ _ _ (omega (arith, c.loop-j-test.true, whole-count c.args.it.now)) (child-test _ _ _ c.record_at-r.result (at-is c.requires _ _ c.record_at-r.ensures) c.is_gone.ensures c.if-is_gone-r.false)

pub returns : goal.returns
returns c = sym (c.loop-j.invariant ∙ child-end _ _ _ (omega (arith, c.loop-j-test.false, whole-count c.args.it.now)))
