-- The goals of `listing::put_steps`; the argument stands in Invariants.
use Rattle.std.proofs.Common.{rules, inl, inr, ⊎_elim}
use Rattle.listing.specs.Laws.{ahead-all, ahead-done, ahead-on}
use Rattle.text_put.specs.Laws.{putting-end, putting-on, putting-room}
use Rattle.listing.proofs.put_steps.Goals as goal

pub loop-step-init : goal.loop-step-init
loop-step-init c = ahead-all _ _ _ _ (search rules) (search rules) c.requires

pub put_step-end-requires : goal.put_step-end-requires
put_step-end-requires c = putting-room _ _ c.loop-step.invariant (ahead-on c.in-Some.ensures.steps c.word-actor.ensures c.word-partner.ensures)

pub loop-step-preserved : goal.loop-step-preserved
loop-step-preserved c =
    putting-on c.loop-step.invariant (ahead-on c.in-Some.ensures.steps c.word-actor.ensures c.word-partner.ensures) c.put_step-end.auto.text c.put_step-end.ensures

pub returns : goal.returns
returns c =
    putting-end c.loop-step.invariant (ahead-done _ _ (⊎_elim (λ x. inl x.1.0) (λ x. inr x.1.0) c.in-None.ensures.steps))
