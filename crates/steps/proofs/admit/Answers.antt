-- `steps::admit` meets its contract: each answer by what was read of the actor's record, and of its parent's.
use Rattle.std.proofs.Common.{◌∙◌, sym, refl, true, false}
use Rattle.steps.specs.Moves.{admitted_if}
use Rattle.steps.specs.Laws.{admit-none, admit-some}
use Rattle.steps.proofs.admit.Goals as goal

pub returns-in_default : goal.returns-in_default
returns-in_default c = admit-none _ c.requires _ _ c.record_at-c.ensures (sym c.capability.ensures ∙ c.in_default.is)

pub returns-then-not-ready : goal.returns-then-not-ready
unfolding admitted_if
returns-then-not-ready c = admit-some _ c.requires _ _ c.record_at-c.ensures (sym c.capability.ensures ∙ c.in-Some.is) false (sym c.ready.ensures ∙ c.if-not-ready.true) _ refl

pub returns : goal.returns
unfolding admitted_if
returns c = admit-some _ c.requires _ _ c.record_at-c.ensures (sym c.capability.ensures ∙ c.in-Some.is) true (sym c.ready.ensures ∙ c.if-not-ready.false) _ c.record_at.ensures
