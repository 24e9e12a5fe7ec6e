-- `listing::put_steps` meets its contract. The loop's invariant: with the lines of the steps that are left put at the end, the
-- text is what all lines make of it.
use mathlib.Core.List.{[]}
use Rattle.listing.specs.Laws.{ahead}
use Rattle.model.specs.Listing.{step_lines}
use Rattle.model.specs.Scripts.{steps_in}
use Rattle.text_put.specs.Puts.{Putting}
use Rattle.listing.proofs.put_steps.Given as goal

abbrev pub invariant-loop-step : goal.invariant-loop-step
invariant-loop-step l =
    Putting l.initial.text l.at (step_lines (steps_in l.script) l.answers []) l.text l.end (ahead l.step-iterator.a.rest.now l.step-iterator.b.rest.now)
