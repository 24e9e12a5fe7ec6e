-- `move_list::fitting` meets its contract. So many of the partners up to the one looked at fit.
use Rattle.std.specs.Prelude.{◌≡◌, ◌≤◌}
use Rattle.model.specs.Finite.{tally}
use Rattle.model.specs.Records.{decode}
use Rattle.steps.specs.Moves.{fit_by}
use Rattle.move_list.proofs.fitting.Given as goal

abbrev pub invariant-loop-b : goal.invariant-loop-b
invariant-loop-b l = (l.fits ≤ l.b) × (l.fits ≡ tally (λ b. fit_by l.x (decode l.it b) b) l.b)
