-- `scripts::counted` meets its contract.
use Rattle.std.proofs.Common.{◌∙◌, ap}
use Rattle.model.specs.Numbers.{outcome_as}
use Rattle.model.specs.Steps.{done-by}
use Rattle.scripts.specs.Runs.{counted-in, counted-open, counted-out, counted-refused}
use Rattle.scripts.proofs.counted.Goals as goal

pub returns-in_default : goal.returns-in_default
unfolding outcome_as
returns-in_default c = counted-refused _ (ap outcome_as c.in_default.is)

pub returns-in-In : goal.returns-in-In
unfolding outcome_as
returns-in-In c = counted-in _ (ap outcome_as c.in-Ok.is ∙ ap done-by c.in-In.is)

pub returns-in-Out : goal.returns-in-Out
unfolding outcome_as
returns-in-Out c = counted-out _ (ap outcome_as c.in-Ok.is ∙ ap done-by c.in-Out.is)

pub returns-in-Open : goal.returns-in-Open
unfolding outcome_as
returns-in-Open c = counted-open _ (ap outcome_as c.in-Ok.is ∙ ap done-by c.in-Open.is)
