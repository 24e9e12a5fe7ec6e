-- `steps::places` meets its contract.
use Rattle.steps.specs.Laws.{places-all, places-out}
use Rattle.steps.proofs.places.Goals as goal

pub returns-in-Out : goal.returns-in-Out
returns-in-Out c = places-out _ _ _ _ c.in-Out.is c.min-last.ensures c.saturating_sub.ensures

pub returns-in_default : goal.returns-in_default
returns-in_default c = places-all _ _
