-- `verdicts::reach` meets its contract: with no label to stop at, all is reached.
use Rattle.verdicts.specs.Laws.{no-label, until-all}
use Rattle.verdicts.proofs.reach.Goals as goal

pub returns : goal.returns
returns c = until-all c.reach_until.ensures no-label
