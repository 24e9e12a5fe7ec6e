-- `verdicts::origin` meets its contract.
use Rattle.verdicts.specs.Laws.{origin-is}
use Rattle.verdicts.proofs.origin.Goals as goal

pub returns : goal.returns
returns c = origin-is
