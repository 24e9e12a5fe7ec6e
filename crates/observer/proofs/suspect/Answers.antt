-- `observer::suspect` meets its contract.
use Rattle.observer.specs.Laws.{suspect-by}
use Rattle.observer.proofs.suspect.Goals as goal

pub returns : goal.returns
returns c = suspect-by _ _ c.requires _ _ c.is_ambient.ensures c.bit_of.ensures
