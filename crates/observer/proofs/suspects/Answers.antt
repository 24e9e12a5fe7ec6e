-- `observer::suspects` meets its contract: the word is the last of the table's.
use Rattle.observer.specs.Laws.{suspects-word}
use Rattle.observer.proofs.suspects.Goals as goal

pub returns : goal.returns
returns c = suspects-word _ _ c.told-table c.load.ensures
