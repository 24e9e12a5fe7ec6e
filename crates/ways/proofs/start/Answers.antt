-- `ways::start` meets its contract: a record within the count is whole.
use Rattle.ways.specs.Laws.{whole_in}
use Rattle.ways.proofs.start.Goals as goal

pub parent_of-requires : goal.parent_of-requires
parent_of-requires c = record { some = c.requires.some; whole = whole_in _ _ c.requires.inside }
