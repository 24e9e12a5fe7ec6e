-- `copies::list_beneath` meets its contract, with room for the notes of all numbers.
use Rattle.model.specs.Climbing.{below}
use Rattle.ways.specs.Laws.{noting-root}
use Rattle.ways.specs.Valid.{valid-viewable}
use Rattle.copies.proofs.list_beneath.Goals as goal

pub list_noting-requires : goal.list_noting-requires
list_noting-requires c = record { valid = c.it.invariant; noting = noting-root (below c.args.c) (valid-viewable _ c.it.invariant); room = rw c.it.view_is c.requires }

pub returns : goal.returns
returns c = rw (← c.it.view_is) c.list_noting.ensures
