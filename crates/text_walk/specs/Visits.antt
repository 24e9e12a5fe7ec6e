-- The visits that a walk has left.
use Rattle.std.specs.Prelude.{List}
use Rattle.model.specs.Records.{records}
use Rattle.text_form.specs.Writing.{walk_from}
use Rattle.text_form.specs.declared.Visit.{Visit}
use Rattle.text_walk.specs.declared.Walk.{Walk}

-- the visits that a walk has left
unfoldable pub visits_left : Walk → List Visit
visits_left w = walk_from (records w.it.now) w.left w.number w.depth
