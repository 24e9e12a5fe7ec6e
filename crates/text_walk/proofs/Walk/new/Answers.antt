-- `text_walk::Walk::new` meets its contract: the walk begins at the environment, with as many visits as there are records.
use Rattle.std.proofs.Common.{ap, sym}
use Rattle.model.specs.Records.{records}
use Rattle.text_form.specs.Laws.Walking.{whole-count}
use Rattle.text_form.specs.Writing.{walk, walk_from}
use Rattle.text_walk.specs.Visits.{visits_left}
use Rattle.text_walk.proofs.Walk.new.Goals as goal

pub returns : goal.returns
unfolding visits_left walk
returns c = ap (λ n. walk_from (records c.args.it.now) n 0 0) (sym (whole-count c.args.it.now))
