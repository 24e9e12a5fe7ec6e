-- `validity::climbs` meets its contract: where the records are in order all reach the environment; otherwise, before the first
-- climb, the environment alone has its note.
use Rattle.std.proofs.Common.{◌∙◌, sym}
use Rattle.model.specs.Numbers.{check_as}
use Rattle.validity.specs.Arriving.{arriving}
use Rattle.validity.specs.Laws.{ordered}
use Rattle.ways.specs.Laws.{noting-root}
use Rattle.validity.proofs.climbs.Goals as goal

pub returns-then-ordered : goal.returns-then-ordered
unfolding check_as
returns-then-ordered c =
    let n = c.requires.counted in
    rw n (sym (ordered _ c.requires.viewable.parented (rw n at (sym c.requires.order ∙ c.if-ordered.true))))

pub climb_all-requires : goal.climb_all-requires
climb_all-requires c = record { noting = noting-root arriving c.requires.viewable; counted = c.requires.counted }
