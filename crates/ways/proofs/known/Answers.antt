-- `ways::known` meets its contract: in a valid itinerary no climb is lost.
use Rattle.model.specs.Records.{count}
use Rattle.ways.specs.Valid.{found-some}
use Rattle.ways.proofs.known.Goals as goal

pub unwrap-requires : goal.unwrap-requires
unfolding count
unwrap-requires g c = found-some _ c.requires.valid c.args.j c.requires.inside _ c.climb.ensures.lost
