-- `Itinerary::count` meets its contract: a valid itinerary is not longer than 16 bits count.
use Rattle.std.proofs.Common.{ap, arith}
use Rattle.model.proofs.Laws.Bytes.{valid-few}
use Rattle.model.specs.Records.{count}
use Rattle.records.proofs.Itinerary.count.Goals as goal

pub overflow_cast-result : goal.overflow_cast-result
overflow_cast-result c = omega (arith, valid-few _ c.self.invariant)

pub returns : goal.returns
unfolding count
returns c = ap count c.self.view_is
