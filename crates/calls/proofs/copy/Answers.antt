-- `calls::copy` meets its contract: what passed is a valid itinerary's active replication, and what stands beneath it has room.
use Rattle.std.proofs.Common.{◌≡◌, leb-true, true}
use Rattle.model.proofs.Laws.Checks.{passed, passes}
use Rattle.model.specs.Calls.{copying}
use Rattle.model.specs.Copies.{copy_fits}
use Rattle.model.specs.Records.{records}
use Rattle.calls.proofs.copy.Goals as goal

pub write-requires-clause-valid : goal.write-requires-clause-valid
unfolding copying
write-requires-clause-valid c = let e = passed _ _ c.copying.ensures.checks c.in_ok-n.was in search passes depth 20

pub write-requires-clause-active : goal.write-requires-clause-active
unfolding copying
write-requires-clause-active c = let e = passed _ _ c.copying.ensures.checks c.in_ok-n.was in search passes depth 20

pub write-requires-clause-fits : goal.write-requires-clause-fits
unfolding copying copy_fits
write-requires-clause-fits c =
    let e = passed _ _ c.copying.ensures.checks c.in_ok-n.was in
    let f : copy_fits (records c.args.it.now) c.args.number ≡ true = search passes depth 20 in
    rw (c.in_ok-n.ensures.originals.first, c.in_ok-n.ensures.places.first) (leb-true _ _ f)
