-- `calls::sheet` meets its contract: what passes has room for the sheet.
use Rattle.model.proofs.Laws.Checks.{passed, passes}
use Rattle.model.specs.Calls.{showing}
use Rattle.calls.proofs.sheet.Goals as goal

pub write_sheet-requires : goal.write_sheet-requires
unfolding showing
write_sheet-requires c = let e = passed _ _ c.showing.ensures.checks c.in_ok-valid.was in rw c.in_ok-valid.ensures.same_itinerary (search passes depth 20)
