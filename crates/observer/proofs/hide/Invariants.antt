-- `observer::hide` meets its contract. The loop's invariant: the records passed stand on the sheet as they must, the others
-- as in the itinerary, and what is noted is right.
use Rattle.std.specs.Prelude.{◌≡◌}
use Rattle.records.specs.Written.{written}
use Rattle.model.specs.Climbing.{hiding}
use Rattle.model.specs.Observer.{on_sheet}
use Rattle.model.specs.Records.{records, update}
use Rattle.observer.specs.Labels.{labels}
use Rattle.ways.specs.Ways.{Noting}
use Rattle.observer.proofs.hide.Given as goal

abbrev pub invariant-loop-i : goal.invariant-loop-i
invariant-loop-i l = Noting (hiding (labels l.suspects)) l.it l.notes × (l.sheet ≡ written (update (on_sheet (records l.it) (labels l.suspects)) (records l.it)) l.i l.it)
