-- `steps::ready` meets its contract.
use Rattle.std.proofs.Common.{◌∙◌, ap}
use Rattle.model.specs.Climbing.{ambients_only}
use Rattle.model.specs.Records.{is_ambient}
use Rattle.records.specs.Climbs.{view-from}
use Rattle.steps.specs.Laws.{ready-open, ready-other}
use Rattle.steps.proofs.ready.Goals as goal

pub returns-in-Open : goal.returns-in-Open
returns-in-Open c = rw c.in-Open.is (ready-open _ _ c.requires (c.ambients-active.ensures ∙ view-from ambients_only _ _))

pub returns-in_default : goal.returns-in_default
returns-in_default c = ready-other _ _ c.requires (c.ambients-active.ensures ∙ view-from ambients_only _ _) _ c.in_default.not-Open (c.is_ambient.ensures ∙ ap is_ambient c.record_at.ensures)
