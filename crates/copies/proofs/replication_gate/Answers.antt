-- `copies::replication_gate` meets its contract.
use Rattle.std.proofs.Common.{◌∙◌, ap}
use Rattle.copies.specs.Laws.{active-by}
use Rattle.model.proofs.Laws.Bytes.{valid-whole}
use Rattle.model.specs.Climbing.{ambients_only}
use Rattle.model.specs.Numbers.{number_of}
use Rattle.model.specs.Refusals.{need}
use Rattle.records.specs.Climbs.{view-from}
use Rattle.copies.proofs.replication_gate.Goals as goal

pub ambients-active-requires : goal.ambients-active-requires
ambients-active-requires c = valid-whole _ c.it.invariant

pub returns : goal.returns
unfolding number_of
returns c =
    let e = active-by _ _ _ (valid-whole _ c.it.invariant) c.record_at-r.ensures c.is_replication.ensures (c.ambients-active.ensures ∙ view-from ambients_only _ _) in
    rw (← c.it.view_is) (c.need.ensures ∙ ap (λ t. need t 17 0) e)
