-- `observer::write_sheet` meets its contract. The sheet starts as a copy of the itinerary and only the environment decided;
-- hiding goes on from there.
use Rattle.model.specs.Climbing.{hiding}
use Rattle.model.specs.Observer.{sheet_of}
use Rattle.model.specs.Tables.{suspects}
use Rattle.std.proofs.Common.{◌∙◌, ap}
use Rattle.ways.specs.Laws.{noting-root}
use Rattle.ways.specs.Valid.{valid-viewable}
use Rattle.observer.specs.Labels.{labels, sheet_by}
use Rattle.observer.proofs.write_sheet.Goals as goal

pub hide-requires : goal.hide-requires
hide-requires c = record {
  valid = c.it.invariant;
  noting = noting-root (hiding (labels c.suspects.result)) (valid-viewable _ c.it.invariant);
  copied = c.copy.ensures;
}

pub returns : goal.returns
unfolding sheet_by sheet_of
returns c = c.hide.ensures ∙ ap (sheet_by _) c.suspects.ensures ∙ ap (λ s. sheet_by s (suspects c.args.table.now)) c.it.view_is
