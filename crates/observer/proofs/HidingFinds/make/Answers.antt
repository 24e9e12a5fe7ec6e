-- `observer::Hiding::make` meets its contract: by whether the record is suspect.
use Rattle.std.proofs.Common.{◌∙◌, ap}
use Rattle.model.specs.Climbing.{is_suspect}
use Rattle.observer.specs.Laws.{made}
use Rattle.observer.proofs.HidingFinds.make.Goals as goal

pub suspect-requires : goal.suspect-requires
suspect-requires c = rw c.record_in.ensures c.requires.labelled

pub returns : goal.returns
returns c = made _ c.args.number _ _ _ (c.suspect.ensures ∙ ap (is_suspect _) c.record_in.ensures)
