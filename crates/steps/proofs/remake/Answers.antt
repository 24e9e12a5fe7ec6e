-- `steps::remake` meets its contract, by the parent that the record gets.
use Rattle.std.proofs.Common.{◌∙◌, ap, sym}
use Rattle.records.specs.Written.{with_record}
use Rattle.steps.specs.Laws.{remade-gone, remade-to}
use Rattle.steps.specs.Moves.{parent_after}
use Rattle.steps.proofs.remake.Goals as goal

pub returns-in-Some : goal.returns-in-Some
returns-in-Some c = c.put_parent.ensures ∙ ap (with_record _ _) (sym (remade-to _ _ _ (ap (parent_after _ _) (sym c.parent_of-p.ensures) ∙ sym c.parent_after.ensures ∙ c.in-Some.is)))

pub returns-in-None : goal.returns-in-None
returns-in-None c = c.put_record.ensures ∙ ap (with_record _ _) (c.gone.ensures ∙ sym (remade-gone _ _ _ (ap (parent_after _ _) (sym c.parent_of-p.ensures) ∙ sym c.parent_after.ensures ∙ c.in-None.is)))
