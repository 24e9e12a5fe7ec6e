-- `text_line::worded` meets its contract: what follows the first word that the line starts with is the rest of the line.
use Rattle.std.proofs.Common.{◌∙◌, ap, refl, sym}
use Rattle.text_form.specs.Laws.Scanning.{worded-here, worded-later, worded_end}
use Rattle.text_form.specs.Reading.{kinds, labelled, worded}
use Rattle.text_line.proofs.worded.Goals as goal

pub loop-kind-init : goal.loop-kind-init
unfolding worded kinds
loop-kind-init c = refl

pub loop-kind-preserved : goal.loop-kind-preserved
loop-kind-preserved c = c.loop-kind.invariant ∙ worded-later _ _ _ _ _ c.loop-kind-test.true c.kind_word.ensures c.in_default.ensures.cases

pub returns-in-Some : goal.returns-in-Some
returns-in-Some c =
    let cut = c.in-Some.ensures.cases in
    c.labelled.ensures ∙ ap (labelled _ _) cut.1 ∙ sym (c.loop-kind.invariant ∙ worded-here _ _ _ _ _ c.loop-kind-test.true c.kind_word.ensures cut.0)

pub returns : goal.returns
returns c = c.unworded.ensures ∙ sym (c.loop-kind.invariant ∙ worded_end _ _ _ _ c.loop-kind-test.false)
