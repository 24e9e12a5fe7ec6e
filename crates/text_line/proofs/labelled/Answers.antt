-- `text_line::labelled` meets its contract: the label fits, and its bytes are inside.
use Rattle.std.proofs.Common.{◌∙◌, sym, arith}
use Rattle.model.proofs.Laws.WellFormed.{label-by}
use Rattle.text_form.specs.Laws.Numerals.{width-inside}
use Rattle.text_form.specs.declared.Cause.TheVariants as cause
use Rattle.text_line.proofs.labelled.Goals as goal

pub overflow_cast-label : goal.overflow_cast-label
overflow_cast-label c = record { fits = omega (arith, label-by _ _ _ (sym c.label_by.ensures ∙ c.if-not-label_by.false)) }

pub slice_bounds-named-count : goal.slice_bounds-named-count
slice_bounds-named-count c = width-inside cause.NoLabel _ (sym c.number.ensures ∙ c.in_ok-label.was)

pub slice_bounds-named-start : goal.slice_bounds-named-start
slice_bounds-named-start c = width-inside cause.NoLabel _ (sym c.number.ensures ∙ c.in_ok-label.was)
