-- `text_line::named` meets its contract: the name fits, and its bytes are inside.
use Rattle.std.proofs.Common.{◌∙◌, sym, arith}
use Rattle.model.proofs.Laws.WellFormed.{name-by}
use Rattle.text_form.specs.Laws.Numerals.{width-inside}
use Rattle.text_form.specs.declared.Cause.TheVariants as cause
use Rattle.text_line.proofs.named.Goals as goal

pub overflow_cast-name : goal.overflow_cast-name
overflow_cast-name c = record { fits = omega (arith, name-by _ _ (sym c.name_by.ensures ∙ c.if-not-name_by.false)) }

pub slice_bounds-served-count : goal.slice_bounds-served-count
slice_bounds-served-count c = width-inside cause.NoName _ (sym c.number.ensures ∙ c.in_ok-name.was)

pub slice_bounds-served-start : goal.slice_bounds-served-start
slice_bounds-served-start c = width-inside cause.NoName _ (sym c.number.ensures ∙ c.in_ok-name.was)
