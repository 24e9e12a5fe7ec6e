-- `text_line::client` meets its contract: a number's bytes are inside, so that there are few of them.
use Rattle.std.proofs.Common.{sym, arith, ◌∙◌}
use Rattle.text_form.specs.Laws.Numerals.{width-inside}
use Rattle.text_form.specs.declared.Cause.TheVariants as cause
use Rattle.text_line.proofs.client.Goals as goal

pub overflow_add-result : goal.overflow_add-result
overflow_add-result c = omega (arith, width-inside cause.NoClient _ (sym c.number.ensures ∙ c.in_ok-client.was))
