-- `text_numeral::number` meets its contract: digits after the number.
use Rattle.std.proofs.Common.{◌∙◌, ap, sym}
use Rattle.std.specs.Prelude.{Err}
use Rattle.text_form.specs.Laws.Scanning.{number_more}
use Rattle.text_form.specs.Reading.{digit}
use Rattle.text_numeral.proofs.number.Goals as goal

pub returns-then-is_ascii_digit : goal.returns-then-is_ascii_digit
unfolding digit
returns-then-is_ascii_digit c =
    ap Err c.digits_cause.ensures ∙ sym (number_more _ _ (sym c.numeral.ensures ∙ c.in-Some.is) (ap digit (sym c.byte_at.ensures) ∙ sym c.is_ascii_digit.ensures.value ∙ c.if-is_ascii_digit.true))
