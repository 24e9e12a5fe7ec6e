-- `text_read::read_text` meets its contract.
use Rattle.std.proofs.Common.{◌∙◌, ap}
use Rattle.text_form.specs.Reading.{length_told, read_answer}
use Rattle.text_read.proofs.read_text.Goals as goal

pub returns-clause-answer : goal.returns-clause-answer
unfolding read_answer
returns-clause-answer c = c.length_told.ensures ∙ ap (length_told _) c.read_lines.ensures.answer
