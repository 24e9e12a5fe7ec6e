-- `text_write::write_text` meets its contract.
use Rattle.std.proofs.Common.{◌≡◌, rules, sym}
use Rattle.std.specs.Prelude.{Err}
use Rattle.model.proofs.Laws.Checks.{answer-done, answer-refused}
use Rattle.model.specs.Calls.{validate_answer}
use Rattle.model.specs.Numbers.{answer_as, refusal}
use Rattle.model.specs.Refusals.{pass}
use Rattle.model.specs.Validity.{validity}
use Rattle.text_form.specs.Laws.Walking.{valid-sized, write_done, write-refused}
use Rattle.text_form.specs.Writing.{written_as}
use Rattle.text_form.specs.declared.WriteError.TheVariants.{Refused}
use Rattle.text_write.proofs.write_text.Goals as goal
use Rattle.text_write.proofs.write_text.Goals.{In_ok-validate}

pub returns-in_err-validate : goal.returns-in_err-validate
unfolding validate_answer answer_as refusal written_as
returns-in_err-validate c =
    let e : c.from_residual.result ≡ Err (Refused c.in_err-validate.field-0.0) = search rules in
    let w = write-refused c.args.it.now c.args.text.now _ _ (answer-refused _ _ (sym c.in_err-validate.ensures)) in
    record { answer = rw e w.0; bytes = w.1 }

valid : (c : In_ok-validate) → validity c.args.it.now ≡ pass
unfolding validate_answer answer_as
valid c = answer-done _ _ _ (sym c.in_ok-validate.ensures)

pub write_by-requires : goal.write_by-requires
write_by-requires c =
    let w = valid-sized _ (valid ((goal.at.write_by-requires c).In_ok-validate)) in
    record { whole = w; sheet = w }

pub returns : goal.returns
returns c =
    let w = write_done _ _ _ _ (valid ((goal.at.returns c).In_ok-validate)) c.write_by.ensures in
    record { answer = w.0; bytes = w.1 }
