-- `text_write::list_with` meets its contract.
use Rattle.std.proofs.Common.{◌≡◌, rules}
use Rattle.std.specs.Prelude.{Err}
use Rattle.text_form.specs.Laws.Listing.{list-whole, list_done, list-refused, list-valid}
use Rattle.text_form.specs.Laws.Walking.{valid-sized}
use Rattle.text_form.specs.Writing.{written_as}
use Rattle.text_form.specs.declared.WriteError.TheVariants.{Refused}
use Rattle.text_write.proofs.list_with.Goals as goal

pub returns-in_err-sheet : goal.returns-in_err-sheet
unfolding written_as
returns-in_err-sheet c =
    let e : c.from_residual.result ≡ Err (Refused c.in_err-sheet.field-0.0) = search rules in
    let w = list-refused c.args.it.now c.args.table.now c.args.text.now c.args.sheet.now c.sheet.new.sheet c.requires c.sheet.result c.sheet.ensures.answer c.sheet.ensures.sheet c.in_err-sheet.was in
    record { answer = rw e w.0; bytes = w.1 }

pub write_by-requires : goal.write_by-requires
write_by-requires c = record {
  whole = valid-sized _ (list-valid c.args.it.now c.args.table.now c.args.text.now c.args.sheet.now c.sheet.new.sheet c.requires c.sheet.result c.sheet.ensures.answer c.sheet.ensures.sheet c.in_ok-sheet.was);
  sheet = list-whole c.args.it.now c.args.table.now c.args.text.now c.args.sheet.now c.sheet.new.sheet c.requires c.sheet.result c.sheet.ensures.answer c.sheet.ensures.sheet c.in_ok-sheet.was c.sheet.auto.sheet;
}

pub returns : goal.returns
returns c =
    let w = list_done c.args.it.now c.args.table.now c.args.text.now c.args.sheet.now c.sheet.new.sheet c.requires c.sheet.result c.sheet.ensures.answer c.sheet.ensures.sheet c.in_ok-sheet.was _ _ c.write_by.ensures in
    record { answer = w.0; bytes = w.1 }
