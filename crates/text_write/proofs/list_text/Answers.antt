-- `text_write::list_text` meets its contract.
use Rattle.text_form.specs.Laws.Listing.{list-long}
use Rattle.model.specs.Numbers.{number_of, unplaced}
use Rattle.text_form.specs.Writing.{written_as}
use Rattle.text_write.proofs.list_text.Goals as goal

pub returns-then-n-gt8192 : goal.returns-then-n-gt8192
unfolding written_as unplaced number_of
returns-then-n-gt8192 c =
    let w = list-long c.args.it.now c.args.table.now c.args.text.now c.if-n-gt8192.true in
    record { answer = rw c.into.ensures w.0; bytes = w.1 }
