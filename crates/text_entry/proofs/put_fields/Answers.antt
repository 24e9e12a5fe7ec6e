-- `text_entry::put_fields` meets its contract.
use Rattle.std.proofs.Common.{ap, arith, length}
use Rattle.text_put.specs.Laws.{by-length, put_as}
use Rattle.text_form.specs.Laws.Putting.{fields-length, fields-put}
use Rattle.text_entry.proofs.put_fields.Goals as goal

pub put-label-requires : goal.put-label-requires
put-label-requires c = omega (arith, c.requires, fields-length c.args.line, ap length c.line_word.ensures)

pub put_field-name-requires : goal.put_field-name-requires
put_field-name-requires c =
    let word = c.put-label in
    omega (arith, c.requires, fields-length c.args.line, by-length c.args.line.label 32, word.ensures.end, word.auto.text, ap length c.line_word.ensures)

pub put_number-client-requires : goal.put_number-client-requires
put_number-client-requires c =
    let word = c.put-label in
    let label = c.put_field-name in
    omega (arith, c.requires, fields-length c.args.line, by-length c.args.line.label 32, word.ensures.end, word.auto.text, ap length c.line_word.ensures, label.ensures.end, label.auto.text)

pub put_client-requires : goal.put_client-requires
put_client-requires c =
    let word = c.put-label in
    let label = c.put_field-name in
    let name = c.put_number-client in
    omega (arith, c.requires, fields-length c.args.line, by-length c.args.line.label 32, word.ensures.end, word.auto.text, ap length c.line_word.ensures, label.ensures.end, label.auto.text, name.ensures.end, name.auto.text)

pub returns : goal.returns
returns c = fields-put _ c.requires (put_as c.line_word.ensures c.put-label.ensures) c.put_field-name.ensures c.put_number-client.ensures c.put_client.ensures
