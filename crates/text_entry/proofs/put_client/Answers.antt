-- `text_entry::put_client` meets its contract: a space and the digits, and nothing for 0.
use Rattle.std.proofs.Common.{ap, arith, length, sym}
use Rattle.text_put.specs.Laws.{put_as, put-nil}
use Rattle.text_form.specs.Laws.Clients.{client-none, client-some}
use Rattle.text_form.specs.Laws.Putting.{client-put}
use Rattle.text_entry.proofs.put_client.Goals as goal

pub returns-then-client-eq0 : goal.returns-then-client-eq0
returns-then-client-eq0 c = put_as (sym (client-none _ c.if-client-eq0.true)) (put-nil _ _)

pub put_byte-number-requires : goal.put_byte-number-requires
put_byte-number-requires c = omega (arith, c.requires, ap length (client-some c.args.client c.if-client-eq0.false))

pub put_number-requires : goal.put_number-requires
put_number-requires c =
    let space = c.put_byte-number in
    omega (arith, c.requires, ap length (client-some c.args.client c.if-client-eq0.false), space.ensures.end, space.auto.text)

pub returns : goal.returns
returns c = client-put c.args.client c.if-client-eq0.false c.requires c.put_byte-number.ensures c.put_number.ensures
