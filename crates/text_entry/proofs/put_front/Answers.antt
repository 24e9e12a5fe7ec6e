-- `text_entry::put_front` meets its contract.
use Rattle.std.proofs.Common.{ap, arith, length, sym}
use Rattle.text_put.specs.Laws.{put_as, put-nil}
use Rattle.text_form.specs.Laws.Putting.{numbered-none, numbered-some}
use Rattle.text_entry.proofs.put_front.Goals as goal

pub put_field-requires : goal.put_field-requires
put_field-requires c = omega (arith, c.requires, ap length (numbered-some _ _ c.in-Some.is))

pub returns-in-Some : goal.returns-in-Some
returns-in-Some c = put_as (sym (numbered-some _ _ c.in-Some.is)) c.put_field.ensures

pub returns-in-None : goal.returns-in-None
returns-in-None c = put_as (sym (numbered-none _ c.in-None.is)) (put-nil _ _)
