-- `text_put::put_field` meets its contract: the digits, then the byte after them.
use native.Mathlib.Omega.{arith}
use Rattle.text_put.specs.Laws.{by-length, field_put}
use Rattle.text_put.proofs.put_field.Goals as goal

pub put_number-last-requires : goal.put_number-last-requires
put_number-last-requires c = omega (arith, c.requires, by-length c.args.n c.args.end)

pub put_byte-requires : goal.put_byte-requires
put_byte-requires c = omega (arith, c.requires, by-length c.args.n c.args.end, c.put_number-last.ensures.end, c.put_number-last.auto.text)

pub returns : goal.returns
returns c = field_put _ _ c.requires c.put_number-last.ensures c.put_byte.ensures
