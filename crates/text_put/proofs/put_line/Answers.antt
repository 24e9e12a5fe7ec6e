-- `text_put::put_line` meets its contract: the word, then two fields of at most six bytes each.
use native.Mathlib.Omega.{arith}
use Rattle.text_put.specs.Laws.{by-room, by-short, line-put}
use Rattle.text_put.proofs.put_line.Goals as goal

pub put_field-last-requires : goal.put_field-last-requires
put_field-last-requires c = by-room _ _ _ _ (omega (arith, c.requires, c.put-first.ensures.end, c.put-first.auto.text))

pub put_field-requires : goal.put_field-requires
put_field-requires c =
    by-room _ _ _ _ (omega (arith, c.requires, by-short c.args.n 32, c.put-first.ensures.end, c.put-first.auto.text, c.put_field-last.ensures.end, c.put_field-last.auto.text))

pub returns : goal.returns
returns c = line-put _ _ c.requires c.put-first.ensures c.put_field-last.ensures c.put_field.ensures
