-- `listing::put_counts` meets its contract: four fields, each of at most six bytes.
use native.Mathlib.Omega.{arith}
use Rattle.listing.specs.Laws.{counts-put}
use Rattle.text_put.specs.Laws.{by-short}
use Rattle.listing.proofs.put_counts.Goals as goal

pub put_field-outs-requires : goal.put_field-outs-requires
put_field-outs-requires c =
    let s = c.args.s in omega (arith, c.requires, by-short s.counts.ins 32, by-short s.counts.outs 32)

pub put_field-opens-requires : goal.put_field-opens-requires
put_field-opens-requires c =
    let s = c.args.s in omega (arith, c.requires, by-short s.counts.ins 32, by-short s.counts.outs 32, c.put_field-outs.ensures.end, c.put_field-outs.auto.text)

pub put_field-left-requires : goal.put_field-left-requires
put_field-left-requires c =
    let s = c.args.s in omega (arith, c.requires, by-short s.counts.ins 32, by-short s.counts.outs 32, by-short s.counts.opens 32, c.put_field-outs.ensures.end, c.put_field-outs.auto.text, c.put_field-opens.ensures.end, c.put_field-opens.auto.text)

pub put_field-requires : goal.put_field-requires
put_field-requires c =
    let s = c.args.s in omega (arith, c.requires, by-short s.counts.ins 32, by-short s.counts.outs 32, by-short s.counts.opens 32, by-short s.records 10, c.put_field-outs.ensures.end, c.put_field-outs.auto.text, c.put_field-opens.ensures.end, c.put_field-opens.auto.text, c.put_field-left.ensures.end, c.put_field-left.auto.text)

pub returns : goal.returns
returns c =
    counts-put _ c.requires c.put_field-outs.ensures c.put_field-opens.ensures c.put_field-left.ensures c.put_field.ensures
