-- `listing::put_screen` meets its contract: line one has at most 20 bytes and the last at most 28, so that each part has room;
-- put one after the other they are the listing.
use lib.ListN.{length-append}
use mathlib.Core.List.{[]}
use native.Mathlib.Omega.{arith}
use Rattle.listing.specs.Laws.{listing-put, verdict-few}
use Rattle.model.specs.Listing.{end_word, field, last_field, verdict_word}
use Rattle.model.specs.Numbers.{label_of}
use Rattle.text_put.specs.Laws.{line-few}
use Rattle.listing.proofs.put_screen.Goals as goal

pub put_steps-last-requires : goal.put_steps-last-requires
put_steps-last-requires c =
    let s = c.args.s in omega (arith, c.requires, length-append (verdict_word s.verdict) (field (label_of s.verdict) (last_field s.ones [])), verdict-few s.verdict, line-few (label_of s.verdict) s.ones, c.put_verdict-first.ensures.end, c.put_verdict-first.auto.text)

pub put-end-requires : goal.put-end-requires
put-end-requires c =
    let s = c.args.s in omega (arith, c.requires, length-append (verdict_word s.verdict) (field (label_of s.verdict) (last_field s.ones [])), verdict-few s.verdict, line-few (label_of s.verdict) s.ones, c.put_verdict-first.ensures.end, c.put_verdict-first.auto.text, c.put_steps-last.ensures.end, c.put_steps-last.auto.text)

pub put_counts-requires : goal.put_counts-requires
put_counts-requires c =
    let s = c.args.s in omega (arith, c.requires, length-append (verdict_word s.verdict) (field (label_of s.verdict) (last_field s.ones [])), verdict-few s.verdict, line-few (label_of s.verdict) s.ones, c.put_verdict-first.ensures.end, c.put_verdict-first.auto.text, c.put_steps-last.ensures.end, c.put_steps-last.auto.text, c.put-end.ensures.end, c.put-end.auto.text)

pub returns : goal.returns
unfolding end_word
returns c =
    listing-put _ _ _ c.requires c.put_verdict-first.ensures c.put_steps-last.ensures c.put-end.ensures c.put_counts.ensures
