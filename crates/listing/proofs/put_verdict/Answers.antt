-- `listing::put_verdict` meets its contract: each fixed byte string is the word of its verdict.
use mathlib.Core.List.{[], ◌++◌}
use mathlib.Core.Path.{ap, sym}
use Rattle.model.specs.Listing.{field, last_field, verdict_word}
use Rattle.model.specs.Numbers.{label_of}
use Rattle.text_put.specs.Laws.{put_as}
use Rattle.listing.proofs.put_verdict.Goals as goal

pub returns-in-Exposed : goal.returns-in-Exposed
unfolding verdict_word label_of
returns-in-Exposed c =
    let ones = c.args.ones in put_as (sym (ap (λ u. verdict_word u ++ field (label_of u) (last_field ones [])) c.in-Exposed.is)) c.put_line.ensures

pub returns-in-Hinted : goal.returns-in-Hinted
unfolding verdict_word label_of
returns-in-Hinted c =
    let ones = c.args.ones in put_as (sym (ap (λ u. verdict_word u ++ field (label_of u) (last_field ones [])) c.in-Hinted.is)) c.put_line-in-Hinted.ensures

pub returns-in-Sealed : goal.returns-in-Sealed
unfolding verdict_word label_of
returns-in-Sealed c =
    let ones = c.args.ones in put_as (sym (ap (λ u. verdict_word u ++ field (label_of u) (last_field ones [])) c.in-Sealed.is)) c.put_line-in-Sealed.ensures
