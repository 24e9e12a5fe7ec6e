-- The goals of `move_list::put_moves_of`; the argument stands in Invariants.
use Rattle.std.specs.Prelude.{◌<◌}
use Rattle.std.proofs.Common.{◌≡◌, ◌%◌, ◌+◌, ℕ, List, length, ◌∙◌, ap, arith, sym}
use Rattle.model.specs.MoveList.{list_bytes}
use Rattle.model.specs.Records.{count, decode, records}
use Rattle.move_list.specs.Laws.{actor-left, few-records, left-before, left-behind, left-fits, left-unfit}
use Rattle.move_list.specs.Pairs.{left, listed_at, pair}
use Rattle.steps.specs.Moves.{Places}
use Rattle.text_put.specs.Laws.{putting-end, putting-on, putting-room, putting-start}
use Rattle.move_list.proofs.put_moves_of.Goals as goal
use Rattle.move_list.proofs.put_moves_of.Goals.{After-fits, After-places-first, then-fits, else-fits}

-- where an actor's partners stand, of as many records as the bytes have
found : (c : After-places-first) → Places c.args.x (count c.args.it.now) c.places-first.result.0 c.places-first.result.1
found c = rw (← c.count.ensures) c.places-first.ensures

pub loop-b-init : goal.loop-b-init
loop-b-init c =
    let p = found (goal.at.loop-b-init c).After-places-first in
    let e = actor-left c.args.it.now c.args.actor ∙ left-before (records c.args.it.now) c.args.actor c.args.x c.requires.ready p in
    rw (← e) (putting-start _ _ _ c.requires.room)

pub record_in-requires-clause-whole : goal.record_in-requires-clause-whole
unfolding count
record_in-requires-clause-whole c = omega (arith, c.places-first.ensures.inside, c.count.ensures, ap count c.it.view_is)

pub overflow_add-b : goal.overflow_add-b
overflow_add-b c = omega (arith, c.places-first.ensures.inside)

whole : (c : After-fits) → length c.args.it.now % 8 ≡ 0
whole c = rw (← c.it.view_is) (few-records _ c.it.invariant).2

below : (c : After-fits) → c.loop-b.b < count c.args.it.now
below c = omega (arith, c.places-first.ensures.inside, c.count.ensures)

read : (c : After-fits) → c.record_in.result ≡ decode c.args.it.now (c.loop-b.b + 1)
read c = c.record_in.ensures ∙ ap (λ (s : List ℕ). decode s (c.loop-b.b + 1)) c.it.view_is

pub put_pair-end-requires : goal.put_pair-end-requires
unfolding list_bytes pair
put_pair-end-requires c =
    let w = (goal.at.put_pair-end-requires c).After-fits in
    putting-room (list_bytes (pair c.args.actor (c.loop-b.b + 1))) (left (listed_at (records c.args.it.now) c.args.actor) (count c.args.it.now) (c.loop-b.b + 1)) c.loop-b.invariant (left-fits _ _ c.args.x c.requires.ready _ (below w) _ (read w) (whole w) (sym c.if-fits.true ∙ c.fits.ensures))

pub loop-b-preserved : goal.loop-b-preserved
loop-b-preserved c =
    let w = (goal.at.loop-b-preserved c).After-fits in
    elim c.if-fits.branch [
      | then-fits v ↦ rw (v.list-is, v.end-is)
          (putting-on c.loop-b.invariant (left-fits _ _ c.args.x c.requires.ready _ (below w) _ (read w) (whole w) (sym v.if-fits.true ∙ c.fits.ensures)) v.put_pair-end.auto.list v.put_pair-end.ensures)
      | else-fits v ↦ rw (v.list-is, v.end-is, ← left-unfit _ _ c.args.x c.requires.ready _ (below w) _ (read w) (whole w) (sym v.if-fits.false ∙ c.fits.ensures)) c.loop-b.invariant
    ]

pub returns : goal.returns
returns c =
    let p = found (goal.at.returns c).After-places-first in
    let e : c.loop-b.b ≡ c.places-first.result.1 = omega (arith, p.ordered) in
    putting-end c.loop-b.invariant (ap (left (listed_at (records c.args.it.now) c.args.actor) (count c.args.it.now)) e ∙ left-behind (records c.args.it.now) c.args.actor c.args.x c.requires.ready p)
