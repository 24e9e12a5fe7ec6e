-- The goals of `move_list::fitting`; the argument stands in Invariants.
use Rattle.std.proofs.Common.{◌≡◌, ◌+◌, ℕ, List, ◌∙◌, ap, arith}
use Rattle.model.specs.Finite.{one_if, tally}
use Rattle.model.specs.Records.{count, decode}
use Rattle.steps.specs.Moves.{fit_by}
use Rattle.move_list.specs.Laws.{byte-fits, places-end, places-start, tally-next}
use Rattle.move_list.proofs.fitting.Goals as goal

pub loop-b-init : goal.loop-b-init
loop-b-init c = (omega arith, places-start c.places-first.ensures (decode c.args.it.now))

pub record_in-requires-clause-whole : goal.record_in-requires-clause-whole
unfolding count
record_in-requires-clause-whole c = omega (arith, c.places-first.ensures.inside, c.count.ensures, ap count c.it.view_is)

pub overflow_add-b : goal.overflow_add-b
overflow_add-b c = omega (arith, c.places-first.ensures.inside)

pub loop-b-preserved : goal.loop-b-preserved
loop-b-preserved c =
    let e = c.fits.ensures ∙ ap (λ r. fit_by c.args.x r (c.loop-b.b + 1)) (c.record_in.ensures ∙ ap (λ (s : List ℕ). decode s (c.loop-b.b + 1)) c.it.view_is) in
    let k = byte-fits c.fits.result in
    (omega (arith, k.1, c.loop-b.invariant.0), tally-next _ _ _ _ c.loop-b.invariant.1 (k.0 ∙ ap one_if e))

pub returns : goal.returns
returns c =
    let e : c.loop-b.b ≡ c.places-first.result.1 = omega (arith, c.places-first.ensures.ordered) in
    c.loop-b.invariant.1 ∙ ap (tally _) e ∙ places-end c.places-first.ensures (decode c.args.it.now) ∙ ap (tally _) c.count.ensures
