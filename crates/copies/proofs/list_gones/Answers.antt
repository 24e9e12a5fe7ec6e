-- The goals of `copies::list_gones`; the argument stands in Invariants.
use Rattle.std.proofs.Common.{◌+◌, ◌≡◌, ◌∙◌, ap, arith, eqb, length, sym}
use Rattle.copies.specs.Laws.{listed-more, listed-none, listed-skip}
use Rattle.model.proofs.Laws.Bytes.{at-whole, length-records, valid-whole}
use Rattle.model.specs.Copies.{gones}
use Rattle.model.specs.Records.{at, count, records}
use Rattle.copies.proofs.list_gones.Goals as goal
use Rattle.copies.proofs.list_gones.Goals.{After-is_gone, then-is_gone, else-is_gone}

-- what is read is whether record i + 1 is gone
told : (c : After-is_gone) → eqb (at (records c.args.it.now) (c.loop-i.i + 1)).kind 0 ≡ c.is_gone.result
told c =
    rw (← c.it.view_is) (ap (λ r. eqb r.kind 0) (at-whole _ (valid-whole _ c.it.invariant) (c.loop-i.i + 1) ∙ sym c.record_in.ensures) ∙ sym c.is_gone.ensures)

pub loop-i-init : goal.loop-i-init
loop-i-init c = listed-none _ _

pub record_in-requires-clause-whole : goal.record_in-requires-clause-whole
unfolding count
record_in-requires-clause-whole c = omega (arith, ap count c.it.view_is)

pub bounds-list-n : goal.bounds-list-n
unfolding count
bounds-list-n c = omega (arith, c.loop-i.invariant.few, c.requires)

pub loop-i-preserved : goal.loop-i-preserved
unfolding count
loop-i-preserved c =
    let e = told (goal.at.loop-i-preserved c).After-is_gone in
    elim c.if-is_gone.branch [
      | then-is_gone v ↦ rw (v.list-is, v.n-is) (listed-more _ c.loop-i.invariant (e ∙ v.if-is_gone.true) (omega (arith, c.loop-i.invariant.few, c.requires)))
      | else-is_gone v ↦ rw (v.list-is, v.n-is) (listed-skip _ c.loop-i.invariant (e ∙ v.if-is_gone.false))
    ]

pub returns : goal.returns
unfolding gones count
returns c =
    let e : c.loop-i.i ≡ length (records c.args.it.now) = omega (arith, length-records c.args.it.now) in
    rw (← e) c.loop-i.invariant.listed
