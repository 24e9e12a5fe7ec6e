-- The goals of `copies::list_noting`; the argument stands in Invariants.
use Rattle.std.proofs.Common.{◌+◌, ◌≡◌, ◌∙◌, arith, length, sym}
use Rattle.copies.specs.Laws.{listed-more, listed-none, listed-skip}
use Rattle.model.proofs.Laws.Bytes.{length-records}
use Rattle.model.specs.Climbing.{is_beneath}
use Rattle.model.specs.Copies.{beneath}
use Rattle.model.specs.Records.{count, records}
use Rattle.copies.proofs.list_noting.Goals as goal
use Rattle.copies.proofs.list_noting.Goals.{After-found, then-found, else-found}

-- what is found is whether record i + 1 stands beneath
told : (c : After-found) → is_beneath (records c.args.it.now) c.args.c (c.loop-i.i + 1) ≡ c.found.result
unfolding count
told c = let f = c.found.ensures in sym ((f.noted.noting.told _ _ (omega arith) f.here).is)

pub loop-i-init : goal.loop-i-init
loop-i-init c = (c.requires.noting, listed-none _ _)

pub found-requires-clause-inside : goal.found-requires-clause-inside
unfolding count
found-requires-clause-inside c = omega arith

pub bounds-list-n : goal.bounds-list-n
unfolding count
bounds-list-n c = omega (arith, c.loop-i.invariant.1.few, c.requires.room)

pub loop-i-preserved : goal.loop-i-preserved
unfolding count
loop-i-preserved c =
    let e = told (goal.at.loop-i-preserved c).After-found in (
      c.found.ensures.noted.noting,
      elim c.if-found.branch [
        | then-found v ↦ rw (v.list-is, v.n-is) (listed-more _ c.loop-i.invariant.1 (e ∙ v.if-found.true) (omega (arith, c.loop-i.invariant.1.few, c.requires.room)))
        | else-found v ↦ rw (v.list-is, v.n-is) (listed-skip _ c.loop-i.invariant.1 (e ∙ v.if-found.false))
      ],
    )

pub returns : goal.returns
unfolding beneath count
returns c =
    let e : c.loop-i.i ≡ length (records c.args.it.now) = omega (arith, length-records c.args.it.now) in
    rw (← e) c.loop-i.invariant.1.listed
