-- The goals of `validity::climb_all`; the argument stands in Invariants.
use Rattle.std.proofs.Common.{◌∙◌, ◌+◌, ◌≡◌, Err, ap, sym, arith, rules}
use Rattle.model.specs.Numbers.{check_as, number_of}
use Rattle.model.proofs.Laws.Checks.{passed, refused-by, rest_end, rest-next, rest-refuse, rest-start}
use Rattle.model.specs.Records.{records}
use Rattle.model.specs.Refusals.{need}
use Rattle.model.specs.Validity.{climb_check}
use Rattle.validity.specs.Laws.{found-reaches}
use Rattle.ways.specs.Laws.{found-is}
use Rattle.validity.proofs.climb_all.Goals as goal
use Rattle.validity.proofs.climb_all.Goals.{After-need}

pub loop-i-init : goal.loop-i-init
loop-i-init c = (c.requires.noting, rest-start _ _)

-- the check of record i + 1
checked : (c : After-need) → check_as c.need.result ≡ climb_check (records c.args.it.now) (c.loop-i.i + 1)
unfolding climb_check number_of
checked c =
    let f = c.find-found.ensures in
    c.need.ensures ∙ ap (λ b. need b 6 (c.loop-i.i + 1)) (c.is_some.ensures ∙ found-reaches _ f.noted.noting.viewable.parented _ (omega (arith, c.requires.counted)) _ (λ x e. found-is f.noted _ (omega (arith, c.requires.counted)) _ f.here e) (rw (← c.requires.counted) f.lost))

pub returns-in_err-need : goal.returns-in_err-need
unfolding check_as
returns-in_err-need c =
    let e : c.from_residual.result ≡ Err c.in_err-need.field-0.0 = search rules in
    rw e (sym (c.loop-i.invariant.1 ∙ rest-refuse _ _ _ _ _ c.loop-i-test.true (refused-by _ _ (checked (goal.at.returns-in_err-need c).After-need) c.in_err-need.was)))

pub loop-i-preserved : goal.loop-i-preserved
loop-i-preserved c = (
  c.find-found.ensures.noted.noting,
  c.loop-i.invariant.1 ∙ rest-next _ _ _ c.loop-i-test.true (passed _ _ (checked (goal.at.loop-i-preserved c).After-need) c.in_ok-need.was),
)

pub returns : goal.returns
unfolding check_as
returns c = sym (c.loop-i.invariant.1 ∙ rest_end _ _ _ c.loop-i-test.false)
