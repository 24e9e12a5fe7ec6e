-- The goals of `observer::copy`; the argument stands in Invariants.
use Rattle.std.proofs.Common.{◌≢◌, ◌<◌, length, arith, below_more, get_or-set_other, get_or-set_same}
use Rattle.std.proofs.lemmas.List.{ext_get_or, length-set}
use Rattle.observer.proofs.copy.Goals as goal

pub loop-i-preserved : goal.loop-i-preserved
loop-i-preserved c =
    let l = c.loop-i in
    let lt : l.i < length l.sheet = omega arith in (
      simp length-set l.invariant.0,
      below_more _ _
          (λ k h. let ne : k ≢ l.i = omega arith in rw get_or-set_other (l.invariant.1 k h))
          (rw get_or-set_same),
    )

pub returns : goal.returns
returns c = let l = c.loop-i in ext_get_or 0 _ _ l.invariant.0 (λ k h. l.invariant.1 k (omega arith))
