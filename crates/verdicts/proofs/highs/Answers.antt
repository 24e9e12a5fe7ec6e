-- The goals of `verdicts::highs`; the argument stands in Invariants.
use Rattle.std.proofs.Common.{length-set, arith, rules}
use Rattle.verdicts.specs.Laws.{highs-end, highs-next, highs-start}
use Rattle.verdicts.proofs.highs.Goals as goal

pub loop-k-init : goal.loop-k-init
loop-k-init c = (search rules, highs-start _ _)

pub loop-k-preserved : goal.loop-k-preserved
loop-k-preserved c = let l = c.loop-k in (simp length-set l.invariant.0, highs-next _ l.k l.q (omega (arith, l.invariant.0)) l.invariant.1)

pub returns : goal.returns
returns c = let l = c.loop-k in highs-end _ l.k l.q (omega arith) l.invariant.1
