-- The goals of `scripts::not_gone`; the argument stands in Invariants.
use Rattle.std.proofs.Common.{arith}
use Rattle.scripts.specs.NotGone.{none_yet, one_more, all_seen}
use Rattle.scripts.proofs.not_gone.Goals as goal

pub loop-i-init : goal.loop-i-init
loop-i-init c = (omega arith, none_yet _)

pub loop-i-preserved : goal.loop-i-preserved
loop-i-preserved c = (
  omega (arith, c.present-sum.ensures.one_at_most),
  one_more _ c.requires.whole _ _ _ _ c.loop-i.invariant.1 c.record_at.ensures c.present-sum.ensures.counted,
)

pub returns : goal.returns
returns c = all_seen _ _ _ (omega arith) c.loop-i.invariant.1
