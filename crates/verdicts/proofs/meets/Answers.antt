-- The goals of `verdicts::meets`; the argument stands in Invariants.
use Rattle.std.proofs.Common.{◌∙◌, arith}
use Rattle.model.specs.Verdicts.{marked}
use Rattle.verdicts.specs.Laws.{some-all, some_next, some-none}
use Rattle.verdicts.proofs.meets.Goals as goal

pub loop-k-init : goal.loop-k-init
loop-k-init c = some-none _ _

pub loop-k-preserved : goal.loop-k-preserved
unfolding marked
loop-k-preserved c = some_next _ _ c.loop-k.k c.loop-k.invariant

pub returns : goal.returns
returns c = c.loop-k.invariant ∙ some-all _ _ (omega arith)
