-- `record_checks::parent_right` meets its contract: by whether the parent is the environment, and within the count.
use Rattle.model.specs.Validity.{parent_right}
use Rattle.std.proofs.Common.{arith}
use Rattle.record_checks.specs.Laws.{parent-far, parent-near}
use Rattle.record_checks.proofs.parent_right.Goals as goal

pub returns-then-p-eq0 : goal.returns-then-p-eq0
unfolding parent_right
returns-then-p-eq0 c = rw c.if-p-eq0.true

pub returns-then-p-it : goal.returns-then-p-it
returns-then-p-it c = parent-near _ _ c.if-p-eq0.false c.if-p-it.true

pub returns-else-p-it : goal.returns-else-p-it
returns-else-p-it c = parent-far _ _ c.if-p-eq0.false (omega (arith, c.if-p-it.false))
