-- `verdicts::lowest` meets its contract. The loop's invariant: no label below k passes.
use Rattle.std.proofs.Common.{ℕ, ◌<◌, false}
use Rattle.verdicts.proofs.lowest.Given as goal

abbrev pub invariant-loop-k : goal.invariant-loop-k
invariant-loop-k g l = (j : ℕ) → j < l.k → goal.F-post g l.passes j false
