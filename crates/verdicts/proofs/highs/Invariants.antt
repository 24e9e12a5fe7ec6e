-- `verdicts::highs` meets its contract. The loop's invariant: of the labels below k the set has the high ones.
use Rattle.std.proofs.Common.{◌≡◌, length}
use Rattle.verdicts.specs.Laws.{HighsBelow}
use Rattle.verdicts.proofs.highs.Given as goal

abbrev pub invariant-loop-k : goal.invariant-loop-k
invariant-loop-k l = (length l.q ≡ 64) × HighsBelow l.policy l.k l.q
