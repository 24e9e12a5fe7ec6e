-- `verdicts::meets` meets its contract. The loop's invariant: `met` says whether a label below k is in both.
use Rattle.std.proofs.Common.{◌≡◌}
use Rattle.model.specs.Finite.{some_of}
use Rattle.model.specs.Verdicts.{marked}
use Rattle.verdicts.proofs.meets.Given as goal

abbrev pub invariant-loop-k : goal.invariant-loop-k
invariant-loop-k l = l.met ≡ some_of l.k (marked l.r) (marked l.stop)
