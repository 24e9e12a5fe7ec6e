-- `verdicts::reach_until` meets its contract. The loop's invariant: what is reached lies in R, and the rows of the labels seen
-- are in it, but for boundaries. Each label is seen once: the number of labels not seen falls. When all that is reached is
-- seen, it is R.
use Prim.Native.Nat.{◌-◌}
use lib.ListN.{length}
use mathlib.Core.Path.{◌≡◌}
use Rattle.model.proofs.Laws.Reach.{trues}
use Rattle.model.specs.Tables.{bits}
use Rattle.model.specs.Verdicts.{marked}
use Rattle.verdicts.specs.Laws.{Seen}
use Rattle.verdicts.specs.Reach.{ReachClosed}
use Rattle.tables.specs.Grow.{Grown, Any}
use Rattle.verdicts.proofs.reach_until.Given as goal

abbrev pub invariant-loop-stop : goal.invariant-loop-stop
invariant-loop-stop l = (length l.r ≡ 64) × (length l.seen ≡ 64) × Grown (ReachClosed (bits l.table) l.policy) Any (marked l.initial.r) (marked l.r) × Seen (bits l.table) l.policy l.seen (marked l.r)

abbrev pub decreases-loop-stop : goal.decreases-loop-stop
decreases-loop-stop l = 64 - trues l.seen
