-- `table_closure::close_nesting` meets its contract. The loop's invariant: I lies in every closed set around the table, the
-- words of movers have none but its own, and `count` counts its capabilities. A round takes all movers and closes I with them; where it
-- adds no capability, it adds no mover, and I is closed. Else the count grows: what is left of 64 * 64 falls.
use Prim.Native.Nat.{◌-◌}
use Rattle.model.proofs.Laws.Sets.{Narrow}
use Rattle.tables.specs.Grow.{Grown, Any}
use lib.ListN.{length}
use mathlib.Core.Path.{◌≡◌}
use Rattle.table_movers.specs.Movers.{OnlyMovers}
use Rattle.table_words.specs.BitSets.{Bits}
use Rattle.table_partners.specs.Rules.{RulesClosed}
use Rattle.table_closure.specs.Capabilities.{capabilities}
use Rattle.table_closure.proofs.close_nesting.Given as goal

abbrev pub invariant-loop-count : goal.invariant-loop-count
invariant-loop-count l =
    (length l.w ≡ 193) × (length l.movers ≡ 192) × (l.count ≡ capabilities l.w 64) × Narrow 64 l.w × OnlyMovers l.partners (Bits l.w) l.movers
    × Grown (RulesClosed l.partners) Any (Bits l.initial.w) (Bits l.w)

abbrev pub decreases-loop-count : goal.decreases-loop-count
decreases-loop-count l = 4096 - l.count
