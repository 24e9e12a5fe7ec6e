-- `joins::count` meets its contract. The loop's invariant: with the records of the members that are left these are all.
use Rattle.std.specs.Prelude.{◌*◌, ◌+◌, ◌≤◌, ◌≡◌, drop, length}
use Rattle.model.specs.Joins.{join}
use Rattle.joins.proofs.count.Given as goal

abbrev pub invariant-loop-member : goal.invariant-loop-member
invariant-loop-member l = (l.n + length (join (drop l.member-index l.all)) ≡ length (join l.all)) × (l.n ≤ 65535 * l.member-index)
