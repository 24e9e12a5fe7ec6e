-- `joins::nesting_holds` meets its contract. The loop's invariant: the members that are left, valid each, decide.
use Rattle.std.specs.Prelude.{◌≡◌, drop}
use Rattle.model.specs.Joins.{join}
use Rattle.model.specs.Requests.{Valid}
use Rattle.model.specs.Tables.{bits, parts}
use Rattle.table_holds.specs.Tests.{nesting_holds}
use Rattle.joins.proofs.nesting_holds.Given as goal

abbrev pub invariant-loop-member : goal.invariant-loop-member
invariant-loop-member l =
    Valid (drop l.member-index l.all)
    × (nesting_holds (join l.all) (parts (bits l.table)) ≡ nesting_holds (join (drop l.member-index l.all)) (parts (bits l.table)))
