-- `joins::write` meets its contract. The loop's invariant: the members that are left are all that is left to be put.
use Rattle.std.specs.Prelude.{drop}
use Rattle.joins.specs.Writing.{Joining}
use Rattle.joins.proofs.write.Given as goal

abbrev pub invariant-loop-member : goal.invariant-loop-member
invariant-loop-member l = Joining l.initial.buffer l.all l.buffer l.before (drop l.member-index l.all)
