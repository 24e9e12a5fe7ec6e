-- `steps::no_child_to` meets its contract. None of the records passed has one of the parents.
use Rattle.steps.specs.Passes.{NoChildTo}
use Rattle.steps.proofs.no_child_to.Given as goal

abbrev pub invariant-loop-j : goal.invariant-loop-j
invariant-loop-j l = NoChildTo l.x l.y l.i l.j l.it l.j
