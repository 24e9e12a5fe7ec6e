-- `enclosures::enclose` meets its contract. The loop's invariant: the numbers up to i are noted (`Passed`).
use Rattle.enclosures.specs.Laws.{Passed}
use Rattle.enclosures.proofs.enclose.Given as goal

abbrev pub invariant-loop-i : goal.invariant-loop-i
invariant-loop-i l = Passed l.it l.policy l.initial.notes l.notes l.i
