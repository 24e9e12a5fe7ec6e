-- `steps::pass_to` meets its contract. The loop's invariant is the contract, at the records passed: those that it goes over are as
-- after the pass already. How many are left falls.
use Rattle.std.specs.Prelude.{◌-◌, ◌≡◌, ◌≤◌}
use Rattle.steps.specs.Moves.{remade}
use Rattle.steps.specs.Passes.{passed_to}
use Rattle.steps.proofs.pass_to.Given as goal

abbrev pub invariant-loop-i : goal.invariant-loop-i
invariant-loop-i l = (l.i ≤ l.k) × (l.it ≡ passed_to (remade l.m) l.i l.initial.it)

abbrev pub decreases-loop-i : goal.decreases-loop-i
decreases-loop-i l = l.k - l.i
