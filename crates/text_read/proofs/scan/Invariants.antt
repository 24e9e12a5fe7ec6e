-- `text_read::scan` meets its contract. The loop's invariant: k lines are read and placed.
use Prim.Native.Nat.{◌-◌}
use Rattle.text_form.specs.Laws.Placing.{Progress}
use Rattle.text_read.proofs.scan.Given as goal

abbrev pub invariant-loop-at : goal.invariant-loop-at
invariant-loop-at l = Progress l.room l.text l.initial.it l.it l.above l.at l.k l.deepest

abbrev pub decreases-loop-at : goal.decreases-loop-at
decreases-loop-at l = l.room - l.k
