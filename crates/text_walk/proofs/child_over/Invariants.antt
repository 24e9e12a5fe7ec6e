-- `text_walk::child_over` meets its contract. The loop's invariant: no child has a number over after and up to j.
use Rattle.std.proofs.Common.{◌≡◌}
use Rattle.model.specs.Records.{records}
use Rattle.text_form.specs.Writing.{child_over}
use Rattle.text_walk.proofs.child_over.Given as goal

abbrev pub invariant-loop-j : goal.invariant-loop-j
invariant-loop-j l = child_over (records l.it) l.p l.after ≡ child_over (records l.it) l.p l.j
