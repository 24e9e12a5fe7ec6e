-- `move_list::tally` meets its contract. The tally so far is that of the actors looked at.
use Rattle.std.specs.Prelude.{◌≡◌}
use Rattle.model.specs.Records.{records}
use Rattle.move_list.specs.Pairs.{rows_to}
use Rattle.move_list.proofs.tally.Given as goal

abbrev pub invariant-loop-i : goal.invariant-loop-i
invariant-loop-i l = l.t ≡ rows_to (records l.it) l.i
