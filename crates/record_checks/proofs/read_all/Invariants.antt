-- `record_checks::read_all` meets its contract. The loop's invariant: the checks of the records left decide what all decide, and
-- `ordered` is whether the records so far are in order.
use Rattle.std.specs.Prelude.{◌≡◌}
use Rattle.model.specs.Refusals.{each_of}
use Rattle.model.specs.Validity.{record_check}
use Rattle.model.proofs.Laws.Checks.{Rest}
use Rattle.record_checks.specs.Reading.{in_order}
use Rattle.record_checks.proofs.read_all.Given as goal

abbrev pub invariant-loop-i : goal.invariant-loop-i
invariant-loop-i l = (each_of (record_check l.it) 1 l.n ≡ Rest (record_check l.it) l.n l.i) × (l.ordered ≡ in_order l.it l.i)
