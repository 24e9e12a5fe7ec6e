-- `validity::climb_all` meets its contract. The loop's invariant: the climbs from the records left decide what all decide, and
-- what is noted is right.
use Rattle.std.specs.Prelude.{◌≡◌}
use Rattle.validity.specs.Arriving.{arriving}
use Rattle.model.specs.Records.{records}
use Rattle.model.specs.Refusals.{each_of}
use Rattle.model.specs.Validity.{climb_check}
use Rattle.model.proofs.Laws.Checks.{Rest}
use Rattle.ways.specs.Ways.{Noting}
use Rattle.validity.proofs.climb_all.Given as goal

abbrev pub invariant-loop-i : goal.invariant-loop-i
invariant-loop-i l = Noting arriving l.it l.notes × (each_of (climb_check (records l.it)) 1 l.n ≡ Rest (climb_check (records l.it)) l.n l.i)
