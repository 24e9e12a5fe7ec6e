-- `scripts::run` meets its contract. The loop's invariant: itinerary, answers and counts are those of the steps passed.
use Rattle.std.specs.Prelude.{length}
use Rattle.scripts.specs.Runs.{Running, Script}
use Rattle.scripts.proofs.run.Given as goal

abbrev pub invariant-loop-k : goal.invariant-loop-k
invariant-loop-k l = Script l.script (length l.initial.answers) × Running l.initial.it l.script l.initial.answers l.k l.it l.answers l.c
