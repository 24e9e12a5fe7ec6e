-- `table_suspects::made_suspect` meets its contract. The loop's invariant: `found` has what b makes suspect in the rows below
-- `outer`.
use Rattle.table_suspects.specs.Suspects.{MadeSuspect}
use Rattle.table_suspects.proofs.made_suspect.Given as goal

abbrev pub invariant-loop-outer : goal.invariant-loop-outer
invariant-loop-outer l = MadeSuspect l.w l.movers l.b l.outer l.found
