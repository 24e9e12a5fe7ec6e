-- `table_suspects::close_suspects` meets its contract. The loop's invariant (`SuspectsGrowing`): the suspects found lie in
-- every set that has the rules, and what those no longer in `unseen` make suspect is among them; `unseen` falls, for the bit of
-- the one taken is cleared.
use Rattle.std.proofs.Common.{◌≤◌}
use Rattle.table_suspects.specs.Suspects.{SuspectsGrowing}
use Rattle.table_suspects.proofs.close_suspects.Given as goal

abbrev pub invariant-loop-b : goal.invariant-loop-b
invariant-loop-b l = (l.unseen ≤ 18446744073709551615) × SuspectsGrowing l.movers l.w l.suspects l.unseen

abbrev pub decreases-loop-b : goal.decreases-loop-b
decreases-loop-b l = l.unseen
