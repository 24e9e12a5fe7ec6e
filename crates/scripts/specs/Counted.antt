-- The counts of a run, one step after the other.
use Rattle.std.specs.Prelude.{◌+◌}
use Rattle.model.specs.Scripts.{done_by}
use Rattle.model.specs.Steps.{Outcome}
use Rattle.model.specs.declared.Counts.{Counts}

-- the counts with one step more
unfoldable pub counted : Counts → Outcome → Counts
counted c o = record { ins = c.ins + done_by 2 o; outs = c.outs + done_by 3 o; opens = c.opens + done_by 4 o }
