-- `calls::run` meets its contract: what passes is valid and has an answer's room for each step.
use Rattle.model.proofs.Laws.Checks.{passed, passes}
use Rattle.model.specs.Calls.{running}
use Rattle.calls.proofs.run.Goals as goal

pub run-requires : goal.run-requires
unfolding running
run-requires c = let e = passed _ _ c.running.ensures c.in_ok-running.was in record { valid = search passes depth 20; right = search passes depth 20 }
