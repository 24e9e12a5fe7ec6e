-- `calls::join` meets its contract: what passed 16 has room for the joined bytes.
use Rattle.model.proofs.Laws.Checks.{passed, passes}
use Rattle.model.specs.Calls.{joining}
use Rattle.calls.proofs.join.Goals as goal

pub write-requires : goal.write-requires
unfolding joining
write-requires c = let e = passed _ _ c.joining.ensures.checks c.in_ok-members.was in rw c.in_ok-members.ensures.same (search passes depth 20)
