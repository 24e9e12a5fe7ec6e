-- `calls::moves` meets its contract: what passed 15 has room for the list.
use Rattle.std.proofs.Common.{leb-true, sym}
use Rattle.model.proofs.Laws.Checks.{need-pass, then-right}
use Rattle.model.specs.Calls.{moving}
use Rattle.model.specs.Numbers.{check_as}
use Rattle.calls.proofs.moves.Goals as goal

pub write-requires : goal.write-requires
unfolding moving check_as
write-requires c = rw c.in_ok-valid.ensures.same (leb-true _ _ (need-pass _ _ _ (then-right _ _ (sym c.in_ok-valid.ensures.checks))))
