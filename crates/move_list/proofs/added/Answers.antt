-- `move_list::added` meets its contract.
use Rattle.std.proofs.Common.{refl}
use Rattle.move_list.specs.Pairs.{added}
use Rattle.move_list.proofs.added.Goals as goal

pub returns : goal.returns
unfolding added
returns c = refl
