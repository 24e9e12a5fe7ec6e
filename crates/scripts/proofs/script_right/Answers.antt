-- `scripts::script_right` meets its contract.
use mathlib.Core.Path.{refl}
use Rattle.model.specs.Scripts.{script_right}
use Rattle.scripts.proofs.script_right.Goals as goal

pub returns : goal.returns
unfolding script_right
returns c = refl
