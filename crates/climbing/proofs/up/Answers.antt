-- `climbing::up` meets its contract.
use mathlib.Core.Path.{◌∙◌, sym}
use Rattle.climbing.specs.Active.{up-over, up-stays}
use Rattle.climbing.proofs.up.Goals as goal

pub returns-then-is_ambient : goal.returns-then-is_ambient
returns-then-is_ambient c = up-over _ _ _ c.record_at-r.ensures (sym c.is_ambient.ensures ∙ c.if-is_ambient.true)

pub returns-else-is_ambient : goal.returns-else-is_ambient
returns-else-is_ambient c = up-stays _ _ _ c.record_at-r.ensures (sym c.is_ambient.ensures ∙ c.if-is_ambient.false)
