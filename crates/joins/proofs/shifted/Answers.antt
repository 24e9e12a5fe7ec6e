-- `joins::shifted` meets its contract.
use Rattle.std.proofs.Common.{ap, ◌∙◌, sym}
use Rattle.model.specs.Joins.{shifted}
use Rattle.joins.specs.Behind.{shifted-other, shifted-root}
use Rattle.joins.proofs.shifted.Goals as goal

pub returns-then-parent-eq0 : goal.returns-then-parent-eq0
returns-then-parent-eq0 c = sym (ap (shifted c.args.before) c.if-parent-eq0.true ∙ shifted-root _)

pub returns-else-parent-eq0 : goal.returns-else-parent-eq0
returns-else-parent-eq0 c = sym (shifted-other _ _ c.if-parent-eq0.false)
