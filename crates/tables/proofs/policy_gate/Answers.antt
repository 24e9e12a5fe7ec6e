-- `tables::policy_gate` meets its contract: what is right has its length.
use Rattle.std.proofs.Common.{◌∙◌, arith, sym}
use Rattle.model.proofs.Laws.Checks.{policy-length}
use Rattle.tables.proofs.policy_gate.Goals as goal

pub gate-requires : goal.gate-requires
gate-requires c = (omega arith, λ e. policy-length _ (sym c.policy_right.ensures ∙ e))
