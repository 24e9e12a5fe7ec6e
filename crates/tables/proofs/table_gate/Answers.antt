-- `tables::table_gate` meets its contract: what is right has its length.
use Rattle.std.proofs.Common.{◌∙◌, arith, sym}
use Rattle.model.proofs.Laws.Checks.{table-length}
use Rattle.tables.proofs.table_gate.Goals as goal

pub gate-requires : goal.gate-requires
gate-requires c = (omega arith, λ e. table-length _ (sym c.table_right.ensures ∙ e))
