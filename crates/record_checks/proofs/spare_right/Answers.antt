-- `record_checks::spare_right` meets its contract: the spare byte of a whole record is read directly.
use Rattle.std.proofs.Common.{arith}
use Rattle.record_checks.specs.Laws.{spare-direct}
use Rattle.record_checks.proofs.spare_right.Goals as goal

pub returns : goal.returns
returns c = spare-direct _ _ (λ e. omega (arith, c.requires.some, e))
