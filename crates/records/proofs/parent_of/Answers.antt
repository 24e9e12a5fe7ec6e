-- `records::parent_of` meets its contract.
use native.Mathlib.Omega.{arith}
use Rattle.records.specs.Laws.{parent-direct}
use Rattle.records.proofs.parent_of.Goals as goal

pub returns : goal.returns
returns c = parent-direct _ _ _ (λ e. omega arith) c.word.ensures
