-- `records::record_in` meets its contract: a whole record is read directly.
use Rattle.std.proofs.Common.{arith}
use Rattle.records.specs.Laws.{record-direct}
use Rattle.records.proofs.record_in.Goals as goal

pub returns : goal.returns
returns c = record-direct _ _ _ _ (λ e. omega (arith, c.requires.some, e)) c.parent_of.ensures c.word.ensures
