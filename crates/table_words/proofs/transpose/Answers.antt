-- The goals of `table_words::transpose`; the argument stands in Invariants.
use Rattle.std.proofs.Common.{◌∙◌, arith}
use Rattle.table_words.specs.Transposes.{transpose-next}
use Rattle.table_words.proofs.transpose.Goals as goal

pub loop-k-preserved : goal.loop-k-preserved
loop-k-preserved c =
    let a = c.args in let l = c.loop-k in let q = c.scatter in (q.auto.words ∙ l.invariant.0, transpose-next a.words.now a.first a.step l.k (omega arith) l.invariant.1 q.ensures)
