-- `table_words::transpose` meets its contract. The loop's invariant: the first k words are transposed.
use Rattle.std.proofs.Common.{◌≡◌, length}
use Rattle.table_words.specs.Adds.{Adds}
use Rattle.table_words.specs.Transposes.{Transposed}
use Rattle.table_words.proofs.transpose.Given as goal

abbrev pub invariant-loop-k : goal.invariant-loop-k
invariant-loop-k l = (length l.columns ≡ 64) × Adds (Transposed l.words l.first l.step l.k) (Transposed l.words l.first l.step 64) l.initial.columns l.columns
