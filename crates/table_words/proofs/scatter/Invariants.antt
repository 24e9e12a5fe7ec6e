-- `table_words::scatter` meets its contract. The loop's invariant: the bits to come are a part of the bits, and the words of
-- the bits that are no longer among them have the value.
use Rattle.std.proofs.Common.{◌≡◌, ℕ, length, true}
use Rattle.model.specs.Tables.{test_bit}
use Rattle.table_words.specs.Adds.{Adds}
use Rattle.table_words.specs.Transposes.{Scatter, Scattered}
use Rattle.table_words.proofs.scatter.Given as goal

abbrev pub invariant-loop-k : goal.invariant-loop-k
invariant-loop-k l =
    (length l.words ≡ length l.initial.words) × ((x : ℕ) → test_bit l.k-iterator.0 x ≡ true → test_bit l.bits x ≡ true)
    × Adds (Scattered l.base l.bits l.value l.k-iterator.0) (Scatter l.base l.bits l.value) l.initial.words l.words
