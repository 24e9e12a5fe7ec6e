-- `table_words::store` meets its contract. The loop's invariant: the bytes of i words are stored.
use Rattle.std.proofs.Common.{◌≡◌, ◌*◌, length}
use Rattle.table_words.specs.Words.{Stored}
use Rattle.table_words.proofs.store.Given as goal

abbrev pub invariant-loop-i : goal.invariant-loop-i
invariant-loop-i l = (length l.bytes ≡ length l.initial.bytes) × Stored l.words (8 * l.i) l.bytes
