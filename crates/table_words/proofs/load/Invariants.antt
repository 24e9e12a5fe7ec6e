-- `table_words::load` meets its contract. The loop's invariant: the first i words are the values of their eight bytes each.
use Rattle.std.proofs.Common.{◌≡◌, ℕ, ◌*◌, ◌<◌, drop, get_or, length, take}
use Rattle.table_words.specs.Words.{value}
use Rattle.table_words.proofs.load.Given as goal

abbrev pub invariant-loop-i : goal.invariant-loop-i
invariant-loop-i l = (length l.words ≡ length l.initial.words) × ((k : ℕ) → k < l.i → get_or l.words k 0 ≡ value (take 8 (drop (8 * k) l.bytes)))
