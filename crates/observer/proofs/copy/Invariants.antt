-- `observer::copy` meets its contract. The loop's invariant: the bytes below i are the itinerary's.
use Rattle.std.proofs.Common.{◌≡◌, ◌<◌, ℕ, get_or, length}
use Rattle.observer.proofs.copy.Given as goal

abbrev pub invariant-loop-i : goal.invariant-loop-i
invariant-loop-i l = (length l.sheet ≡ length l.it) × ((k : ℕ) → k < l.i → get_or l.sheet k 0 ≡ get_or l.it k 0)
