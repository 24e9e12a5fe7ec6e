-- `ways::extend` meets its contract. The loop's invariant: the numbers so far are those that climbing reaches from i, all of
-- them records, and the top is the one above.
use Rattle.std.specs.Prelude.{◌≡◌}
use Rattle.ways.specs.Laws.{Going}
use Rattle.ways.proofs.extend.Given as goal

abbrev pub invariant-loop-k : goal.invariant-loop-k
invariant-loop-k g l = Going l.it l.i l.way.numbers l.k l.top × (l.way.len ≡ l.k)
