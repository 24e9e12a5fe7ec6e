-- `scripts::not_gone` meets its contract. The sum so far is the number of records seen that are not gone.
use Rattle.std.specs.Prelude.{◌≡◌, ◌≤◌}
use Rattle.scripts.specs.NotGone.{not_gone_to}
use Rattle.scripts.proofs.not_gone.Given as goal

abbrev pub invariant-loop-i : goal.invariant-loop-i
invariant-loop-i l = (l.sum ≤ l.i) × (l.sum ≡ not_gone_to l.it l.i)
