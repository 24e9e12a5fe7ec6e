-- The goals of `ways::climb`; the argument stands in Invariants.
use Rattle.ways.specs.Laws.{lost-above, lost-short}
use Rattle.ways.proofs.+climb.Goals as goal

pub returns-then-left-w-clause-lost : goal.returns-then-left-w-clause-lost
returns-then-left-w-clause-lost g t c = lost-short c.extend.ensures c.if-left-w.true

pub returns-in_err-above-clause-lost : goal.returns-in_err-above-clause-lost
returns-in_err-above-clause-lost g t c = rw c.from_residual.ensures (lost-above c.extend.ensures c.if-left-w.false c.in_err-above.ensures.lost)
