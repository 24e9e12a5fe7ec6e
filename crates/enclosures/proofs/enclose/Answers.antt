-- The goals of `enclosures::enclose`; the argument stands in Invariants.
use Rattle.std.proofs.Common.{◌≡◌, ap, arith}
use Rattle.enclosures.specs.Laws.{passed-end, passed-next, passed_start}
use Rattle.model.specs.Records.{count}
use Rattle.enclosures.proofs.enclose.Goals as goal

pub loop-i-init : goal.loop-i-init
loop-i-init c = passed_start c.requires

pub found-requires-clause-inside : goal.found-requires-clause-inside
found-requires-clause-inside c = let e = ap count c.it.view_is in omega arith

pub loop-i-preserved : goal.loop-i-preserved
loop-i-preserved c =
    let f = c.found.ensures in
    let n = ap count c.it.view_is in
    rw (← c.it.view_is) (passed-next c.it.invariant (omega arith) (rw (← c.it.view_is) at c.loop-i.invariant) c.found.auto.notes f.noted f.here)

pub returns : goal.returns
returns c =
    let e : c.loop-i.i ≡ count c.args.it.now = omega arith in
    passed-end (rw (← e) c.loop-i.invariant)
