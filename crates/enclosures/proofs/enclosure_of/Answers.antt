-- `enclosures::enclosure_of` meets its contract: what stands above a record is what its parent is enclosed by.
use Rattle.std.proofs.Common.{◌∙◌, arith}
use Rattle.enclosures.specs.Laws.{enclosure-read, enclosure-root, notes-root}
use Rattle.ways.specs.Valid.{parent-near}
use Rattle.enclosures.proofs.enclosure_of.Goals as goal

pub returns-then-parent-eq0 : goal.returns-then-parent-eq0
returns-then-parent-eq0 c =
    rw (← c.it.view_is) (c.outermost.ensures ∙ enclosure-root _ _ c.it.invariant _ _ c.record_at-parent.ensures c.if-parent-eq0.true)

pub found-requires : goal.found-requires
found-requires c = record {
  valid = c.it.invariant;
  noting = rw c.notes-notes.ensures (notes-root _ c.args.policy.now c.it.invariant);
  inside = parent-near _ c.it.invariant _ _ c.record_at-parent.ensures;
  some = omega (arith, c.if-parent-eq0.false);
}

pub returns : goal.returns
returns c =
    let f = c.found.ensures in
    rw (← c.it.view_is) (enclosure-read _ _ c.it.invariant _ _ c.record_at-parent.ensures _ (f.noted.noting.told _ _ (parent-near _ c.it.invariant _ _ c.record_at-parent.ensures) f.here).is)
