-- The goals of `ways::note`; the argument stands in Invariants.
use Rattle.std.proofs.Common.{refl}
use Rattle.ways.specs.Laws.{back-next, back-record, back_inside, whole_in}
use Rattle.ways.proofs.note.Goals as goal

pub make-found-requires : goal.make-found-requires
make-found-requires g c = record {
  some = back-record c.requires.leads c.loop-k.invariant c.loop-k-test.true;
  whole = whole_in _ _ (back_inside c.requires.leads c.loop-k.invariant c.loop-k-test.true);
  labelled = c.requires.noting.viewable.labels _;
}

pub loop-k-preserved : goal.loop-k-preserved
loop-k-preserved g c = back-next c.requires.leads c.loop-k.invariant c.loop-k-test.true _ refl _ c.make-found.ensures
