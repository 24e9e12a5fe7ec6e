-- `ways::note_one` meets its contract.
use Rattle.std.proofs.Common.{refl}
use Rattle.ways.specs.Laws.{finding-next, note-more, parent-read, whole_in}
use Rattle.ways.proofs.note_one.Goals as goal

pub make-found-requires : goal.make-found-requires
make-found-requires g c = record {
  some = c.requires.some;
  whole = whole_in _ _ c.requires.inside;
  labelled = c.requires.noting.viewable.labels _;
}

pub returns-clause-noted : goal.returns-clause-noted
returns-clause-noted g c =
    let n = c.requires.noting in
    note-more n _ c.requires.inside _ (rw c.make-found.ensures (finding-next _ n.viewable.parented _ c.requires.some _ refl _ (parent-read n.passable.bounded _ _ refl) c.requires.found))
