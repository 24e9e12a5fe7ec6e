-- `ways::find` meets its contract: by the parent's note and the record, or by the climb.
use Rattle.std.proofs.Common.{◌<◌, ◌≤◌, length, arith, rules}
use Rattle.model.specs.Records.{count}
use Rattle.ways.specs.Laws.{noted-there, parent-inside, whole_in}
use Rattle.ways.proofs.find.Given.{Over}
use Rattle.ways.proofs.find.Goals as goal
use Rattle.ways.proofs.find.Goals.{After-parent_of-parent}

-- the parent is within the count, and has room for a note
parent-in : (g : Over) (c : After-parent_of-parent g) → c.parent_of-parent.result ≤ count c.args.it.now
parent-in g c = parent-inside c.requires.noting.passable.bounded c.args.i _ c.parent_of-parent.ensures

parent-room : (g : Over) (c : After-parent_of-parent g) → c.parent_of-parent.result < length c.args.notes.now
parent-room g c = omega (arith, parent-in g c, c.requires.noting.passable.room)

pub parent_of-parent-requires : goal.parent_of-parent-requires
parent_of-parent-requires g c = record { some = c.requires.some; whole = whole_in _ _ c.requires.inside }

pub offset_bounds-notes-parent : goal.offset_bounds-notes-parent
offset_bounds-notes-parent g c = let h = parent-room g (goal.at.offset_bounds-notes-parent g c).After-parent_of-parent in search rules

pub bounds-notes-parent : goal.bounds-notes-parent
bounds-notes-parent g c = parent-room g (goal.at.bounds-notes-parent g c).After-parent_of-parent

pub bounds : goal.bounds
bounds g c = parent-room g (goal.at.bounds g c).After-parent_of-parent

pub bounds-notes-parent-in-Some-1 : goal.bounds-notes-parent-in-Some-1
bounds-notes-parent-in-Some-1 g c = parent-room g (goal.at.bounds-notes-parent-in-Some-1 g c).After-parent_of-parent

pub note_one-requires : goal.note_one-requires
note_one-requires g c =
    let n = c.requires.noting in
    let l = parent-in g (goal.at.note_one-requires g c).After-parent_of-parent in
    record { noting = n; inside = c.requires.inside; some = c.requires.some; found = rw (← c.parent_of-parent.ensures) (n.told _ _ l (noted-there n.passable _ l _ c.in-Some.is)) }
