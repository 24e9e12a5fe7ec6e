-- `ways::found` meets its contract: what is found at the parent, and then at the record.
use Rattle.std.proofs.Common.{◌≤◌}
use Rattle.model.specs.Records.{count}
use Rattle.ways.specs.Laws.{parent-inside, whole_in}
use Rattle.ways.proofs.found.Given.{Over}
use Rattle.ways.proofs.found.Goals as goal
use Rattle.ways.proofs.found.Goals.{After-parent_of-parent}

parent-in : (g : Over) (c : After-parent_of-parent g) → c.parent_of-parent.result ≤ count c.args.it.now
parent-in g c = parent-inside c.requires.noting.passable.bounded c.args.i _ c.parent_of-parent.ensures

pub parent_of-parent-requires-clause-whole : goal.parent_of-parent-requires-clause-whole
parent_of-parent-requires-clause-whole g c = whole_in _ _ c.requires.inside

pub known-above-requires-clause-inside : goal.known-above-requires-clause-inside
known-above-requires-clause-inside g c = parent-in g (goal.at.known-above-requires-clause-inside g c).After-parent_of-parent

pub note_one-requires-clause-found : goal.note_one-requires-clause-found
note_one-requires-clause-found g c =
    let k = c.known-above.ensures in
    rw (← c.parent_of-parent.ensures) (k.noted.noting.told _ _ (parent-in g (goal.at.note_one-requires-clause-found g c).After-parent_of-parent) k.here)
