-- The goals of `ways::extend`; the argument stands in Invariants.
use Rattle.std.proofs.Common.{◌∙◌, ◌≤◌, refl, sym}
use Rattle.ways.specs.Laws.{going_next, going_start, no-note, unset-record, whole_in}
use Rattle.ways.proofs.extend.Given.{Over}
use Rattle.ways.proofs.extend.Goals as goal
use Rattle.ways.proofs.extend.Goals.{Else-is_some}

-- the number above is a record
recorded : (g : Over) (c : Else-is_some g) → 1 ≤ c.loop-k.top
recorded g c = unset-record c.requires.passable _ (no-note c.requires.passable _ c.loop-k.invariant.0.inside _ c.index-notes-top.is (sym c.is_some.ensures ∙ c.if-is_some.false))

pub loop-k-init : goal.loop-k-init
loop-k-init g c = (rw c.requires.starts.one at (going_start c.requires.passable.bounded c.requires.starts), c.requires.starts.one)

pub parent_of-top-requires : goal.parent_of-top-requires
parent_of-top-requires g c = record { some = recorded g (goal.at.parent_of-top-requires g c).Else-is_some; whole = whole_in _ _ c.loop-k.invariant.0.inside }

pub loop-k-preserved : goal.loop-k-preserved
loop-k-preserved g c = (going_next c.requires.passable.bounded c.loop-k-test.true c.loop-k.invariant.0 (recorded g (goal.at.loop-k-preserved g c).Else-is_some) c.parent_of-top.ensures, refl)
