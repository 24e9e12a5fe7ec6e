-- The goals of `joins::write`; the argument stands in Invariants.
use Rattle.std.proofs.Common.{◌+◌, ◌∷◌, drop}
use Rattle.joins.specs.Writing.{Joining, joining-end, joining-next, joining-room, joining-short, joining-start, members-end, members-next}
use Rattle.joins.proofs.write.Goals as goal
use Rattle.joins.proofs.write.Goals.{After-member-item}

pub loop-member-init : goal.loop-member-init
loop-member-init c = joining-start _ _ c.requires

-- the member that comes next, and those behind it, are left
here : (c : After-member-item) → Joining c.args.buffer.now c.args.members.now c.loop-member.buffer c.loop-member.before (c.member-item.result ∷ drop (c.loop-member.member-index + 1) c.args.members.now)
here c = rw (← members-next _ _ c.member-item.is c.loop-member-test.true) c.loop-member.invariant

pub put_member-before-requires : goal.put_member-before-requires
put_member-before-requires c = let w = (goal.at.put_member-before-requires c).After-member-item in record { few = joining-short _ _ c.requires _ _ (here w); room = joining-room _ _ c.requires _ _ (here w) }

pub loop-member-preserved : goal.loop-member-preserved
loop-member-preserved c = let w = (goal.at.loop-member-preserved c).After-member-item in joining-next _ _ c.requires _ _ (here w) _ _ c.put_member-before.auto.buffer c.put_member-before.ensures

pub returns : goal.returns
returns c = joining-end _ _ c.requires c.loop-member.invariant (members-end _ _ c.loop-member-test.false)
