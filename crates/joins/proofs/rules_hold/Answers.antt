-- The goals of `joins::rules_hold`; the argument stands in Invariants.
use Rattle.std.proofs.Common.{refl}
use Rattle.model.proofs.Laws.Finite.{replicated}
use Rattle.joins.specs.Joined.{join-wf}
use Rattle.joins.specs.Parts.{gathered-end, gathered-next, gathered-start}
use Rattle.joins.specs.Writing.{members-end, members-next}
use Rattle.table_rules.specs.Laws.{rules-by}
use Rattle.joins.proofs.rules_hold.Goals as goal

pub loop-member-init : goal.loop-member-init
loop-member-init c = (refl, gathered-start _ _ _ (replicated 0 192))

pub loop-member-preserved : goal.loop-member-preserved
loop-member-preserved c = (c.partners_of.array_long, gathered-next (rw (members-next _ _ c.member-item.is c.loop-member-test.true) at c.loop-member.invariant.1) c.partners_of.ensures.partners)

pub returns : goal.returns
returns c =
    rules-by c.args.table.now c.load.new.words c.loop-member.partners _ (join-wf c.args.members.now c.requires) c.load.ensures
    (gathered-end _ (rw (members-end _ _ c.loop-member-test.false) at c.loop-member.invariant.1)) c.closed.ensures
