-- The goals of `joins::nesting_holds`; the argument stands in Invariants.
use Rattle.std.proofs.Common.{◌+◌, ◌∷◌, ◌∙◌, ◌≡◌, ◌&&◌, ap, drop, sym}
use Rattle.model.specs.Joins.{join}
use Rattle.model.specs.Requests.{Valid}
use Rattle.model.specs.Tables.{bits, parts}
use Rattle.table_holds.specs.Tests.{nesting_holds}
use Rattle.joins.specs.Parts.{nests-next, nests-none}
use Rattle.joins.specs.Writing.{members-end, members-next}
use Rattle.joins.proofs.nesting_holds.Goals as goal
use Rattle.joins.proofs.nesting_holds.Goals.{After-nesting_holds}

-- the member that comes next, and those behind it
valid : (c : After-nesting_holds) → Valid (c.member-item.result ∷ drop (c.loop-member.member-index + 1) c.args.members.now)
valid c = rw (members-next _ _ c.member-item.is c.loop-member-test.true) at c.loop-member.invariant.0

decided : (c : After-nesting_holds) → nesting_holds (join c.args.members.now) (parts (bits c.args.table.now))
    ≡ (c.nesting_holds.result && nesting_holds (join (drop (c.loop-member.member-index + 1) c.args.members.now)) (parts (bits c.args.table.now)))
decided c =
    let v = valid c in
    c.loop-member.invariant.1
    ∙ ap (λ ss. nesting_holds (join ss) (parts (bits c.args.table.now))) (members-next _ _ c.member-item.is c.loop-member-test.true)
    ∙ nests-next _ _ _ v.0 v.1
    ∙ ap (λ t. t && nesting_holds (join (drop (c.loop-member.member-index + 1) c.args.members.now)) (parts (bits c.args.table.now))) (sym c.nesting_holds.ensures)

pub returns-then-not-nesting_holds : goal.returns-then-not-nesting_holds
returns-then-not-nesting_holds c =
    sym (decided (goal.at.returns-then-not-nesting_holds c).After-nesting_holds
    ∙ ap (λ t. t && nesting_holds (join (drop (c.loop-member.member-index + 1) c.args.members.now)) (parts (bits c.args.table.now))) c.if-not-nesting_holds.true)

pub loop-member-preserved : goal.loop-member-preserved
loop-member-preserved c = let w = (goal.at.loop-member-preserved c).After-nesting_holds in (
  (valid w).1,
  decided w ∙ ap (λ t. t && nesting_holds (join (drop (c.loop-member.member-index + 1) c.args.members.now)) (parts (bits c.args.table.now))) c.if-not-nesting_holds.false,
)

pub returns : goal.returns
returns c = sym (c.loop-member.invariant.1 ∙ ap (λ ss. nesting_holds (join ss) (parts (bits c.args.table.now))) (members-end _ _ c.loop-member-test.false) ∙ nests-none _)
