-- The goals of `joins::count`; the argument stands in Invariants.
use Rattle.std.proofs.Common.{◌+◌, ap, arith, drop, length}
use Rattle.model.specs.Joins.{join}
use Rattle.joins.specs.Behind.{join-none}
use Rattle.joins.specs.Joined.{join-count}
use Rattle.joins.specs.Writing.{members-end, members-next}
use Rattle.joins.proofs.count.Goals as goal

pub loop-member-preserved : goal.loop-member-preserved
loop-member-preserved c =
    let l = c.loop-member in
    let e = ap (λ ss. length (join ss)) (members-next _ _ c.member-item.is c.loop-member-test.true) in
    let n = join-count c.member-item.result (drop (l.member-index + 1) c.args.members.now) in
    (omega (arith, l.invariant.0, e, n, c.count.ensures), omega (arith, l.invariant.1, c.count.type_inv))

pub returns : goal.returns
returns c = omega (arith, c.loop-member.invariant.0, ap (λ ss. length (join ss)) (members-end c.args.members.now c.loop-member.member-index c.loop-member-test.false), ap length join-none)
