-- The goals of `joins::put_member`; the argument stands in Invariants.
use Rattle.std.proofs.Common.{◌≡◌, ◌+◌, ◌<◌, ◌∙◌, ℕ, List, ap, arith}
use Rattle.model.specs.Records.{count, decode}
use Rattle.model.specs.Refusals.{pass}
use Rattle.model.specs.Steps.{to}
use Rattle.model.specs.Validity.{validity}
use Rattle.joins.specs.Writing.{behind-fits, member-end, member-length, member-next, record-put}
use Rattle.text_put.specs.Laws.{putting-end, putting-on, putting-start}
use Rattle.joins.proofs.put_member.Goals as goal
use Rattle.joins.proofs.put_member.Goals.{After-record_in-r}

valid : (c : After-record_in-r) → validity c.args.member.now ≡ pass
valid c = rw (← c.member.view_is) c.member.invariant

below : (c : After-record_in-r) → c.loop-i.i < count c.args.member.now
below c = omega (arith, c.count-n.ensures)

read : (c : After-record_in-r) → c.record_in-r.result ≡ decode c.args.member.now (c.loop-i.i + 1)
read c = c.record_in-r.ensures ∙ ap (λ (s : List ℕ). decode s (c.loop-i.i + 1)) c.member.view_is

pub loop-i-init : goal.loop-i-init
loop-i-init c =
    let e : c.args.before + 0 ≡ c.args.before = omega arith in
    rw e (putting-start _ _ _ (omega (arith, c.requires.room, member-length c.args.member.now c.args.before)))

pub record_in-r-requires-clause-whole : goal.record_in-r-requires-clause-whole
unfolding count
record_in-r-requires-clause-whole c = omega (arith, c.count-n.ensures, ap count c.member.view_is)

pub shifted-parent-requires : goal.shifted-parent-requires
shifted-parent-requires c = behind-fits _ _ _ (below c) (valid c) (omega (arith, c.requires.few, c.requires.room)) _ (read c)

pub loop-i-preserved : goal.loop-i-preserved
loop-i-preserved c =
    let w = (goal.at.loop-i-preserved c).After-record_in-r in
    putting-on c.loop-i.invariant
    (member-next _ _ _ (below w) _ _ (read w) (c.with_parent.ensures ∙ ap (λ q. to q c.record_in-r.result) c.shifted-parent.ensures))
    c.put_record.auto.it
    (record-put _ _ _ c.put_record.ensures (omega arith) (omega arith))

pub returns : goal.returns
returns c =
    let e : c.count-n.result ≡ c.loop-i.i = omega arith in
    rw e (putting-end c.loop-i.invariant (member-end _ _ _ (omega (arith, c.count-n.ensures))))
