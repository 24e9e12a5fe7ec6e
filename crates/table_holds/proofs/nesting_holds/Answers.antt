-- The goals of `table_holds::nesting_holds`; the argument stands in Invariants. The labels found are the nearest from each
-- number on upwards.
use Rattle.std.proofs.Common.{◌∙◌, ◌≡◌, ◌≤◌, ◌+◌, ℕ, List, ap, below_more, length, subst, sym, true≢false, arith}
use Rattle.enclosures.specs.Laws.{nearest-read, nearest-there, nearests-are, notes-root}
use Rattle.enclosures.specs.Notes.{Nearests}
use Rattle.table_holds.specs.Laws.{read-stood}
use Rattle.table_holds.specs.Tests.{nesting_holds}
use Rattle.model.proofs.Laws.Bytes.{length-records, valid-few}
use Rattle.model.specs.Records.{count, decode}
use Rattle.model.specs.Refusals.{pass}
use Rattle.model.specs.Validity.{validity}
use Rattle.table_partners.specs.Laws.{read-shape}
use Rattle.table_partners.specs.Standing.{stands, stands-not, within}
use Rattle.tables.specs.Loops.{all_pass, one-fails}
use Rattle.ways.specs.Valid.{parent-near}
use Rattle.table_holds.proofs.nesting_holds.Goals as goal
use Rattle.table_holds.proofs.nesting_holds.Goals.{After-enclose, After-it, After-record_in-r, then-is_nested+else-not-stands, else-is_nested}

valid : (c : After-it) → validity c.args.it.now ≡ pass
valid c = subst (λ (s : List ℕ). validity s ≡ pass) c.it.view_is c.it.invariant

near : (c : After-enclose) → validity c.args.it.now ≡ pass → Nearests c.args.it.now c.enclose.new.notes
near c v = nearests-are c.args.policy.now _ (rw c.notes-notes.ensures (notes-root _ c.args.policy.now v).passable.room) c.enclose.ensures

is : (c : After-record_in-r) → c.record_in-r.result ≡ decode c.args.it.now (c.loop-i.i + 1)
is c = c.record_in-r.ensures ∙ ap (λ (s : List ℕ). decode s (c.loop-i.i + 1)) c.it.view_is

pub enclose-requires : goal.enclose-requires
enclose-requires c = rw c.notes-notes.ensures (notes-root _ c.args.policy.now (valid (goal.at.enclose-requires c).After-it))

pub loop-i-init : goal.loop-i-init
loop-i-init c = λ x l. absurd (omega arith)

-- a record within the count is whole
pub record_in-r-requires-clause-whole : goal.record_in-r-requires-clause-whole
unfolding count
record_in-r-requires-clause-whole c = omega (arith, c.count-i-end.ensures, ap length c.it.view_is)

pub bounds-notes-r : goal.bounds-notes-r
unfolding count
bounds-notes-r c =
    let b = c.it.inside.bytes.now in
    let n = parent-near b c.it.invariant _ _ c.record_in-r.ensures in
    let m = valid-few b c.it.invariant in omega arith

pub unwrap-requires : goal.unwrap-requires
unwrap-requires c =
    let d = goal.at.unwrap-requires c in
    let v = valid d.After-it in
    nearest-there (near d.After-enclose v) _ (parent-near c.args.it.now v _ _ (is d.After-record_in-r)) _

pub stands-requires : goal.stands-requires
stands-requires c =
    let d = goal.at.stands-requires c in
    let it = c.args.it.now in let v = valid d.After-it in let e = is d.After-record_in-r in
    let h : c.loop-i.i + 1 ≤ count it = omega (arith, c.count-i-end.ensures) in
    let p = nearest-read (near d.After-enclose v) _ (parent-near it v _ _ e) _ c.unwrap.ensures in
    record { shaped = read-shape it (c.loop-i.i + 1) c.record_in-r.result v h e; container_bound = (within it v c.loop-i.i h c.record_in-r.result e _ p).above }

pub returns-then-not-stands : goal.returns-then-not-stands
unfolding nesting_holds
returns-then-not-stands c =
    let d = goal.at.returns-then-not-stands c in
    let it = c.args.it.now in let v = valid d.After-it in let e = is d.After-record_in-r in let l = c.loop-i in
    let h : l.i + 1 ≤ count it = omega (arith, c.count-i-end.ensures) in
    let p = nearest-read (near d.After-enclose v) _ (parent-near it v _ _ e) _ c.unwrap.ensures in
    let k = stands it v l.i h c.record_in-r.result e _ p (sym c.is_nested.ensures ∙ c.if-is_nested.true) in
    one-fails _ _ _ l.i (omega (arith, length-records it)) k.test (sym (read-stood it v l.i h c.record_in-r.result e _ _ p) ∙ sym c.stands.ensures ∙ c.if-not-stands.true)

pub loop-i-preserved : goal.loop-i-preserved
loop-i-preserved c =
    let d = goal.at.loop-i-preserved c in
    let it = c.args.it.now in let v = valid d.After-it in let e = is d.After-record_in-r in let l = c.loop-i in
    let h : l.i + 1 ≤ count it = omega (arith, c.count-i-end.ensures) in
    elim c.if-is_nested.branch [
      | then-is_nested+else-not-stands w ↦
          let p = nearest-read (near d.After-enclose v) _ (parent-near it v _ _ e) _ w.unwrap.ensures in
          below_more _ _ l.invariant (λ _. sym (read-stood it v l.i h c.record_in-r.result e _ _ p) ∙ sym w.stands.ensures ∙ w.if-not-stands.false)
      | else-is_nested w ↦ below_more _ _ l.invariant (λ t. absurd (true≢false (sym t ∙ stands-not it v l.i h c.record_in-r.result e (sym c.is_nested.ensures ∙ w.if-is_nested.false))))
    ]

pub returns : goal.returns
unfolding nesting_holds
returns c = let n = length-records c.args.it.now in let e = c.count-i-end.ensures in all_pass _ _ _ (λ x l t. c.loop-i.invariant x (omega arith) t)
