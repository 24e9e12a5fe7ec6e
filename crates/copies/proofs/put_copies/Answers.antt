-- The goals of `copies::put_copies`; the argument stands in Invariants.
use Rattle.std.proofs.Common.{◌≡◌, ◌≢◌, ◌*◌, ◌<◌, ◌≤◌, ◌∙◌, ℕ, ap, arith, get_or, length, rules, sym}
use Rattle.copies.specs.Filling.{can-copy, copy-put, filled-all, filled-none, original-in, original-read, place-in}
use Rattle.model.proofs.Laws.Bytes.{at-whole, encode-records, length-records, valid-passed, valid-wf, valid-whole}
use Rattle.model.proofs.Laws.Copying.{Copyable}
use Rattle.model.specs.Copies.{beneath, copy_parent}
use Rattle.model.specs.Records.{at, count, decode, encode, parent_of, records}
use Rattle.model.specs.Steps.{to}
use Rattle.ways.specs.Valid.{parent-near}
use Rattle.copies.proofs.put_copies.Goals as goal
use Rattle.copies.proofs.put_copies.Goals.{After-record_in-r, In-loop-k, Start}

can : (c : Start) → Copyable (records c.args.it.now) c.args.c
can c = can-copy (records c.args.it.now) c.args.c c.requires.active (rw (← c.requires.beneath, ← c.requires.gones) c.requires.fits)

left : (c : In-loop-k) → c.loop-k.k < length (beneath (records c.args.it.now) c.args.c)
left c = rw (← c.requires.beneath) (omega arith)

pub loop-k-init : goal.loop-k-init
loop-k-init c =
    sym (encode-records c.args.it.now (λ j. search rules) (valid-passed c.args.it.now c.requires.valid))
    ∙ ap encode (filled-none (valid-wf c.args.it.now c.requires.valid) c.args.c (can (goal.at.loop-k-init c).Start))

-- an original and its place are numbers of records
within : (c : In-loop-k) (o : ℕ) → o ≢ 0 → o ≤ length (records c.args.it.now) → (1 ≤ o) × (8 * o ≤ length c.loop-k.it)
unfolding count
within c o z l = (omega arith, omega (arith, c.loop-k.auto.it, length-records c.args.it.now))

pub record_in-r-requires : goal.record_in-r-requires
record_in-r-requires c =
    let w = (goal.at.record_in-r-requires c).In-loop-k in
    let i = original-in (valid-wf c.args.it.now c.requires.valid) c.args.c (can (goal.at.record_in-r-requires c).Start) c.loop-k.k (left w) in
    let e = within w _ i.0 i.1 in
    rw c.requires.beneath (record { some = e.0; whole = e.1 })

-- what is read is the original as it was
read : (c : After-record_in-r) → c.record_in-r.result ≡ at (records c.args.it.now) (get_or (beneath (records c.args.it.now) c.args.c) c.loop-k.k 0)
read c =
    let a = can-copy (records c.args.it.now) c.args.c c.requires.active (rw (← c.requires.beneath, ← c.requires.gones) c.requires.fits) in
    let l : c.loop-k.k < length (beneath (records c.args.it.now) c.args.c) = rw (← c.requires.beneath) (omega arith) in
    c.record_in-r.ensures ∙ ap (λ os. decode c.loop-k.it (get_or os c.loop-k.k 0)) c.requires.beneath
    ∙ original-read (valid-wf c.args.it.now c.requires.valid) c.args.c a c.loop-k.k l c.loop-k.it c.loop-k.invariant

near : (c : After-record_in-r) → c.record_in-r.result.parent ≤ count c.args.it.now
near c = parent-near c.args.it.now c.requires.valid _ _ (read c ∙ at-whole c.args.it.now (valid-whole c.args.it.now c.requires.valid) _)

pub bounds-leads-r : goal.bounds-leads-r
bounds-leads-r c = omega (arith, near (goal.at.bounds-leads-r c).After-record_in-r, c.requires.room)

pub put_record-requires : goal.put_record-requires
put_record-requires c =
    let w = (goal.at.put_record-requires c).In-loop-k in
    let i = place-in (valid-wf c.args.it.now c.requires.valid) c.args.c (can (goal.at.put_record-requires c).Start) c.loop-k.k (left w) in
    let e = within w _ i.0 i.1 in
    rw c.requires.gones (record { some = e.0; whole = e.1 })

pub loop-k-preserved : goal.loop-k-preserved
loop-k-preserved c =
    let w = (goal.at.loop-k-preserved c).After-record_in-r in
    let o = get_or (beneath (records c.args.it.now) c.args.c) c.loop-k.k 0 in
    let p = c.requires.leads c.record_in-r.result.parent (near w) ∙ ap (copy_parent (records c.args.it.now) c.args.c) (ap (λ r. r.parent) (read w)) in
    c.put_record.ensures
    ∙ copy-put (valid-wf c.args.it.now c.requires.valid) c.args.c (can (goal.at.loop-k-preserved c).Start) c.loop-k.k (left (goal.at.loop-k-preserved c).In-loop-k) c.loop-k.it c.loop-k.invariant _ _
    (ap (λ gs. get_or gs c.loop-k.k 0) c.requires.gones) (c.with_parent.ensures ∙ ap (λ q. to q c.record_in-r.result) p ∙ ap (to (copy_parent (records c.args.it.now) c.args.c (parent_of (records c.args.it.now) o))) (read w))

pub returns : goal.returns
returns c =
    let e : length (beneath (records c.args.it.now) c.args.c) ≤ c.loop-k.k = rw (← c.requires.beneath) (omega arith) in
    c.loop-k.invariant ∙ ap encode (filled-all (valid-wf c.args.it.now c.requires.valid) c.args.c (can (goal.at.returns c).Start) c.loop-k.k e)
