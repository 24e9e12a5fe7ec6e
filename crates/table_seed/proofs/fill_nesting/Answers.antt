-- The goals of `table_seed::fill_nesting`; the argument stands in Invariants. The labels found are the nearest from each number
-- on upwards.
use Rattle.std.proofs.Common.{◌≡◌, ◌*◌, ◌+◌, ◌≤◌, ℕ, List, ◌∙◌, ap, arith, length, subst, sym}
use Rattle.enclosures.specs.Laws.{nearest-read, nearest-there, nearests-are, notes-root}
use Rattle.enclosures.specs.Notes.{Nearests}
use Rattle.model.proofs.Laws.Bytes.{valid-few}
use Rattle.model.specs.Records.{count, decode, records}
use Rattle.model.specs.Refusals.{pass}
use Rattle.model.specs.Tables.{bits}
use Rattle.model.specs.Validity.{validity}
use Rattle.table_partners.specs.Facts.{nesting_cell, standing}
use Rattle.table_partners.specs.Standing.{stands, stands-not, within}
use Rattle.table_seed.specs.Laws.{cells-no, cells-none, cells-yes}
use Rattle.table_seed.specs.Seeds.{CellsSet}
use Rattle.ways.specs.Valid.{parent-near}
use Rattle.table_seed.proofs.fill_nesting.Goals as goal
use Rattle.table_seed.proofs.fill_nesting.Goals.{After-enclose, After-it, After-record_in-r, then-is_nested, else-is_nested}

valid : (c : After-it) → validity c.args.it.now ≡ pass
valid c = subst (λ (s : List ℕ). validity s ≡ pass) c.it.view_is c.it.invariant

near : (c : After-enclose) → validity c.args.it.now ≡ pass → Nearests c.args.it.now c.enclose.new.notes
near c v = nearests-are c.args.policy.now _ (rw c.notes-notes.ensures (notes-root _ c.args.policy.now v).passable.room) c.enclose.ensures

is : (c : After-record_in-r) → c.record_in-r.result ≡ decode c.args.it.now (c.loop-i.i + 1)
is c = c.record_in-r.ensures ∙ ap (λ (s : List ℕ). decode s (c.loop-i.i + 1)) c.it.view_is

pub enclose-requires : goal.enclose-requires
enclose-requires c = rw c.notes-notes.ensures (notes-root _ c.args.policy.now (valid (goal.at.enclose-requires c).After-it))

pub loop-i-init : goal.loop-i-init
loop-i-init c = (c.told-table, cells-none (standing (records c.args.it.now)) (nesting_cell (records c.args.it.now)))

-- a record within the count is whole
pub record_in-r-requires-clause-whole : goal.record_in-r-requires-clause-whole
unfolding count
record_in-r-requires-clause-whole c = omega (arith, c.count-i-end.ensures, ap length c.it.view_is)

pub bounds-notes-r : goal.bounds-notes-r
unfolding count
bounds-notes-r c =
    let b = c.it.inside.bytes.now in
    let n = parent-near b c.it.invariant _ _ c.record_in-r.ensures in
    let m = valid-few b c.it.invariant in omega arith

pub unwrap-container-requires : goal.unwrap-container-requires
unwrap-container-requires c =
    let d = goal.at.unwrap-container-requires c in
    let v = valid d.After-it in
    nearest-there (near d.After-enclose v) _ (parent-near c.args.it.now v _ _ (is d.After-record_in-r)) _

pub set_bit-requires : goal.set_bit-requires
set_bit-requires c =
    let d = goal.at.set_bit-requires c in
    let v = valid d.After-it in let e = is d.After-record_in-r in
    let p = nearest-read (near d.After-enclose v) _ (parent-near c.args.it.now v _ _ e) _ c.unwrap-container.ensures in
    let h : c.loop-i.i + 1 ≤ count c.args.it.now = omega (arith, c.count-i-end.ensures) in
    let k = within c.args.it.now v c.loop-i.i h c.record_in-r.result e _ p in
    let x = k.label in let y = k.above in omega arith

pub loop-i-preserved : goal.loop-i-preserved
loop-i-preserved c =
    let it = c.args.it.now in let l = c.loop-i in let r = c.record_in-r.result in
    let d = goal.at.loop-i-preserved c in
    let v = valid d.After-it in let e = is d.After-record_in-r in
    let h : l.i + 1 ≤ count it = omega (arith, c.count-i-end.ensures) in
    elim c.if-is_nested.branch [
      | then-is_nested w ↦
          let p = nearest-read (near d.After-enclose v) _ (parent-near it v _ _ e) _ w.unwrap-container.ensures in
          let k = stands it v l.i h r e _ p (sym c.is_nested.ensures ∙ w.if-is_nested.true) in
          let b = within it v l.i h r e _ p in
          let a = w.unwrap-container.result.label in let x = b.label in let y = b.above in (
            ap length w.table-is ∙ w.set_bit.auto.table ∙ l.invariant.0,
            cells-yes (standing (records it)) (nesting_cell (records it)) l.i l.table _ (128 * a + r.label) k.test k.cell (omega (arith, l.invariant.0)) (w.table-is ∙ w.set_bit.ensures) l.invariant.1,
          )
      | else-is_nested w ↦ (
        ap length w.table-is ∙ l.invariant.0,
        subst (λ (y : List ℕ). CellsSet (standing (records it)) (nesting_cell (records it)) (l.i + 1) (bits c.args.table.now) (bits y)) (sym w.table-is)
            (cells-no (standing (records it)) (nesting_cell (records it)) l.i (stands-not it v l.i h r e (sym c.is_nested.ensures ∙ w.if-is_nested.false)) l.invariant.1),
      )
    ]
