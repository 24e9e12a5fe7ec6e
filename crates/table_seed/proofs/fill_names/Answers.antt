-- The goals of `table_seed::fill_names`; the argument stands in Invariants.
use Rattle.std.proofs.Common.{◌≡◌, ◌*◌, ◌+◌, ◌≤◌, ℕ, List, ◌∙◌, ap, arith, length, subst, sym}
use Rattle.model.specs.Records.{count, decode, records}
use Rattle.model.specs.Refusals.{pass}
use Rattle.model.specs.Tables.{bits}
use Rattle.model.specs.Validity.{validity}
use Rattle.table_partners.specs.Facts.{bearing, name_cell}
use Rattle.table_partners.specs.Standing.{bears, bears-not}
use Rattle.table_seed.specs.Laws.{cells-no, cells-none, cells-yes}
use Rattle.table_seed.specs.Seeds.{CellsSet}
use Rattle.table_seed.proofs.fill_names.Goals as goal
use Rattle.table_seed.proofs.fill_names.Goals.{then-is_ambient, else-is_ambient}

pub loop-i-init : goal.loop-i-init
loop-i-init c = (c.requires, cells-none (bearing (records c.args.it.now)) (name_cell (records c.args.it.now)))

-- a record within the count is whole
pub record_in-r-requires-clause-whole : goal.record_in-r-requires-clause-whole
unfolding count
record_in-r-requires-clause-whole c = omega (arith, c.count-i-end.ensures, ap length c.it.view_is)

-- an ambient of a valid itinerary has its bit within the part
pub set_bit-requires : goal.set_bit-requires
set_bit-requires c =
    let b = c.it.inside.bytes.now in
    let l : c.loop-i.i + 1 ≤ count b = omega (arith, c.count-i-end.ensures, ap count c.it.view_is) in
    let k = bears b c.it.invariant c.loop-i.i l c.record_in-r.result c.record_in-r.ensures (sym c.is_ambient.ensures ∙ c.if-is_ambient.true) in
    let x = k.label in let y = k.name in omega (arith, c.loop-i.invariant.0)

pub loop-i-preserved : goal.loop-i-preserved
loop-i-preserved c =
    let it = c.args.it.now in let l = c.loop-i in let r = c.record_in-r.result in
    let v = subst (λ (s : List ℕ). validity s ≡ pass) c.it.view_is c.it.invariant in
    let h : l.i + 1 ≤ count it = omega (arith, c.count-i-end.ensures) in
    let e = c.record_in-r.ensures ∙ ap (λ (s : List ℕ). decode s (l.i + 1)) c.it.view_is in
    elim c.if-is_ambient.branch [
      | then-is_ambient w ↦ let k = bears it v l.i h r e (sym c.is_ambient.ensures ∙ w.if-is_ambient.true) in let x = k.label in let y = k.name in (
        ap length w.names-is ∙ w.set_bit.auto.table ∙ l.invariant.0,
        cells-yes (bearing (records it)) (name_cell (records it)) l.i l.names _ (64 * r.label + r.name) k.test k.cell (omega (arith, l.invariant.0)) (w.names-is ∙ w.set_bit.ensures) l.invariant.1,
      )
      | else-is_ambient w ↦ (
        ap length w.names-is ∙ l.invariant.0,
        subst (λ (y : List ℕ). CellsSet (bearing (records it)) (name_cell (records it)) (l.i + 1) (bits c.args.names.now) (bits y)) (sym w.names-is)
            (cells-no (bearing (records it)) (name_cell (records it)) l.i (bears-not it v l.i h r e (sym c.is_ambient.ensures ∙ w.if-is_ambient.false)) l.invariant.1),
      )
    ]

pub returns-clause-cells : goal.returns-clause-cells
returns-clause-cells c =
    let it = records c.args.it.now in
    let e : c.loop-i.i ≡ count c.args.it.now = omega (arith, c.count-i-end.ensures) in
    subst (λ (k : ℕ). CellsSet (bearing it) (name_cell it) k (bits c.args.names.now) (bits c.loop-i.names)) e c.loop-i.invariant.1
