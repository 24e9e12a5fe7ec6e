-- The goals of `table_seed::fill_high`; the argument stands in Invariants.
use Rattle.std.proofs.Common.{◌≡◌, ◌+◌, ℕ, List, eq-eqb, ne_eqb, ◌∙◌, ap, arith, length, refl, subst, sym}
use Rattle.table_seed.specs.Seeds.{CellsSet}
use Rattle.table_seed.specs.Laws.{cells-no, cells-none, cells-yes}
use Rattle.model.specs.Tables.{bits, is_high, place_s}
use Rattle.table_seed.proofs.fill_high.Goals as goal
use Rattle.table_seed.proofs.fill_high.Goals.{then-policy-k-eq-HIGH, else-policy-k-eq-HIGH}

pub loop-k-init : goal.loop-k-init
loop-k-init c = (c.told-table, cells-none (is_high c.args.policy.now) place_s)

pub loop-k-preserved : goal.loop-k-preserved
unfolding is_high place_s
loop-k-preserved c =
    let a = c.args in let p = c.loop-k in
    elim c.if-policy-k-eq-HIGH.branch [
      | then-policy-k-eq-HIGH v ↦ (
        ap length v.table-is ∙ v.set_bit.auto.table ∙ p.invariant.0,
        cells-yes (is_high a.policy.now) place_s p.k p.table _ (12288 + p.k) (eq-eqb _ _ v.if-policy-k-eq-HIGH.true) refl (omega (arith, p.invariant.0)) (v.table-is ∙ v.set_bit.ensures) p.invariant.1,
      )
      | else-policy-k-eq-HIGH v ↦ (
        ap length v.table-is ∙ p.invariant.0,
        subst (λ (y : List ℕ). CellsSet (is_high a.policy.now) place_s (p.k + 1) (bits a.table.now) (bits y)) (sym v.table-is) (cells-no (is_high a.policy.now) place_s p.k (ne_eqb _ _ v.if-policy-k-eq-HIGH.false) p.invariant.1),
      )
    ]

pub returns : goal.returns
returns c =
    let a = c.args in let e : c.loop-k.k ≡ 64 = omega arith in
    subst (λ (k : ℕ). CellsSet (is_high a.policy.now) place_s k (bits a.table.now) (bits c.loop-k.table)) e c.loop-k.invariant.1
