-- Climbing past ambients, up to four at a time.
use Rattle.std.specs.Prelude.{◌%◌, ◌-◌, ◌≤◌, ℕ, eqb, length, Bool, List, ◌≢◌, ◌≡◌}
use Rattle.std.proofs.Common.{eq-eqb, ne_eqb, ◌∙◌, arith}
use Rattle.std.proofs.Math.Bool.{false, true, true≢false}
use Rattle.std.proofs.Math.Path.{ap, refl, sym}
use Rattle.std.proofs.Math.Decide.{ℕ_discrete}
use Rattle.model.specs.Climbing.{ambients_only, view_from}
use Rattle.model.proofs.Laws.Bytes.{at-whole}
use Rattle.model.proofs.Laws.Containers.{ambient-and, not-ambient-and}
use Rattle.model.proofs.Laws.Updates.{at-root}
use Rattle.model.specs.Records.{decode, is_ambient, records}
use Rattle.model.specs.declared.Rec.{Rec}
use Rattle.records.specs.Climbs.{climb-lost, climb-on, climb-top}
use Rattle.climbing.specs.Up.{up_from}

-- climbing past ambients; r is record i
module _ (s : List ℕ) (m : length s % 8 ≡ 0) (i : ℕ) (r : Rec) (e : r ≡ decode s i) where
  pub ambient-pos : is_ambient r ≡ true → i ≢ 0
  unfolding is_ambient
  ambient-pos t z = true≢false (sym t ∙ ap is_ambient (e ∙ ap (decode s) z ∙ sym (at-whole s m 0) ∙ at-root (records s)))

  pub only-on : (left : ℕ) → left ≢ 0 → is_ambient r ≡ true → view_from ambients_only (records s) left i ≡ view_from ambients_only (records s) (left - 1) r.parent
  only-on left n t = climb-on ambients_only s left i m (ambient-pos t) n r e ∙ ambient-and _ _ t

  pub only-stop : (k : ℕ) → is_ambient r ≡ false → view_from ambients_only (records s) k i ≡ eqb i 0
  only-stop k t = go (ℕ_discrete i 0) (ℕ_discrete k 0)
    where
      go : Dec (i ≡ 0) → Dec (k ≡ 0) → view_from ambients_only (records s) k i ≡ eqb i 0
      go (yes z) _ = climb-top ambients_only s k i z ∙ sym (eq-eqb i 0 z)
      go (no z) (yes q) = climb-lost ambients_only s k i z q ∙ sym (ne_eqb i 0 z)
      go (no z) (no q) = climb-on ambients_only s k i m z q r e ∙ not-ambient-and _ _ t ∙ sym (ne_eqb i 0 z)

module _ (s : List ℕ) (m : length s % 8 ≡ 0) where
  -- one climb up
  only-up : (left i : ℕ) → left ≢ 0 → view_from ambients_only (records s) left i ≡ view_from ambients_only (records s) (left - 1) (up_from s i)
  unfolding up_from
  only-up left i n = go (is_ambient (decode s i)) refl
    where
      go : (t : Bool) → is_ambient (decode s i) ≡ t → view_from ambients_only (records s) left i ≡ view_from ambients_only (records s) (left - 1) (elim t [ true ↦ (decode s i).parent | false ↦ i ])
      go true q = only-on s m i _ refl left n q
      go false q = only-stop s m i _ refl left q ∙ sym (only-stop s m i _ refl (left - 1) q)

  -- four climbs from an ambient; a, b and c are the numbers between
  pub only-far : (left i : ℕ) (r : Rec) → r ≡ decode s i → is_ambient r ≡ true → 4 ≤ left → (a b c : ℕ) → a ≡ up_from s r.parent → b ≡ up_from s a → c ≡ up_from s b →
      view_from ambients_only (records s) left i ≡ view_from ambients_only (records s) (left - 4) c
  only-far left i r e t l a b c p q o =
      let u : left - 1 - 1 - 1 - 1 ≡ left - 4 = omega arith in
      only-on s m i r e left (λ z. omega arith) t
      ∙ only-up (left - 1) r.parent (λ z. omega arith) ∙ ap (view_from ambients_only (records s) (left - 1 - 1)) (sym p)
      ∙ only-up (left - 1 - 1) a (λ z. omega arith) ∙ ap (view_from ambients_only (records s) (left - 1 - 1 - 1)) (sym q)
      ∙ only-up (left - 1 - 1 - 1) b (λ z. omega arith) ∙ ap (view_from ambients_only (records s) (left - 1 - 1 - 1 - 1)) (sym o)
      ∙ ap (λ k. view_from ambients_only (records s) k c) u

module _ (s : List ℕ) (i : ℕ) (r : Rec) (e : r ≡ decode s i) where
  pub up-over : is_ambient r ≡ true → r.parent ≡ up_from s i
  unfolding up_from
  up-over t = ap (λ x. x.parent) e ∙ sym (ap (λ (t : Bool). elim t [ true ↦ (decode s i).parent | false ↦ i ]) (ap is_ambient (sym e) ∙ t))

  pub up-stays : is_ambient r ≡ false → i ≡ up_from s i
  unfolding up_from
  up-stays t = sym (ap (λ (t : Bool). elim t [ true ↦ (decode s i).parent | false ↦ i ]) (ap is_ambient (sym e) ∙ t))
