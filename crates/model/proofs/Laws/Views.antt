-- The laws of climbing: a view at the environment and at a record, and reaching the environment.
use Prim.Native.Nat.{◌≤◌, suc, zero, ℕ}
use Rattle.std.specs.Prelude.{length, true, List, ◌≢◌, ◌≡◌}
use Rattle.std.proofs.Common.{true≢false, ◌∙◌, ap, sym}
use Rattle.std.proofs.Math.Path.{refl}
use native.Mathlib.Omega.{arith}
use Rattle.model.specs.Climbing.{View, reaching, view, view_from}
use Rattle.model.proofs.Laws.Forest.{Depth, above, root, under}
use Rattle.model.proofs.Laws.WellFormed.{WellFormed, depths}
use Rattle.model.specs.Records.{at, parent_of}
use Rattle.model.specs.declared.Rec.{Rec}

-- a value that is z at the root, and at each other place what f makes of the value above
pub record Folds {A : Type 0} (f : ℕ → A → A) (z : A) (p : ℕ → ℕ) (L : ℕ → A) : Type 0 where
  pub at_top : L 0 ≡ z
  pub on : (i : ℕ) → i ≢ 0 → L i ≡ f i (L (p i))

module _ {A : Type 0} (v : View A) (its : List Rec) where
  pub from-top : (k : ℕ) → view_from v its k 0 ≡ v.top
  unfolding view_from
  from-top zero = refl
  from-top (suc k) = refl

  pub from-lost : (i : ℕ) → i ≢ 0 → view_from v its 0 i ≡ v.lost
  unfolding view_from
  from-lost zero h = absurd (h refl)
  from-lost (suc i) h = refl

  pub from_on : (k i : ℕ) → i ≢ 0 → view_from v its (suc k) i ≡ v.make i (at its i) (view_from v its k (parent_of its i))
  unfolding view_from
  from_on k zero h = absurd (h refl)
  from_on k (suc i) h = refl

  -- more climbs than the depth change nothing
  pub from_more : {i d : ℕ} (k : ℕ) → Depth (parent_of its) i d → d ≤ k → view_from v its (suc k) i ≡ view_from v its k i
  from_more k root l = from-top (suc k) ∙ sym (from-top k)
  from_more zero (under h r) l = absurd (omega arith)
  from_more (suc k) (under {i = i} h r) l = from_on (suc k) i h ∙ ap (v.make i (at its i)) (from_more k r (omega arith)) ∙ sym (from_on k i h)

  from-laws : (n : ℕ) → ((i : ℕ) → (d : ℕ) × (d ≤ suc n) × Depth (parent_of its) i d) → Folds (λ j. v.make j (at its j)) v.top (parent_of its) (view_from v its (suc n))
  from-laws n all = record { at_top = from-top (suc n); on = λ i h. from_on n i h ∙ ap (v.make i (at its i)) (sym (next i h)) }
    where
      next : (i : ℕ) → i ≢ 0 → view_from v its (suc n) (parent_of its i) ≡ view_from v its n (parent_of its i)
      next i h =
          let u = all i in
          let w = above u.2 h in
          from_more n w.2 (omega (arith, u.1, w.1))

module _ {A : Type 0} (v : View A) {its : List Rec} (wf : WellFormed its) where
  pub view_laws : Folds (λ j. v.make j (at its j)) v.top (parent_of its) (view v its)
  unfolding view
  view_laws = from-laws v its (length its) (depths wf)

  pub view-top : view v its 0 ≡ v.top
  view-top = view_laws.at_top

  pub view-on : (i : ℕ) → i ≢ 0 → view v its i ≡ v.make i (at its i) (view v its (parent_of its i))
  view-on = view_laws.on

-- climbing reaches the environment exactly from where there is a depth
module _ (its : List Rec) where
  pub depth-reaches : {i d : ℕ} (k : ℕ) → Depth (parent_of its) i d → d ≤ k → view_from reaching its k i ≡ true
  depth-reaches k root l = from-top reaching its k
  depth-reaches zero (under h r) l = absurd (omega arith)
  depth-reaches (suc k) (under {i = i} h r) l = from_on reaching its k i h ∙ depth-reaches k r (omega arith)

  pub reaches-depth : (k i : ℕ) → view_from reaching its k i ≡ true → (d : ℕ) × (d ≤ k) × Depth (parent_of its) i d
  unfolding view_from
  reaches-depth zero zero e = (0, omega arith, root)
  reaches-depth zero (suc i) e = absurd (true≢false (sym e))
  reaches-depth (suc k) zero e = (0, omega arith, root)
  reaches-depth (suc k) (suc i) e =
      let r = reaches-depth k (parent_of its (suc i)) e in
      (suc r.0, omega (arith, r.1), under {i = suc i} (omega arith) r.2)

-- what a change of the forest does to a value, where what stands at i now stood at m i before:
-- R between the two, if it goes from the place above to i
module _ {A : Type 0} (R : A → A → Type 0) {f f' : ℕ → A → A} {z : A} {p p' : ℕ → ℕ} {L L' : ℕ → A} (m : ℕ → ℕ) (m0 : m 0 ≡ 0)
    (rz : R z z) (laws : Folds f z p L) (laws' : Folds f' z p' L') (X : ℕ → Type 0) (closed : (i : ℕ) → X i → i ≢ 0 → X (p' i))
    (local : (i : ℕ) → X i → i ≢ 0 → R (L (m (p' i))) (L' (p' i)) → R (L (m i)) (f' i (L' (p' i)))) where
  pub fold-come : {i d : ℕ} → X i → Depth p' i d → R (L (m i)) (L' i)
  fold-come x root = rw (m0, laws.at_top, laws'.at_top) rz
  fold-come x (under {i = i} h r) = rw (laws'.on i h) (local i x h (fold-come (closed i x h) r))

-- where nothing moves to another number
module _ {A : Type 0} (R : A → A → Type 0) {f f' : ℕ → A → A} {z : A} {p p' : ℕ → ℕ} {L L' : ℕ → A}
    (rz : R z z) (laws : Folds f z p L) (laws' : Folds f' z p' L') (X : ℕ → Type 0) (closed : (i : ℕ) → X i → i ≢ 0 → X (p' i))
    (local : (i : ℕ) → X i → i ≢ 0 → R (L (p' i)) (L' (p' i)) → R (f i (L (p i))) (f' i (L' (p' i)))) where
  pub fold-carry : {i d : ℕ} → X i → Depth p' i d → R (L i) (L' i)
  fold-carry = fold-come R (λ i. i) refl rz laws laws' X closed (λ i x h r. rw (laws.on i h) (local i x h r))
