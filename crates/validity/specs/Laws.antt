-- The checks in their order, and what they let through to be climbed.
use Rattle.std.specs.Prelude.{◌%◌, ◌+◌, ◌<◌, ◌≤◌, suc, zero, ℕ, leb, length, Bool, false, is_some, true, List, Option, None, Some, IfNone, ◌≡◌, refl}
use Rattle.std.proofs.Common.{leb-true, ◌∙◌, add-one, ap, sym, arith}
use Rattle.std.proofs.Math.Decide.{dec_le, ℕ_discrete}
use Rattle.model.specs.Climbing.{View, reaches}
use Rattle.model.proofs.Laws.Bytes.{at-whole, length-records, size-le, size-whole, sound-record}
use Rattle.model.proofs.Laws.Checks.{each-make, each-pass, need-make, then_next, then-refuse}
use Rattle.model.proofs.Laws.Booleans.{and_left, and_right}
use Rattle.model.proofs.Laws.Finite.{every-use}
use Rattle.model.proofs.Laws.Forest.{Depth, depth_le, root, under}
use Rattle.model.proofs.Laws.Updates.{at-over, at-root}
use Rattle.model.proofs.Laws.Views.{depth-reaches, reaches-depth}
use Rattle.model.specs.Records.{at, count, decode, gone, parent_of, records}
use Rattle.model.specs.Refusals.{each_of, pass, refuse}
use Rattle.model.specs.Validity.{climb_check, form, label_by, label_in, label_right, parent_right, record_check, size_right}
use Rattle.model.specs.declared.Rec.{Rec}
use Rattle.model.proofs.Laws.WellFormed.{amb-nested}
use Rattle.record_checks.specs.Reading.{in_order}
use Rattle.records.specs.Climbs.{ambient-is}
use Rattle.ways.specs.Ways.{Finding, Lost, Parented, Viewable}

-- the checks of a validation in order
module _ (s : List ℕ) where
  pub form-read : {k i : ℕ} → size_right s ≡ true → each_of (record_check s) 1 (count s) ≡ refuse k i → form s ≡ refuse k i
  unfolding form
  form-read e f = then-refuse _ (then_next _ (need-make 1 0 e) ∙ f)

  pub form-climb : size_right s ≡ true → each_of (record_check s) 1 (count s) ≡ pass → form s ≡ each_of (climb_check (records s)) 1 (count s)
  unfolding form
  form-climb e f = then_next _ (then_next _ (need-make 1 0 e) ∙ f)

-- every parent is within the count, once refusals 2 to 5 are past
pub parents-in : (s : List ℕ) → length s % 8 ≡ 0 → each_of (record_check s) 1 (count s) ≡ pass → (j : ℕ) → parent_of (records s) j ≤ count s
unfolding parent_right
parents-in s m h j = go (ℕ_discrete j 0) (dec_le j (count s))
  where
    right : (p : ℕ) → parent_right s p ≡ true → p ≤ count s
    right zero q = omega arith
    right (suc p) q = leb-true _ _ (and_left _ _ q)

    go : Dec (j ≡ 0) → Dec (j ≤ count s) → parent_of (records s) j ≤ count s
    go (yes e) _ = rw (e, ap (λ r. r.parent) (at-root (records s))) (omega arith)
    go (no e) (yes l) = rw (ap (λ r. r.parent) (at-whole s m j)) (right _ (sound-record s j (each-pass _ 1 (count s) h j (omega arith) (omega arith))).parents)
    go (no e) (no l) = rw (ap (λ r. r.parent) (at-over (records s) j (omega (arith, length-records s)))) (omega arith)

-- an ambient whose label is right has one that a policy knows
ambient-few : (r : Rec) → label_right r ≡ true → r.kind ≡ 1 → r.label < 64
unfolding label_right label_by label_in
ambient-few r h k =
    let a = ambient-is r k in
    let w = rw (amb-nested r a, a) at h in
    omega (arith, leb-true r.label 63 (and_right (leb 1 r.label) _ w))

-- every ambient has a label that a policy knows, once refusals 2 to 5 are past
labels-in : (s : List ℕ) → length s % 8 ≡ 0 → each_of (record_check s) 1 (count s) ≡ pass → (j : ℕ) → (decode s j).kind ≡ 1 → (decode s j).label < 64
labels-in s m h j k = go (ℕ_discrete j 0) (dec_le j (count s))
  where
    not-gone : at (records s) j ≡ gone → (decode s j).label < 64
    not-gone e = absurd (omega (arith, k, ap (λ r. r.kind) (sym (at-whole s m j) ∙ e)))

    go : Dec (j ≡ 0) → Dec (j ≤ count s) → (decode s j).label < 64
    go (yes e) _ = not-gone (ap (at (records s)) e ∙ at-root (records s))
    go (no e) (yes l) = ambient-few _ (sound-record s j (each-pass _ 1 (count s) h j (omega arith) (omega arith))).labels k
    go (no e) (no l) = not-gone (at-over (records s) j (omega (arith, length-records s)))

pub parented : (s : List ℕ) → size_right s ≡ true → each_of (record_check s) 1 (count s) ≡ pass → Parented s
parented s e h = record { whole = size-whole s e; few = size-le s e; parents = parents-in s (size-whole s e) h }

pub viewable : (s : List ℕ) → size_right s ≡ true → each_of (record_check s) 1 (count s) ≡ pass → Viewable s
viewable s e h = record { parented = parented s e h; labels = labels-in s (size-whole s e) h }

-- whether something is found at record i, by as many climbs as there are records, is whether it reaches the environment
pub found-reaches : (s : List ℕ) → Parented s → (i : ℕ) → i ≤ count s → {A : Type 0} {v : View A} (o : Option A) → ((x : A) → o ≡ Some x → Finding v s i x) → IfNone o (Lost s (count s) i) → is_some o ≡ reaches (records s) i
unfolding reaches
found-reaches s p i l (Some x) f g =
    let w = f x refl in
    let m : length (records s) ≡ count s = length-records s in
    sym (depth-reaches (records s) (length (records s)) w.reaches (depth_le (length (records s)) (λ j. rw m (p.parents j)) (omega arith) w.reaches))
found-reaches s p i l None f g = go (reaches (records s) i) refl
  where
    go : (b : Bool) → reaches (records s) i ≡ b → false ≡ reaches (records s) i
    go false e = sym e
    go true e = let r = reaches-depth (records s) (length (records s)) i e in absurd (g r.0 (omega (arith, r.1, length-records s)) r.2)

-- where no parent has a higher number every record reaches the environment
module _ (s : List ℕ) (p : Parented s) where
  -- by as many climbs as its number at most
  descend : ((k : ℕ) → k < count s → (decode s (k + 1)).parent ≤ k) → (m i : ℕ) → i ≤ m → i ≤ count s → (d : ℕ) × (d ≤ i) × Depth (parent_of (records s)) i d
  descend h m zero l c = (0, omega arith, root)
  descend h zero (suc i) l c = absurd (omega arith)
  descend h (suc m) (suc i) l c =
      let e : parent_of (records s) (suc i) ≡ (decode s (i + 1)).parent = ap (λ r. r.parent) (at-whole s p.whole (suc i)) ∙ ap (λ j. (decode s j).parent) (sym (add-one i)) in
      let q : parent_of (records s) (suc i) ≤ i = rw e (h i (omega arith)) in
      let r = descend h m (parent_of (records s) (suc i)) (omega arith) (omega arith) in
      (suc r.0, omega (arith, r.1), under (λ u. omega (arith, u)) r.2)

  pub ordered : in_order s (count s) ≡ true → each_of (climb_check (records s)) 1 (count s) ≡ pass
  unfolding climb_check reaches in_order
  ordered e = each-make _ 1 (count s) (λ j l m.
      let w = descend (λ k h. leb-true _ _ (every-use _ _ _ e k h refl)) j j (omega arith) (omega arith) in
      need-make 6 j (depth-reaches (records s) (length (records s)) w.2 (omega (arith, w.1, length-records s))))
