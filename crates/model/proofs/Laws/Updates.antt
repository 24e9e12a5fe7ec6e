-- Reading a record after an update.
use Prim.Native.Nat.{◌+◌, ◌<◌, ◌≤◌, suc, zero, ℕ}
use Rattle.std.proofs.Common.{eq-eqb, ne_eqb, ◌∙◌, add-suc, add-zero}
use Rattle.std.specs.Prelude.{get_or, length, ◌≢◌, ◌≡◌}
use mathlib.Core.List.{List, [], ◌∷◌}
use Rattle.std.proofs.Math.Path.{ap, refl, sym}
use Rattle.std.proofs.Math.Decide.{dec_le, ℕ_discrete}
use Rattle.std.proofs.Math.Nat.{suc-add}
use native.Mathlib.Omega.{arith}
use Rattle.model.specs.Records.{at, gone, parent_of, update, update_from}
use Rattle.model.specs.Steps.{dissolve, dissolved, place, placed, to}
use Rattle.model.specs.declared.Rec.{Rec}

pub at-root : (its : List Rec) → at its 0 ≡ gone
unfolding at
at-root its = refl

pub at-over : (its : List Rec) (i : ℕ) → length its < i → at its i ≡ gone
unfolding at
at-over its zero h = absurd (omega arith)
at-over [] (suc i) h = refl
at-over (r ∷ rs) (suc zero) h = absurd (omega arith)
at-over (r ∷ rs) (suc (suc i)) h = at-over rs (suc i) (omega arith)

module _ (f : ℕ → Rec → Rec) where
  get_d-update : (k : ℕ) (its : List Rec) (i : ℕ) → i < length its → get_or (update_from f k its) i gone ≡ f (k + i) (get_or its i gone)
  unfolding update_from
  get_d-update k [] i h = absurd (omega arith)
  get_d-update k (r ∷ rs) zero h = rw (add-zero k)
  get_d-update k (r ∷ rs) (suc i) h = get_d-update (suc k) rs i (omega arith) ∙ rw (add-suc k i, suc-add k i)

  length_from : (k : ℕ) (its : List Rec) → length (update_from f k its) ≡ length its
  unfolding update_from
  length_from k [] = refl
  length_from k (r ∷ rs) = ap suc (length_from (suc k) rs)

  pub length-update : (its : List Rec) → length (update f its) ≡ length its
  length-update its = length_from 1 its

  pub at-update : (its : List Rec) (i : ℕ) → i ≢ 0 → i ≤ length its → at (update f its) i ≡ f i (at its i)
  unfolding at
  at-update its zero z h = absurd (z refl)
  at-update its (suc i) z h = let u : 1 + i ≡ suc i = omega arith in get_d-update 1 its i h ∙ rw u

  -- where f keeps what is gone, the law holds over the count too
  pub at-update-all : (its : List Rec) (i : ℕ) → i ≢ 0 → f i gone ≡ gone → at (update f its) i ≡ f i (at its i)
  at-update-all its i z g = go (dec_le i (length its))
    where
      go : Dec (i ≤ length its) → at (update f its) i ≡ f i (at its i)
      go (yes h) = at-update its i z h
      go (no h) = at-over (update f its) i (omega (arith, length-update its)) ∙ sym (rw (at-over its i (omega arith)) g)

module _ (x q i : ℕ) (r : Rec) where
  pub dissolved-self : i ≡ x → dissolved x q i r ≡ gone
  unfolding dissolved
  dissolved-self e = rw (eq-eqb i x e, dissolved)

  pub dissolved-moved : i ≢ x → r.parent ≡ x → dissolved x q i r ≡ to q r
  unfolding dissolved
  dissolved-moved h e = rw (ne_eqb i x h, dissolved) (rw (eq-eqb r.parent x e))

  pub dissolved-stays : i ≢ x → r.parent ≢ x → dissolved x q i r ≡ r
  unfolding dissolved
  dissolved-stays h e = rw (ne_eqb i x h, dissolved) (rw (ne_eqb r.parent x e))

module _ (x : ℕ) (its : List Rec) (z : x ≢ 0) where
  at-dissolve : (i : ℕ) → i ≢ 0 → at (dissolve x its) i ≡ dissolved x (parent_of its x) i (at its i)
  unfolding dissolve
  at-dissolve i h = at-update-all (dissolved x (parent_of its x)) its i h (go (ℕ_discrete i x))
    where
      go : Dec (i ≡ x) → dissolved x (parent_of its x) i gone ≡ gone
      go (yes e) = dissolved-self x _ i gone e
      go (no e) = dissolved-stays x _ i gone e (λ u. z (sym u))

  pub dissolve-self : at (dissolve x its) x ≡ gone
  dissolve-self = at-dissolve x z ∙ dissolved-self x _ x _ refl

  pub dissolve-moved : (i : ℕ) → i ≢ x → parent_of its i ≡ x → at (dissolve x its) i ≡ to (parent_of its x) (at its i)
  dissolve-moved i h e = at-dissolve i n ∙ dissolved-moved x _ i _ h e
    where
      n : i ≢ 0
      n u = z (sym e ∙ ap (λ j. parent_of its j) u ∙ ap (λ r. r.parent) (at-root its))

  pub dissolve-stays : (i : ℕ) → i ≢ x → parent_of its i ≢ x → at (dissolve x its) i ≡ at its i
  dissolve-stays i h e = go (ℕ_discrete i 0)
    where
      go : Dec (i ≡ 0) → at (dissolve x its) i ≡ at its i
      go (yes u) = rw u (at-root _ ∙ sym (at-root its))
      go (no u) = at-dissolve i u ∙ dissolved-stays x _ i _ h e

pub dissolve-length : (x : ℕ) (its : List Rec) → length (dissolve x its) ≡ length its
unfolding dissolve
dissolve-length x its = length-update _ its

module _ (a t i : ℕ) (r : Rec) where
  pub placed-self : i ≡ a → placed a t i r ≡ to t r
  unfolding placed
  placed-self e = rw (eq-eqb i a e, placed)

  pub placed-other : i ≢ a → placed a t i r ≡ r
  unfolding placed
  placed-other e = rw (ne_eqb i a e, placed)

module _ (a t : ℕ) (its : List Rec) where
  pub place-self : a ≢ 0 → a ≤ length its → at (place a t its) a ≡ to t (at its a)
  unfolding place
  place-self z h = at-update (placed a t) its a z h ∙ placed-self a t a _ refl

  pub place_other : (i : ℕ) → i ≢ a → at (place a t its) i ≡ at its i
  unfolding place
  place_other i h = go (ℕ_discrete i 0)
    where
      go : Dec (i ≡ 0) → at (place a t its) i ≡ at its i
      go (yes u) = rw u (at-root _ ∙ sym (at-root its))
      go (no u) = at-update-all (placed a t) its i u (placed-other a t i gone h) ∙ placed-other a t i _ h

  pub place-length : length (place a t its) ≡ length its
  unfolding place
  place-length = length-update _ its
