-- A sealed verdict puts a boundary ambient above every suspect ambient.
use Prim.Native.Nat.{◌<◌, suc, ℕ}
use Rattle.std.proofs.lemmas.Bool.{not-true}
use Rattle.std.proofs.Math.Bool.{Bool, not}
use Rattle.std.specs.Prelude.{◌&&◌, false, true, List, ◌⊎◌, ◌≡◌}
use Rattle.std.proofs.Common.{true≢false, inl, ◌∙◌, ap, sym, arith}
use Rattle.std.proofs.Math.Logic.{inr}
use Rattle.std.specs.Prelude.{Option, None, Some}
use Rattle.std.proofs.Math.Path.{refl}
use Rattle.model.specs.Analysis.{Permit}
use Rattle.model.specs.Climbing.{climb, nearest, nesting}
use Rattle.model.specs.Finite.{lowest}
use Rattle.model.proofs.Laws.Booleans.{and_left, and-make, and_right}
use Rattle.model.proofs.Laws.Containers.{nearest-amb, nearest-small, nearest-up}
use Rattle.model.proofs.Laws.Finite.{lowest-none}
use Rattle.model.proofs.Laws.Forest.{Depth, root, under}
use Rattle.model.proofs.Laws.Holding.{Holds}
use Rattle.model.proofs.Laws.Reach.{reached-inside, reached-next, reached-start}
use Rattle.model.proofs.Laws.Views.{view-top}
use Rattle.model.proofs.Laws.WellFormed.{WellFormed, amb-nested, small}
use Rattle.model.specs.Records.{at, is_ambient, parent_of}
use Rattle.model.specs.Tables.{Table, is_boundary, is_high}
use Rattle.model.specs.Verdicts.{in_r, opening, verdict_by, verdict_of}
use Rattle.model.specs.declared.Rec.{Rec}
use Rattle.model.specs.declared.Verdict.TheVariants.{Sealed}

-- what a sealed verdict says of a table and a policy
pub record SealedOff (T : Table) (policy : List ℕ) : Type 0 where
  pub start : in_r T policy 0 ≡ true
  pub next : (x k : ℕ) → x < 64 → k < 64 → in_r T policy x ≡ true → is_boundary policy x ≡ false → T.I x k ≡ true → in_r T policy k ≡ true
  pub apart : (k : ℕ) → k < 64 → T.S k ≡ true → in_r T policy k ≡ false

module _ (T : Table) (policy : List ℕ) where
  clear : (a b : Bool) → (a && b) ≡ false → b ≡ true → a ≡ false
  clear true b p q = sym q ∙ p
  clear false b p q = refl

  pub R-start : in_r T policy 0 ≡ true
  unfolding in_r
  R-start = reached-start 64 (opening T policy) (omega arith)

  pub R-next : (x k : ℕ) → x < 64 → k < 64 → in_r T policy x ≡ true → is_boundary policy x ≡ false → T.I x k ≡ true → in_r T policy k ≡ true
  unfolding in_r opening
  R-next x k lx lk h n i = reached-next 64 (opening T policy) x k lx lk h (and-make i (ap not n))

  -- R lies inside every set with 0 in it that is closed under what stands directly in a label that is no boundary
  pub R-least : (X : ℕ → Bool) → X 0 ≡ true → ((x k : ℕ) → x < 64 → k < 64 → X x ≡ true → is_boundary policy x ≡ false → T.I x k ≡ true → X k ≡ true) →
      (k : ℕ) → k < 64 → in_r T policy k ≡ true → X k ≡ true
  unfolding in_r opening
  R-least X z f = reached-inside 64 (opening T policy) X z (λ x k lx lk h e. f x k lx lk h (not-true _ (and_right (T.I x k) _ e)) (and_left _ _ e))

  pub sealed-closed : verdict_of T policy ≡ Sealed → SealedOff T policy
  unfolding verdict_of verdict_by
  sealed-closed v = record { start = R-start; next = R-next; apart = go (lowest high 0 64) (lowest both 0 64) refl v }
    where
      high : ℕ → Bool
      high k = in_r T policy k && is_high policy k

      both : ℕ → Bool
      both k = in_r T policy k && T.S k

      go : (o o' : Option ℕ) → lowest both 0 64 ≡ o' → verdict_by o o' ≡ Sealed → (k : ℕ) → k < 64 → T.S k ≡ true → in_r T policy k ≡ false
      go (Some j) o' e w k l s = let u : ◌≡◌ {A = ℕ} 0 1 = cc in absurd (omega arith)
      go None (Some j) e w k l s = let u : ◌≡◌ {A = ℕ} 0 1 = cc in absurd (omega arith)
      go None None e w k l s = clear (in_r T policy k) (T.S k) (lowest-none both 0 64 e k (omega arith) l) s

-- the environment is not suspect
pub environment-clear : {T : Table} {policy : List ℕ} → SealedOff T policy → T.S 0 ≡ false
environment-clear {T} {policy} z = go (T.S 0) refl
  where
    go : (t : Bool) → T.S 0 ≡ t → t ≡ false
    go false e = refl
    go true e = sym z.start ∙ z.apart 0 (omega arith) e

abbrev Bounded : List ℕ → List Rec → ℕ → Type 0
Bounded policy its j = (is_ambient (at its j) ≡ true) × (is_boundary policy (at its j).label ≡ true)

module _ {permit : Permit} {policy : List ℕ} {T : Table} (z : SealedOff T policy) (low : is_boundary policy 0 ≡ false) {its : List Rec} (wf : WellFormed its) (holds : Holds permit policy its T) where
  Free : ℕ → Type 0
  Free i = (in_r T policy (nearest its i) ≡ true) × (is_boundary policy (nearest its i) ≡ false)

  -- from a place on upwards there is a boundary, or its container is in R and no boundary
  above-or-free : {i d : ℕ} → Depth (parent_of its) i d → ((k : ℕ) × Bounded policy its (climb (parent_of its) k i)) ⊎ Free i
  unfolding Free
  above-or-free root = inr (rw (view-top nesting wf) z.start, rw (view-top nesting wf) low)
  above-or-free (under {i = i} n r) = up (above-or-free r)
    where
      Goal : Type 0
      Goal = ((k : ℕ) × Bounded policy its (climb (parent_of its) k i)) ⊎ Free i

      go : (t w : Bool) → is_ambient (at its i) ≡ t → is_boundary policy (at its i).label ≡ w → Free (parent_of its i) → Goal
      go true true e b f = inl (0, (e, b))
      go true false e b f = inr (rw (nearest-amb wf i e) (z.next _ _ (nearest-small wf (parent_of its i)) (small wf i e) f.0 f.1 ((holds.fits i).nest (amb-nested _ e))), rw (nearest-amb wf i e) b)
      go false w e b f = inr (rw (nearest-up wf i n e) f.0, rw (nearest-up wf i n e) f.1)

      up : ((k : ℕ) × Bounded policy its (climb (parent_of its) k (parent_of its i))) ⊎ Free (parent_of its i) → Goal
      up (inl w) = inl (suc w.0, w.1)
      up (inr w) = go (is_ambient (at its i)) (is_boundary policy (at its i).label) refl refl w

  -- every suspect ambient has a boundary ambient above it
  pub suspect-guarded : (i : ℕ) → is_ambient (at its i) ≡ true → T.S (at its i).label ≡ true → (k : ℕ) × (is_ambient (at its (climb (parent_of its) (suc k) i)) ≡ true) × (is_boundary policy (at its (climb (parent_of its) (suc k) i)).label ≡ true)
  unfolding Free
  suspect-guarded i e s = go (above-or-free (wf.reach (parent_of its i)).1)
    where
      go : ((k : ℕ) × Bounded policy its (climb (parent_of its) k (parent_of its i))) ⊎ Free (parent_of its i) →
          (k : ℕ) × (is_ambient (at its (climb (parent_of its) (suc k) i)) ≡ true) × (is_boundary policy (at its (climb (parent_of its) (suc k) i)).label ≡ true)
      go (inl w) = (w.0, w.1.0, w.1.1)
      go (inr w) = absurd (true≢false
          (sym (z.next _ _ (nearest-small wf (parent_of its i)) (small wf i e) w.0 w.1 ((holds.fits i).nest (amb-nested _ e)))
          ∙ z.apart (at its i).label (small wf i e) s))
