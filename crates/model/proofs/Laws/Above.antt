-- Container, active and hidden, found on the way up, are what document 01 says of the records that climbing reaches.
use Rattle.std.specs.Prelude.{◌<◌, suc, zero, ℕ, Bool, false, true, List, ◌≢◌, ◌≡◌, refl}
use Rattle.std.proofs.Common.{true≢false, ◌∙◌, ap, sym, arith}
use Rattle.std.proofs.Math.Decide.{ℕ_discrete}
use Rattle.model.specs.Climbing.{ambients, climb, hidden, is_suspect, nearest, nesting, ambients_only}
use Rattle.model.proofs.Laws.Containers.{ambient-and, ambients-here, hidden-root, hidden-suspect, hidden-up, nearest-amb, nearest-up}
use Rattle.model.proofs.Laws.Forest.{Depth, root, under}
use Rattle.model.proofs.Laws.Updates.{at-root}
use Rattle.model.proofs.Laws.Views.{view-on, view-top}
use Rattle.model.proofs.Laws.WellFormed.{WellFormed}
use Rattle.model.specs.Records.{at, is_ambient, parent_of}
use Rattle.model.specs.declared.Rec.{Rec}

module _ {its : List Rec} (wf : WellFormed its) where
  -- the record k climbs from i, i itself for k = 0
  abbrev from : ℕ → ℕ → Rec
  from i k = at its (climb (parent_of its) k i)

  -- "or a record above it, is an ambient whose label is in S"
  module _ (S : ℕ → Bool) where
    hidden-by : {i d : ℕ} → Depth (parent_of its) i d → hidden its S i ≡ true → (k : ℕ) × (is_suspect S (from i k) ≡ true)
    hidden-by root h = absurd (true≢false (sym h ∙ hidden-root wf S))
    hidden-by (under {i = i} z r) h = go (is_suspect S (at its i)) refl (hidden-by r)
      where
        go : (t : Bool) → is_suspect S (at its i) ≡ t → (hidden its S (parent_of its i) ≡ true → (k : ℕ) × (is_suspect S (from (parent_of its i) k) ≡ true)) → (k : ℕ) × (is_suspect S (from i k) ≡ true)
        go true e ih = (0, e)
        go false e ih = let w = ih (sym (hidden-up wf S i z e) ∙ h) in (suc w.0, w.1)

    pub hidden-use : (i : ℕ) → hidden its S i ≡ true → (k : ℕ) × (is_suspect S (from i k) ≡ true)
    hidden-use i h = hidden-by (wf.reach i).1 h

    pub hidden-make : (k i : ℕ) → is_suspect S (from i k) ≡ true → hidden its S i ≡ true
    hidden-make zero i h = hidden-suspect wf S i h
    hidden-make (suc k) i h = go (is_suspect S (at its i)) refl (ℕ_discrete i 0) (hidden-make k (parent_of its i) h)
      where
        go : (t : Bool) → is_suspect S (at its i) ≡ t → Dec (i ≡ 0) → hidden its S (parent_of its i) ≡ true → hidden its S i ≡ true
        go true e d ih = hidden-suspect wf S i e
        go false e (no z) ih = hidden-up wf S i z e ∙ ih
        go false e (yes z) ih = absurd (true≢false (sym ih ∙ ap (λ (x : ℕ). hidden its S (parent_of its x)) z ∙ ap (λ (r : Rec). hidden its S r.parent) (at-root its) ∙ hidden-root wf S))

  -- "all records above it are ambients"
  pub ambients-use : (k i : ℕ) → ambients its i ≡ true → climb (parent_of its) k i ≢ 0 → is_ambient (from i k) ≡ true
  ambients-use zero i h z = ambients-here wf i z h
  ambients-use (suc k) i h z = ambients-use k (parent_of its i) (go (ℕ_discrete i 0)) z
    where
      go : Dec (i ≡ 0) → ambients its (parent_of its i) ≡ true
      go (yes e) = ap (λ (x : ℕ). ambients its (parent_of its x)) e ∙ ap (λ (r : Rec). ambients its r.parent) (at-root its) ∙ view-top ambients_only wf
      go (no e) = sym (view-on ambients_only wf i e ∙ ambient-and _ _ (ambients-here wf i e h)) ∙ h

  pub ambients-make : (i : ℕ) → ((k : ℕ) → climb (parent_of its) k i ≢ 0 → is_ambient (from i k) ≡ true) → ambients its i ≡ true
  ambients-make i f = go (wf.reach i).1 f
    where
      go : {j d : ℕ} → Depth (parent_of its) j d → ((k : ℕ) → climb (parent_of its) k j ≢ 0 → is_ambient (from j k) ≡ true) → ambients its j ≡ true
      go root g = view-top ambients_only wf
      go (under {i = j} z r) g = view-on ambients_only wf j z ∙ ambient-and _ _ (g 0 z) ∙ go r (λ k. g (suc k))

  -- "the label of the nearest ambient above it": the first that climbing meets
  pub nearest-is : (k i : ℕ) → is_ambient (from i k) ≡ true → ((j : ℕ) → j < k → is_ambient (from i j) ≡ false) → nearest its i ≡ (from i k).label
  nearest-is zero i h f = nearest-amb wf i h
  nearest-is (suc k) i h f = go (ℕ_discrete i 0) (nearest-is k (parent_of its i) h (λ j l. f (suc j) (omega arith)))
    where
      go : Dec (i ≡ 0) → nearest its (parent_of its i) ≡ (from (parent_of its i) k).label → nearest its i ≡ (from (parent_of its i) k).label
      go (yes e) ih = ap (nearest its) (e ∙ sym (ap (λ (r : Rec). r.parent) (at-root its)) ∙ ap (parent_of its) (sym e)) ∙ ih
      go (no z) ih = nearest-up wf i z (f 0 (omega arith)) ∙ ih

  -- "or 0": where climbing meets no ambient
  pub nearest-none : (i : ℕ) → ((k : ℕ) → is_ambient (from i k) ≡ false) → nearest its i ≡ 0
  nearest-none i f = go (wf.reach i).1 f
    where
      go : {j d : ℕ} → Depth (parent_of its) j d → ((k : ℕ) → is_ambient (from j k) ≡ false) → nearest its j ≡ 0
      go root g = view-top nesting wf
      go (under {i = j} z r) g = nearest-up wf j z (g 0) ∙ go r (λ k. g (suc k))
