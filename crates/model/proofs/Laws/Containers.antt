-- Containers, active capabilities and hidden records, found by climbing: what each record adds.
use Rattle.std.specs.Prelude.{◌<◌, ℕ, Bool, ◌&&◌, List, ◌≢◌, ◌≡◌}
use Rattle.std.proofs.Math.Bool.{false, true}
use Rattle.std.proofs.Common.{true≢false, ◌∙◌, ap, sym, arith}
use Rattle.std.proofs.Math.Path.{refl}
use Rattle.std.proofs.Math.Decide.{ℕ_discrete}
use Rattle.model.specs.Climbing.{ambient_and, ambients, container, hidden, hides, hiding, is_suspect, labelled, nearest, nesting, ambients_only}
use Rattle.model.proofs.Laws.Done.{amb-alive}
use Rattle.model.proofs.Laws.Forest.{Depth, root, under}
use Rattle.model.proofs.Laws.Updates.{at-root}
use Rattle.model.proofs.Laws.Views.{view-on, view-top}
use Rattle.model.proofs.Laws.WellFormed.{SameBut, WellFormed, alive-pos, small}
use Rattle.model.proofs.Laws.Booleans.{and_left}
use Rattle.model.specs.Records.{at, is_ambient, parent_of}
use Rattle.model.specs.declared.Rec.{Rec}

module _ (r : Rec) where
  pub labelled-amb : (x : ℕ) → is_ambient r ≡ true → labelled r x ≡ r.label
  unfolding labelled
  labelled-amb x e = rw (e, labelled)

  pub labelled-other : (x : ℕ) → is_ambient r ≡ false → labelled r x ≡ x
  unfolding labelled
  labelled-other x e = rw (e, labelled)

  pub ambient-and : (x : Bool) → is_ambient r ≡ true → ambient_and r x ≡ x
  unfolding ambient_and
  ambient-and x e = rw (e, ambient_and)

  pub not-ambient-and : (x : Bool) → is_ambient r ≡ false → ambient_and r x ≡ false
  unfolding ambient_and
  not-ambient-and x e = rw (e, ambient_and)

  module _ (S : ℕ → Bool) where
    pub hides-suspect : (x : Bool) → is_suspect S r ≡ true → hides S r x ≡ true
    unfolding hides
    hides-suspect x e = rw (e, hides)

    pub hides-other : (x : Bool) → is_suspect S r ≡ false → hides S r x ≡ x
    unfolding hides
    hides-other x e = rw (e, hides)

    pub suspect-of : is_ambient r ≡ true → S r.label ≡ true → is_suspect S r ≡ true
    unfolding is_suspect
    suspect-of e f = rw (e, f)

    pub suspect-amb : is_suspect S r ≡ true → is_ambient r ≡ true
    unfolding is_suspect
    suspect-amb h = and_left _ _ h

    pub suspect-not-amb : is_ambient r ≡ false → is_suspect S r ≡ false
    unfolding is_suspect
    suspect-not-amb e = rw e

    pub suspect-not-label : S r.label ≡ false → is_suspect S r ≡ false
    unfolding is_suspect
    suspect-not-label e = rw e (go (is_ambient r))
      where
        go : (b : Bool) → (b && false) ≡ false
        go true = refl
        go false = refl

-- kind, label and name alone are read
module _ {r r' : Rec} (s : SameBut r r') where
  pub labelled-same : (x : ℕ) → labelled r' x ≡ labelled r x
  unfolding labelled is_ambient
  labelled-same x = rw (s.kind, s.label)

  pub hides-same : (S : ℕ → Bool) (x : Bool) → hides S r' x ≡ hides S r x
  unfolding hides is_suspect is_ambient
  hides-same S x = rw (s.kind, s.label)

module _ {its : List Rec} (wf : WellFormed its) where
  pub nearest-amb : (i : ℕ) → is_ambient (at its i) ≡ true → nearest its i ≡ (at its i).label
  nearest-amb i h = view-on nesting wf i (alive-pos its i (amb-alive its i h)) ∙ labelled-amb _ _ h

  pub nearest-up : (i : ℕ) → i ≢ 0 → is_ambient (at its i) ≡ false → nearest its i ≡ nearest its (parent_of its i)
  nearest-up i z h = view-on nesting wf i z ∙ labelled-other _ _ h

  -- containers are labels of ambients, or 0
  nearest-below : {i d : ℕ} → Depth (parent_of its) i d → nearest its i < 64
  nearest-below root = rw (view-top nesting wf) (omega arith)
  nearest-below (under {i = i} n r) = go (is_ambient (at its i)) refl (nearest-below r)
    where
      go : (t : Bool) → is_ambient (at its i) ≡ t → nearest its (parent_of its i) < 64 → nearest its i < 64
      go true e ih = rw (nearest-amb i e) (small wf i e)
      go false e ih = rw (nearest-up i n e) ih

  pub nearest-small : (i : ℕ) → nearest its i < 64
  nearest-small i = nearest-below (wf.reach i).1

  pub container-small : (i : ℕ) → container its i < 64
  container-small i = nearest-small (parent_of its i)

  pub ambients-here : (i : ℕ) → i ≢ 0 → ambients its i ≡ true → is_ambient (at its i) ≡ true
  ambients-here i z h = go (is_ambient (at its i)) refl
    where
      go : (t : Bool) → is_ambient (at its i) ≡ t → t ≡ true
      go true e = refl
      go false e = sym (view-on ambients_only wf i z ∙ not-ambient-and _ _ e) ∙ h

  -- where only ambients stand above, the container is the parent's label
  pub ambients-nearest : (i : ℕ) → ambients its i ≡ true → nearest its i ≡ (at its i).label
  ambients-nearest i h = go (ℕ_discrete i 0)
    where
      go : Dec (i ≡ 0) → nearest its i ≡ (at its i).label
      go (yes e) = rw (e, at-root its) (view-top nesting wf)
      go (no e) = nearest-amb i (ambients-here i e h)

  module _ (S : ℕ → Bool) where
    pub hidden-suspect : (i : ℕ) → is_suspect S (at its i) ≡ true → hidden its S i ≡ true
    hidden-suspect i h = view-on (hiding S) wf i (alive-pos its i (amb-alive its i (suspect-amb _ S h))) ∙ hides-suspect _ S _ h

    pub hidden-up : (i : ℕ) → i ≢ 0 → is_suspect S (at its i) ≡ false → hidden its S i ≡ hidden its S (parent_of its i)
    hidden-up i z e = view-on (hiding S) wf i z ∙ hides-other _ S _ e

    pub hidden-root : hidden its S 0 ≡ false
    hidden-root = view-top (hiding S) wf

    -- an ambient that is not suspect is hidden only if what is above it is
    pub hidden-cross : (i : ℕ) → is_ambient (at its i) ≡ true → S (at its i).label ≡ false → hidden its S i ≡ hidden its S (parent_of its i)
    hidden-cross i h e = hidden-up i (alive-pos its i (amb-alive its i h)) (suspect-not-label _ S e)

    -- a suspect container hides
    hidden-below : S 0 ≡ false → {i d : ℕ} → Depth (parent_of its) i d → S (nearest its i) ≡ true → hidden its S i ≡ true
    hidden-below z root h = absurd (true≢false (sym h ∙ ap S (view-top nesting wf) ∙ z))
    hidden-below z (under {i = i} n r) h = go (is_ambient (at its i)) refl (hidden-below z r)
      where
        go : (t : Bool) → is_ambient (at its i) ≡ t → (S (nearest its (parent_of its i)) ≡ true → hidden its S (parent_of its i) ≡ true) → hidden its S i ≡ true
        go true e ih = hidden-suspect i (suspect-of _ S e (rw (nearest-amb i e) at h))
        go false e ih = hidden-up i n (suspect-not-amb _ S e) ∙ ih (rw (nearest-up i n e) at h)

    pub hidden-nearest : S 0 ≡ false → (i : ℕ) → S (nearest its i) ≡ true → hidden its S i ≡ true
    hidden-nearest z i h = hidden-below z (wf.reach i).1 h
