-- A step that is done changes the hiddenness of no record that stays, where the table holds and the environment is not suspect.
use Rattle.std.specs.Prelude.{ℕ, Bool, false, true, List, ◌≡◌, refl}
use Rattle.std.proofs.Common.{◌∙◌, ap, sym}
use Rattle.model.specs.Analysis.{Permit}
use Rattle.model.specs.Climbing.{hidden, hides, hiding}
use Rattle.model.proofs.Laws.Containers.{hidden-cross, hidden-nearest, hidden-suspect, hides-other, hides-same, hides-suspect, suspect-not-amb, suspect-of}
use Rattle.model.proofs.Laws.Done.{Done, Stays, in-beside, in-holder, open-beside, out-above, out-holder}
use Rattle.model.proofs.Laws.Holding.{Holds}
use Rattle.model.proofs.Laws.SubjectReduction.{ruled}
use Rattle.model.proofs.Laws.Transport.{Gives, Mono, Nest, Nesting, move-moved}
use Rattle.model.proofs.Laws.WellFormed.{WellFormed}
use Rattle.model.specs.Records.{Capability, at, cap-in, cap-open, cap-out, is_ambient, parent_of}
use Rattle.model.specs.Steps.{move}
use Rattle.model.specs.Tables.{Table}
use Rattle.model.specs.declared.Rec.{Rec}

module _ (S : ℕ → Bool) where
  -- nothing is asked of what stands where
  hidings : Nesting (hiding S) ◌≡◌ (λ x l. Unit {0})
  hidings = record {
    order = record { same = λ i x s. hides-same s S x; rr = λ a. refl; tr = λ p q. p ∙ q };
    through = λ i r x e. hides-other r S x (suspect-not-amb r S e);
    more = λ x y l m h u. u;
  }

  hiding-mono : (its : List Rec) → WellFormed its → Nest (hiding S) (λ x l. Unit {0}) its → Mono (hiding S) ◌≡◌ its
  hiding-mono its wf nest i y h = ap (hides S (at its i)) h

module _ {permit : Permit} {policy : List ℕ} {its : List Rec} {T : Table} (wf : WellFormed its) (holds : Holds permit policy its T) (clear : T.S 0 ≡ false) (c b : ℕ) where
  -- the rules on suspects: y is suspect, or x is not
  by-suspect : (x y : ℕ) (u w : Bool) → is_ambient (at its y) ≡ true → (T.S (at its x).label ≡ true → T.S (at its y).label ≡ true) →
      (T.S (at its x).label ≡ false → u ≡ w) → hides T.S (at its y) u ≡ hides T.S (at its y) w
  by-suspect x y u w h imp f = go (T.S (at its x).label) refl
    where
      go : (t : Bool) → T.S (at its x).label ≡ t → hides T.S (at its y) u ≡ hides T.S (at its y) w
      go true e = let s = suspect-of _ T.S h (imp e) in hides-suspect _ T.S u s ∙ sym (hides-suspect _ T.S w s)
      go false e = ap (hides T.S (at its y)) (f e)

  hiding-gives : (k : Capability) → Done permit k its c b → Gives (hiding T.S) ◌≡◌ (λ x l. Unit {0}) k its c b
  hiding-gives cap-in d = (
    tt,
    by-suspect b (parent_of its c) _ _ (in-holder wf d) (ruled wf holds c b cap-in d).1
        (λ e. sym (hidden-cross wf T.S b d.amb e ∙ ap (hidden its T.S) (in-beside wf d))),
  )
  hiding-gives cap-out d = (
    tt,
    by-suspect b (parent_of its c) _ _ (out-holder wf d) (ruled wf holds c b cap-out d).1
        (λ e. ap (hidden its T.S) (sym (out-above wf d)) ∙ hidden-cross wf T.S b d.amb e),
  )
  hiding-gives cap-open d = go (T.S (at its b).label) refl
    where
      go : (t : Bool) → T.S (at its b).label ≡ t → hidden its T.S b ≡ hidden its T.S (parent_of its b)
      go true e = hidden-suspect wf T.S b (suspect-of _ T.S d.amb e)
          ∙ sym (hidden-nearest wf T.S clear (parent_of its b) (rw (open-beside wf d) ((ruled wf holds c b cap-open d).1 e)))
      go false e = hidden-cross wf T.S b d.amb e

  pub move-hidden : (k : Capability) → Done permit k its c b → (i : ℕ) → Stays k c b i → hidden its T.S i ≡ hidden (move k its c b) T.S i
  move-hidden k d = (move-moved (hidings T.S) (hiding-mono T.S) wf (λ _ _. tt) k d (hiding-gives k d)).kept
