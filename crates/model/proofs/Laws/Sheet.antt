-- The observer's sheet: it is itself an itinerary, and a step of the itinerary is the same step of the sheet.
use Rattle.std.specs.Prelude.{suc, ℕ, length, Bool, List, ◌≢◌, ◌≡◌, refl}
use Rattle.std.proofs.Common.{ext_get_or, true≢false, ◌∙◌, sym}
use Rattle.std.proofs.Math.Bool.{false, true}
use Rattle.std.proofs.Math.Path.{ap}
use Rattle.std.proofs.Math.Decide.{ℕ_discrete}
use Rattle.model.specs.Analysis.{Permit}
use Rattle.model.specs.Climbing.{hidden, is_suspect}
use Rattle.model.proofs.Laws.Containers.{hidden-cross, hidden-nearest, hidden-root, hidden-suspect, hidden-up, suspect-of}
use Rattle.model.proofs.Laws.Done.{Done, Stays, amb-alive, cap-alive, done-other, in-beside, in-holder, in-live, move-length, open-beside, out-above, out-live}
use Rattle.model.proofs.Laws.Forest.{Depth, root, under, under_of}
use Rattle.model.proofs.Laws.Hiding.{move-hidden}
use Rattle.model.proofs.Laws.Holding.{Holds}
use Rattle.model.proofs.Laws.SubjectReduction.{ruled}
use Rattle.model.proofs.Laws.Updates.{at-root, at-update-all, dissolve-moved, dissolve-self, dissolve-stays, length-update, place_other, place-self}
use Rattle.model.proofs.Laws.WellFormed.{Alive, Out, WellFormed, alive-in, alive-pos, itself, moved, out, stays}
use Rattle.model.specs.Validity.{client_right, kind_right, label_by, label_right, name_by, name_right, shape}
use Rattle.model.specs.Observer.{on_sheet, sheet}
use Rattle.model.specs.Records.{Capability, at, cap-in, cap-open, cap-out, gone, nested, parent_of}
use Rattle.model.specs.Steps.{dissolve, move, place}
use Rattle.model.specs.Tables.{Table}
use Rattle.model.specs.declared.Rec.{Rec}

-- two lists of records are equal by their records
pub ext-at : (l l' : List Rec) → length l ≡ length l' → ((i : ℕ) → at l i ≡ at l' i) → l ≡ l'
unfolding at
ext-at l l' e h = ext_get_or gone l l' e (λ i _. h (suc i))

module _ (its : List Rec) (S : ℕ → Bool) where
  rec-hidden : (i : ℕ) (r : Rec) → hidden its S i ≡ true → on_sheet its S i r ≡ gone
  unfolding on_sheet
  rec-hidden i r h = rw (h, on_sheet)

  rec-shown : (i : ℕ) (r : Rec) → hidden its S i ≡ false → on_sheet its S i r ≡ r
  unfolding on_sheet
  rec-shown i r h = rw (h, on_sheet)

  at-sheet : (i : ℕ) → i ≢ 0 → at (sheet its S) i ≡ on_sheet its S i (at its i)
  unfolding sheet
  at-sheet i z = at-update-all (on_sheet its S) its i z (go (hidden its S i) refl)
    where
      go : (t : Bool) → hidden its S i ≡ t → on_sheet its S i gone ≡ gone
      go true e = rec-hidden i gone e
      go false e = rec-shown i gone e

  pub sheet-length : length (sheet its S) ≡ length its
  unfolding sheet
  sheet-length = length-update _ its

  pub sheet-hidden : (i : ℕ) → hidden its S i ≡ true → at (sheet its S) i ≡ gone
  sheet-hidden i h = go (ℕ_discrete i 0)
    where
      go : Dec (i ≡ 0) → at (sheet its S) i ≡ gone
      go (yes e) = rw e (at-root _)
      go (no e) = at-sheet i e ∙ rec-hidden i _ h

  pub sheet-shown : (i : ℕ) → hidden its S i ≡ false → at (sheet its S) i ≡ at its i
  sheet-shown i h = go (ℕ_discrete i 0)
    where
      go : Dec (i ≡ 0) → at (sheet its S) i ≡ at its i
      go (yes e) = rw e (at-root _ ∙ sym (at-root its))
      go (no e) = at-sheet i e ∙ rec-shown i _ h

  pub sheet-gone : (i : ℕ) → at its i ≡ gone → at (sheet its S) i ≡ gone
  sheet-gone i e = go (hidden its S i) refl
    where
      go : (t : Bool) → hidden its S i ≡ t → at (sheet its S) i ≡ gone
      go true h = sheet-hidden i h
      go false h = sheet-shown i h ∙ e

-- what is above a shown record is shown
module _ {its : List Rec} (wf : WellFormed its) (S : ℕ → Bool) where
  pub shown-not-sus : (i : ℕ) → hidden its S i ≡ false → is_suspect S (at its i) ≡ false
  shown-not-sus i h = go (is_suspect S (at its i)) refl
    where
      go : (t : Bool) → is_suspect S (at its i) ≡ t → t ≡ false
      go false e = refl
      go true e = sym (hidden-suspect wf S i e) ∙ h

  pub shown-parent : (i : ℕ) → hidden its S i ≡ false → hidden its S (parent_of its i) ≡ false
  shown-parent i h = go (ℕ_discrete i 0)
    where
      go : Dec (i ≡ 0) → hidden its S (parent_of its i) ≡ false
      go (yes e) = ap (λ j. hidden its S (parent_of its j)) e ∙ ap (λ r. hidden its S r.parent) (at-root its) ∙ hidden-root wf S
      go (no e) = sym (hidden-up wf S i e (shown-not-sus i h)) ∙ h

  pub sheet-parent : (i : ℕ) → hidden its S i ≡ false → parent_of (sheet its S) i ≡ parent_of its i
  sheet-parent i h = ap (λ r. r.parent) (sheet-shown its S i h)

  sheet-depth : {i d : ℕ} → Depth (parent_of its) i d → hidden its S i ≡ false → Depth (parent_of (sheet its S)) i d
  sheet-depth root h = root
  sheet-depth (under {i = i} n r) h = under_of n (sheet-parent i h) (sheet-depth r (shown-parent i h))

  pub by-hidden : {A : Type 0} (i : ℕ) → (hidden its S i ≡ true → A) → (hidden its S i ≡ false → A) → A
  by-hidden {A} i f g = go (hidden its S i) refl
    where
      go : (t : Bool) → hidden its S i ≡ t → A
      go true e = f e
      go false e = g e

  pub sheet-wf : WellFormed (sheet its S)
  unfolding shape nested label_by name_by label_right kind_right name_right client_right
  sheet-wf = record {
    parents = λ i. by-hidden i (λ h n. absurd (n (ap (λ r. r.parent) (sheet-hidden its S i h)))) (λ h n. par i h n);
    gones = λ i. by-hidden i (λ h _. sheet-hidden its S i h) (λ h e. sheet-shown its S i h ∙ wf.gones i (rw (sheet-shown its S i h) at e));
    shaped = λ i. by-hidden i (λ h. ap shape (sheet-hidden its S i h)) (λ h. ap shape (sheet-shown its S i h) ∙ wf.shaped i);
    reach = λ i. by-hidden i (λ h. (1, under_of (pos i h) (ap (λ r. r.parent) (sheet-hidden its S i h)) root)) (λ h. ((wf.reach i).0, sheet-depth (wf.reach i).1 h));
  }
    where
      par : (i : ℕ) → hidden its S i ≡ false → parent_of (sheet its S) i ≢ 0 → Alive (sheet its S) (parent_of (sheet its S) i)
      par i h n = rw (sheet-parent i h, sheet-shown its S (parent_of its i) (shown-parent i h)) (wf.parents i (rw (sheet-parent i h) at n))

      pos : (i : ℕ) → hidden its S i ≡ true → i ≢ 0
      pos i h e = true≢false (sym h ∙ ap (hidden its S) e ∙ hidden-root wf S)

-- s shows of l what hid doesn't hide
pub record Shows (hid : ℕ → Bool) (l s : List Rec) : Type 0 where
  pub shown : (i : ℕ) → hid i ≡ false → at s i ≡ at l i
  pub lost : (i : ℕ) → hid i ≡ true → at s i ≡ gone

module _ {hid : ℕ → Bool} {l s : List Rec} (sh : Shows hid l s) where
  shows-parent : (i : ℕ) → hid i ≡ false → parent_of s i ≡ parent_of l i
  shows-parent i h = ap (λ r. r.parent) (sh.shown i h)

  shows-out : (x : ℕ) → x ≢ 0 → hid x ≡ false → Shows hid (dissolve x l) (dissolve x s)
  shows-out x z hx = record { shown = λ i h. shown' i h (out l x z i); lost = λ i h. lost' i h (out s x z i) }
    where
      shown' : (i : ℕ) → hid i ≡ false → Out l x i → at (dissolve x s) i ≡ at (dissolve x l) i
      shown' i h (itself e q) = ap (at (dissolve x s)) e ∙ dissolve-self x s z ∙ sym q
      shown' i h (moved e f q) = dissolve-moved x s z i e (shows-parent i h ∙ f) ∙ rw (shows-parent x hx, sh.shown i h) (sym q)
      shown' i h (stays e f q) = dissolve-stays x s z i e (λ u. f (sym (shows-parent i h) ∙ u)) ∙ sh.shown i h ∙ sym q

      lost' : (i : ℕ) → hid i ≡ true → Out s x i → at (dissolve x s) i ≡ gone
      lost' i h (itself e q) = q
      lost' i h (moved e f q) = absurd (z (sym f ∙ ap (λ r. r.parent) (sh.lost i h)))
      lost' i h (stays e f q) = q ∙ sh.lost i h

  shows-put : (a t : ℕ) → Alive l a → hid a ≡ false → Shows hid (place a t l) (place a t s)
  shows-put a t live ha = record {
    shown = λ i h. go i h (ℕ_discrete i a);
    lost = λ i h. place_other a t s i (λ e. true≢false (sym h ∙ ap hid e ∙ ha)) ∙ sh.lost i h;
  }
    where
      live' : Alive s a
      live' = rw (sh.shown a ha) live

      go : (i : ℕ) → hid i ≡ false → Dec (i ≡ a) → at (place a t s) i ≡ at (place a t l) i
      go i h (yes e) = rw (e, place-self a t s (alive-pos s a live') (alive-in s a live'), sh.shown a ha) (sym (place-self a t l (alive-pos l a live) (alive-in l a live)))
      go i h (no e) = place_other a t s i e ∙ sh.shown i h ∙ sym (place_other a t l i e)

pub shows-sheet : (its : List Rec) (S : ℕ → Bool) → Shows (hidden its S) its (sheet its S)
shows-sheet its S = record { shown = sheet-shown its S; lost = sheet-hidden its S }

not? : {A : Type 0} → Dec A → Dec (¬ A)
not? (yes a) = no (λ f. f a)
not? (no f) = yes f

both? : {A B : Type 0} → Dec A → Dec B → Dec (A × B)
both? (yes a) (yes b) = yes (a, b)
both? (yes a) (no g) = no (λ p. g p.1)
both? (no f) _ = no (λ p. f p.0)

pub stable : {i j : ℕ} → ¬ (i ≢ j) → i ≡ j
stable {i} {j} h = go (ℕ_discrete i j)
  where
    go : Dec (i ≡ j) → i ≡ j
    go (yes e) = e
    go (no e) = absurd (h e)

-- what a step makes gone, and what it leaves
pub stays? : (k : Capability) (c b i : ℕ) → Dec (Stays k c b i)
stays? cap-in c b i = not? (ℕ_discrete i c)
stays? cap-out c b i = not? (ℕ_discrete i c)
stays? cap-open c b i = both? (not? (ℕ_discrete i c)) (not? (ℕ_discrete i b))

module _ (its : List Rec) {c b : ℕ} where
  pub move-gone : (k : Capability) (i : ℕ) → c ≢ 0 → b ≢ 0 → c ≢ b → ¬ (Stays k c b i) → at (move k its c b) i ≡ gone
  unfolding move
  move-gone cap-in i cz bz n h = rw (stable h) (dissolve-self c _ cz)
  move-gone cap-out i cz bz n h = rw (stable h) (dissolve-self c _ cz)
  move-gone cap-open i cz bz n h = go (ℕ_discrete i c) (ℕ_discrete i b)
    where
      go : Dec (i ≡ c) → Dec (i ≡ b) → at (dissolve c (dissolve b its)) i ≡ gone
      go (yes e) _ = rw e (dissolve-self c _ cz)
      go (no e) (yes f) =
          let g : at (dissolve b its) i ≡ gone = rw f (dissolve-self b its bz) in
          dissolve-stays c _ cz i e (λ u. cz (sym u ∙ ap (λ r. r.parent) g)) ∙ g
      go (no e) (no f) = absurd (h (e, f))

module _ {permit : Permit} {policy : List ℕ} {T : Table} {its : List Rec} (wf : WellFormed its) (holds : Holds permit policy its T) (clear : T.S 0 ≡ false) {c b : ℕ} where
  -- a fit partner of a shown actor is shown
  pub partner-shown : (k : Capability) → Done permit k its c b → hidden its T.S c ≡ false → hidden its T.S b ≡ false
  partner-shown cap-in d h = go (T.S (at its b).label) refl
    where
      hq : hidden its T.S (parent_of its c) ≡ false
      hq = shown-parent wf T.S c h

      go : (t : Bool) → T.S (at its b).label ≡ t → hidden its T.S b ≡ false
      go true e = absurd (true≢false (sym (suspect-of _ T.S (in-holder wf d) ((ruled wf holds c b cap-in d).1 e)) ∙ shown-not-sus wf T.S (parent_of its c) hq))
      go false e = hidden-cross wf T.S b d.amb e ∙ ap (hidden its T.S) (in-beside wf d) ∙ shown-parent wf T.S (parent_of its c) hq
  partner-shown cap-out d h = ap (hidden its T.S) (out-above wf d) ∙ shown-parent wf T.S (parent_of its c) (shown-parent wf T.S c h)
  partner-shown cap-open d h = go (T.S (at its b).label) refl
    where
      hq : hidden its T.S (parent_of its c) ≡ false
      hq = shown-parent wf T.S c h

      go : (t : Bool) → T.S (at its b).label ≡ t → hidden its T.S b ≡ false
      go true e = absurd (true≢false (sym (hidden-nearest wf T.S clear (parent_of its c) ((ruled wf holds c b cap-open d).1 e)) ∙ hq))
      go false e = hidden-cross wf T.S b d.amb e ∙ ap (hidden its T.S) (open-beside wf d) ∙ hq

  pub shows-move : (k : Capability) → Done permit k its c b → hidden its T.S c ≡ false → Shows (hidden its T.S) (move k its c b) (move k (sheet its T.S) c b)
  unfolding move
  shows-move cap-in d h = rw (sheet-parent wf T.S c h)
      (shows-out (shows-put (shows-sheet its T.S) (parent_of its c) b (in-live wf d) (shown-parent wf T.S c h)) c (alive-pos its c (cap-alive its c cap-in d.cap)) h)
  shows-move cap-out d h = rw (sheet-parent wf T.S c h, sheet-parent wf T.S b (partner-shown cap-out d h))
      (shows-out (shows-put (shows-sheet its T.S) (parent_of its c) (parent_of its b) (out-live wf d) (shown-parent wf T.S c h)) c (alive-pos its c (cap-alive its c cap-out d.cap)) h)
  shows-move cap-open d h =
      shows-out (shows-out (shows-sheet its T.S) b (alive-pos its b (amb-alive its b d.amb)) (partner-shown cap-open d h)) c (alive-pos its c (cap-alive its c cap-open d.cap)) h

  pub sheet-move : (k : Capability) → Done permit k its c b → hidden its T.S c ≡ false → sheet (move k its c b) T.S ≡ move k (sheet its T.S) c b
  sheet-move k d h = ext-at _ _ (simp (sheet-length, move-length)) (λ i. go i (stays? k c b i))
    where
      cz : c ≢ 0
      cz = alive-pos its c (cap-alive its c k d.cap)

      bz : b ≢ 0
      bz = alive-pos its b (amb-alive its b d.amb)

      sh : Shows (hidden its T.S) (move k its c b) (move k (sheet its T.S) c b)
      sh = shows-move k d h

      both : (i : ℕ) → Stays k c b i → (t : Bool) → hidden its T.S i ≡ t → at (sheet (move k its c b) T.S) i ≡ at (move k (sheet its T.S) c b) i
      both i st true e = sheet-hidden _ T.S i (sym (move-hidden wf holds clear c b k d i st) ∙ e) ∙ sym (sh.lost i e)
      both i st false e = sheet-shown _ T.S i (sym (move-hidden wf holds clear c b k d i st) ∙ e) ∙ sym (sh.shown i e)

      go : (i : ℕ) → Dec (Stays k c b i) → at (sheet (move k its c b) T.S) i ≡ at (move k (sheet its T.S) c b) i
      go i (yes st) = both i st (hidden its T.S i) refl
      go i (no st) = sheet-gone _ T.S i (move-gone its k i cz bz (done-other wf d) st) ∙ sym (move-gone (sheet its T.S) k i cz bz (done-other wf d) st)
