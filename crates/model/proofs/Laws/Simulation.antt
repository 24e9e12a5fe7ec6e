-- A step of the itinerary is the same step of its sheet.
use Rattle.std.specs.Prelude.{ℕ, Bool, List, ◌≢◌, ◌≡◌}
use Rattle.std.proofs.Math.Bool.{false, true}
use Rattle.std.proofs.Common.{true≢false, ◌∙◌}
use Rattle.std.specs.Prelude.{Option, None, Some}
use Rattle.std.proofs.Math.Path.{ap, refl, sym}
use Rattle.model.specs.Analysis.{Permit}
use Rattle.model.specs.Climbing.{ambient_and, ambients, hidden, is_suspect, ambients_only}
use Rattle.model.proofs.Laws.Containers.{hidden-suspect, hidden-up, suspect-not-amb}
use Rattle.model.proofs.Laws.Done.{Done, Stays, amb-alive, cap-alive, cap-not-amb, done-of, done-other, move-length, open-beside, outcome-done}
use Rattle.model.proofs.Laws.Hiding.{move-hidden}
use Rattle.model.proofs.Laws.Holding.{Holds}
use Rattle.model.proofs.Laws.Sheet.{by-hidden, ext-at, move-gone, partner-shown, sheet-gone, sheet-hidden, sheet-length, sheet-move, sheet-parent, sheet-shown, sheet-wf, shown-parent, stays?}
use Rattle.model.proofs.Laws.Updates.{dissolve-stays, place_other}
use Rattle.model.proofs.Laws.Views.{fold-carry, view_laws}
use Rattle.model.proofs.Laws.WellFormed.{WellFormed, alive-pos}
use Rattle.model.specs.Observer.{sheet}
use Rattle.model.specs.Records.{Capability, at, cap-in, cap-open, cap-out, capability, gone, is_ambient, parent_of}
use Rattle.model.specs.Steps.{Outcome, decide, dissolve, effect, fit, done-by, move, outcome, outcome_by, place, ready, stands, step, refused-with}
use Rattle.model.specs.Tables.{Table}
use Rattle.model.specs.declared.Rec.{Rec}

module _ (its : List Rec) (S : ℕ → Bool) where
  differ : (i j : ℕ) → hidden its S i ≡ true → hidden its S j ≡ false → j ≢ i
  differ i j h n e = true≢false (sym h ∙ sym (ap (hidden its S) e) ∙ n)

-- a step of a hidden actor changes nothing that is shown
module _ {permit : Permit} {policy : List ℕ} {T : Table} {its : List Rec} (wf : WellFormed its) (holds : Holds permit policy its T) (clear : T.S 0 ≡ false) (c b : ℕ) (hc : hidden its T.S c ≡ true) where
  holder-hidden : (k : Capability) → Done permit k its c b → hidden its T.S (parent_of its c) ≡ true
  holder-hidden k d = sym (hidden-up wf T.S c (alive-pos its c (cap-alive its c k d.cap)) (suspect-not-amb _ T.S (cap-not-amb its c k d.cap))) ∙ hc

  opened-hidden : Done permit cap-open its c b → hidden its T.S b ≡ true
  opened-hidden d = go (is_suspect T.S (at its b)) refl
    where
      go : (t : Bool) → is_suspect T.S (at its b) ≡ t → hidden its T.S b ≡ true
      go true e = hidden-suspect wf T.S b e
      go false e = hidden-up wf T.S b (alive-pos its b (amb-alive its b d.amb)) e ∙ ap (hidden its T.S) (open-beside wf d) ∙ holder-hidden cap-open d

  module _ (i : ℕ) (hi : hidden its T.S i ≡ false) where
    not-c : i ≢ c
    not-c = differ its T.S c i hc hi

    not-under-c : parent_of its i ≢ c
    not-under-c = differ its T.S c (parent_of its i) hc (shown-parent wf T.S i hi)

    put-stays : (k : Capability) → Done permit k its c b → (t : ℕ) → at (dissolve c (place (parent_of its c) t its)) i ≡ at its i
    put-stays k d t =
        let o = place_other (parent_of its c) t its i (differ its T.S (parent_of its c) i (holder-hidden k d) hi) in
        dissolve-stays c _ (alive-pos its c (cap-alive its c k d.cap)) i not-c (λ u. not-under-c (sym (ap (λ r. r.parent) o) ∙ u)) ∙ o

    move-stays : (k : Capability) → Done permit k its c b → Stays k c b i × (at (move k its c b) i ≡ at its i)
    unfolding move
    move-stays cap-in d = (not-c, put-stays cap-in d b)
    move-stays cap-out d = (not-c, put-stays cap-out d (parent_of its b))
    move-stays cap-open d =
        let hb = opened-hidden d in
        let nb = differ its T.S b i hb hi in
        let o = dissolve-stays b its (alive-pos its b (amb-alive its b d.amb)) i nb (differ its T.S b (parent_of its i) hb (shown-parent wf T.S i hi)) in
        ((not-c, nb), dissolve-stays c _ (alive-pos its c (cap-alive its c cap-open d.cap)) i not-c (λ u. not-under-c (sym (ap (λ r. r.parent) o) ∙ u)) ∙ o)

  pub hidden-move : (k : Capability) → Done permit k its c b → sheet (move k its c b) T.S ≡ sheet its T.S
  hidden-move k d = ext-at _ _ (simp (sheet-length, move-length)) (λ i. by-hidden wf T.S i (λ h. lost i h (stays? k c b i)) (shown i))
    where
      shown : (i : ℕ) → hidden its T.S i ≡ false → at (sheet (move k its c b) T.S) i ≡ at (sheet its T.S) i
      shown i h = let w = move-stays i h k d in sheet-shown _ T.S i (sym (move-hidden wf holds clear c b k d i w.0) ∙ h) ∙ w.1 ∙ sym (sheet-shown its T.S i h)

      lost : (i : ℕ) → hidden its T.S i ≡ true → Dec (Stays k c b i) → at (sheet (move k its c b) T.S) i ≡ at (sheet its T.S) i
      lost i h (yes st) = sheet-hidden _ T.S i (sym (move-hidden wf holds clear c b k d i st) ∙ h) ∙ sym (sheet-hidden its T.S i h)
      lost i h (no st) =
          sheet-gone _ T.S i (move-gone its k i (alive-pos its c (cap-alive its c k d.cap)) (alive-pos its b (amb-alive its b d.amb)) (done-other wf d) st)
          ∙ sym (sheet-hidden its T.S i h)

-- the tests of a step by a shown actor answer alike on the sheet
module _ {its : List Rec} (wf : WellFormed its) (S : ℕ → Bool) where
  same-ambients : (q : ℕ) → hidden its S q ≡ false → ambients its q ≡ ambients (sheet its S) q
  same-ambients q h = fold-carry ◌≡◌ refl (view_laws ambients_only wf) (view_laws ambients_only (sheet-wf wf S)) (λ i. hidden its S i ≡ false)
      (λ i n _. rw (sheet-parent wf S i n) (shown-parent wf S i n))
      (λ i n _ ih. ap (λ r. ambient_and r (ambients its (parent_of its i))) (sym (sheet-shown its S i n))
      ∙ ap (λ j. ambient_and (at (sheet its S) i) (ambients its j)) (sym (sheet-parent wf S i n)) ∙ ap (ambient_and (at (sheet its S) i)) ih) h ((sheet-wf wf S).reach q).1

  same-ready : (k : Capability) (q : ℕ) → hidden its S q ≡ false → ready k (sheet its S) q ≡ ready k its q
  unfolding ready
  same-ready cap-in q h = rw (sheet-shown its S q h, ← (same-ambients q h))
  same-ready cap-out q h = rw (sheet-shown its S q h, ← (same-ambients q h))
  same-ready cap-open q h = sym (same-ambients q h)

  same-stands : (k : Capability) (q b : ℕ) → hidden its S q ≡ false → hidden its S b ≡ false → stands k (sheet its S) q b ≡ stands k its q b
  unfolding stands
  same-stands cap-in q b hq hb = rw (sheet-parent wf S q hq, sheet-parent wf S b hb)
  same-stands cap-out q b hq hb = rw (sheet-parent wf S q hq)
  same-stands cap-open q b hq hb = rw (sheet-parent wf S b hb)

module _ {permit : Permit} {policy : List ℕ} {T : Table} {its : List Rec} (wf : WellFormed its) (holds : Holds permit policy its T) (clear : T.S 0 ≡ false) (c b : ℕ) where
  fit-shown : (k : Capability) → hidden its T.S c ≡ false → hidden its T.S b ≡ false → fit permit k (sheet its T.S) c b ≡ fit permit k its c b
  unfolding fit
  fit-shown k hc hb =
      rw (
        sheet-parent wf T.S c hc,
        sheet-shown its T.S c hc,
        sheet-shown its T.S b hb,
        sheet-shown its T.S (parent_of its c) (shown-parent wf T.S c hc),
        same-stands wf T.S k (parent_of its c) b (shown-parent wf T.S c hc) hb,
      )

  fit-gone : (k : Capability) → hidden its T.S b ≡ true → fit permit k (sheet its T.S) c b ≡ false
  unfolding fit is_ambient
  fit-gone k hb = rw (sheet-hidden its T.S b hb)

  same-fit : (k : Capability) → hidden its T.S c ≡ false → capability (at its c).kind ≡ Some k → ready k its (parent_of its c) ≡ true → fit permit k (sheet its T.S) c b ≡ fit permit k its c b
  same-fit k hc e r = by-hidden wf T.S b (λ hb. fit-gone k hb ∙ sym (go hb (fit permit k its c b) refl)) (fit-shown k hc)
    where
      go : hidden its T.S b ≡ true → (t : Bool) → fit permit k its c b ≡ t → t ≡ false
      go hb false q = refl
      go hb true q = sym hb ∙ partner-shown wf holds clear k (done-of e r q) hc

  -- what becomes of a step by a shown actor is what the sheet says
  pub same_outcome : hidden its T.S c ≡ false → outcome permit (sheet its T.S) c b ≡ outcome permit its c b
  unfolding outcome outcome_by decide
  same_outcome hc = ap (λ r. outcome_by permit (capability r.kind) (sheet its T.S) c b) (sheet-shown its T.S c hc) ∙ go (capability (at its c).kind) refl
    where
      hq : hidden its T.S (parent_of its c) ≡ false
      hq = shown-parent wf T.S c hc

      at_ready : (k : Capability) → capability (at its c).kind ≡ Some k → (t : Bool) → ready k its (parent_of its c) ≡ t → decide k t (fit permit k (sheet its T.S) c b) ≡ decide k t (fit permit k its c b)
      at_ready k e true r = ap (decide k true) (same-fit k hc e r)
      at_ready k e false r = refl

      go : (o : Option Capability) → capability (at its c).kind ≡ o → outcome_by permit o (sheet its T.S) c b ≡ outcome_by permit o its c b
      go None e = refl
      go (Some k) e = rw (sheet-parent wf T.S c hc, same-ready wf T.S k (parent_of its c) hq) (at_ready k e (ready k its (parent_of its c)) refl)

  pub outcome-gone : (l : List Rec) → at l c ≡ gone → outcome permit l c b ≡ refused-with 10
  unfolding outcome outcome_by capability
  outcome-gone l e = rw e

  -- the sheet after a step is the step of the sheet
  pub sheet-step : sheet (step permit its c b) T.S ≡ step permit (sheet its T.S) c b
  unfolding step effect
  sheet-step = by-hidden wf T.S c hid shown
    where
      hid : hidden its T.S c ≡ true → sheet (effect (outcome permit its c b) its c b) T.S ≡ effect (outcome permit (sheet its T.S) c b) (sheet its T.S) c b
      hid hc = rw (outcome-gone (sheet its T.S) (sheet-hidden its T.S c hc)) (go (outcome permit its c b) refl)
        where
          go : (o : Outcome) → outcome permit its c b ≡ o → sheet (effect o its c b) T.S ≡ sheet its T.S
          go (refused-with n) e = refl
          go (done-by k) e = hidden-move wf holds clear c b hc k (outcome-done k e)

      shown : hidden its T.S c ≡ false → sheet (effect (outcome permit its c b) its c b) T.S ≡ effect (outcome permit (sheet its T.S) c b) (sheet its T.S) c b
      shown hc = rw (same_outcome hc) (go (outcome permit its c b) refl)
        where
          go : (o : Outcome) → outcome permit its c b ≡ o → sheet (effect o its c b) T.S ≡ effect o (sheet its T.S) c b
          go (refused-with n) e = refl
          go (done-by k) e = sheet-move wf holds clear k (outcome-done k e) hc
