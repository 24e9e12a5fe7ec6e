-- Records not gone after a run: as before, minus ins, minus outs, minus twice the opens.
use Rattle.std.specs.Prelude.{◌*◌, ◌+◌, suc, ℕ, eqb, length, Bool, ◌||◌, not, true, List, [], ◌∷◌, ◌≢◌, ◌≡◌, refl}
use Rattle.std.proofs.Common.{eq-eqb, ne_eqb, ◌∙◌, ap, sym}
use Rattle.std.proofs.Math.Decide.{ℕ_discrete}
use native.Mathlib.Omega.{arith}
use Rattle.model.specs.Analysis.{Permit}
use Rattle.model.specs.Finite.{tally}
use Rattle.model.proofs.Laws.Bytes.{valid-wf}
use Rattle.model.proofs.Laws.Done.{Done, amb-alive, cap-alive, done-other, in-live, in-place-wf, out-live, out-place-wf, outcome-done, partner-pos, step-records, step-valid}
use Rattle.model.proofs.Laws.Forest.{mark, tally-mark, tally-same}
use Rattle.model.proofs.Laws.Updates.{dissolve-length, dissolve-self, place-length}
use Rattle.model.proofs.Laws.WellFormed.{Alive, WellFormed, alive-in, alive-pos, dissolve-alive, dissolve-same, dissolve-wf, place-alive, place_same}
use Rattle.model.specs.Records.{Capability, at, cap-in, cap-open, cap-out, parent_of, records}
use Rattle.model.specs.Refusals.{pass}
use Rattle.model.specs.Scripts.{Step, after_list, done_by, how_many, kind_of, not_gone, outcomes}
use Rattle.model.specs.Steps.{Outcome, dissolve, effect, done-by, move, outcome, place, step, step_bytes, refused-with}
use Rattle.model.specs.Validity.{validity}
use Rattle.model.specs.declared.Rec.{Rec}

-- record i is there
unfoldable pub there : List Rec → ℕ → Bool
there its i = not (eqb (at its i).kind 0)

alive-there : (its : List Rec) (i : ℕ) → Alive its i → there its i ≡ true
unfolding there
alive-there its i h = ap not (ne_eqb _ 0 h)

pub not_gone-tally : (its : List Rec) → not_gone its ≡ tally (there its) (length its)
unfolding not_gone there
not_gone-tally its = refl

-- a record taken out is one less
pub dissolve-not_gone : {its : List Rec} (wf : WellFormed its) (x : ℕ) → Alive its x → suc (not_gone (dissolve x its)) ≡ not_gone its
unfolding there mark
dissolve-not_gone {its} wf x live =
    ap suc (not_gone-tally (dissolve x its) ∙ ap (tally (there (dissolve x its))) (dissolve-length x its))
    ∙ sym (tally-mark (there (dissolve x its)) x (length its) z (alive-in its x live) (ap (λ r. not (eqb r.kind 0)) (dissolve-self x its z)))
    ∙ tally-same _ _ (length its) (λ i _. go i (ℕ_discrete i x))
    ∙ sym (not_gone-tally its)
  where
    z : x ≢ 0
    z = alive-pos its x live

    go : (i : ℕ) → Dec (i ≡ x) → mark x (there (dissolve x its)) i ≡ there its i
    go i (yes e) = ap (λ b. b || there (dissolve x its) i) (eq-eqb i x e) ∙ sym (ap (there its) e ∙ alive-there its x live)
    go i (no e) = ap (λ b. b || there (dissolve x its) i) (ne_eqb i x e) ∙ ap (λ k. not (eqb k 0)) (dissolve-same wf x z i e).kind

pub place-not_gone : {its : List Rec} (wf : WellFormed its) (a t : ℕ) → Alive its a → not_gone (place a t its) ≡ not_gone its
unfolding there
place-not_gone {its} wf a t live =
    not_gone-tally (place a t its) ∙ ap (tally (there (place a t its))) (place-length a t its)
    ∙ tally-same _ _ (length its) (λ i _. ap (λ k. not (eqb k 0)) (place_same wf a t live i).kind) ∙ sym (not_gone-tally its)

-- how many records a step that is done takes away
unfoldable pub taken : Outcome → ℕ
taken (refused-with n) = 0
taken (done-by cap-in) = 1
taken (done-by cap-out) = 1
taken (done-by cap-open) = 2

module _ {permit : Permit} {its : List Rec} (wf : WellFormed its) {c b : ℕ} where
  move-not_gone : (k : Capability) → Done permit k its c b → taken (done-by k) + not_gone (move k its c b) ≡ not_gone its
  unfolding taken move
  move-not_gone cap-in d =
      let p = place-not_gone wf (parent_of its c) b (in-live wf d) in
      let q = dissolve-not_gone (in-place-wf wf d) c (place-alive wf (parent_of its c) b (in-live wf d) c (cap-alive its c cap-in d.cap)) in
      omega arith
  move-not_gone cap-out d =
      let p = place-not_gone wf (parent_of its c) (parent_of its b) (out-live wf d) in
      let q = dissolve-not_gone (out-place-wf wf d) c (place-alive wf (parent_of its c) (parent_of its b) (out-live wf d) c (cap-alive its c cap-out d.cap)) in
      omega arith
  move-not_gone cap-open d =
      let p = dissolve-not_gone wf b (amb-alive its b d.amb) in
      let q = dissolve-not_gone (dissolve-wf wf b (partner-pos wf cap-open d)) c (dissolve-alive wf b (partner-pos wf cap-open d) c (done-other wf d) (cap-alive its c cap-open d.cap)) in
      omega arith

pub step-not_gone : (permit : Permit) (s : List ℕ) → validity s ≡ pass → (c b : ℕ) →
    taken (outcome permit (records s) c b) + not_gone (records (step_bytes permit s c b)) ≡ not_gone (records s)
unfolding step effect taken
step-not_gone permit s v c b = ap (λ l. taken (outcome permit (records s) c b) + not_gone l) (step-records permit s c b) ∙ go (outcome permit (records s) c b) refl
  where
    go : (o : Outcome) → outcome permit (records s) c b ≡ o → taken o + not_gone (effect o (records s) c b) ≡ not_gone (records s)
    go (refused-with n) e = omega arith
    go (done-by k) e = move-not_gone (valid-wf s v) k (outcome-done k e)

taken-kinds : (o : Outcome) → taken o ≡ done_by 2 o + done_by 3 o + 2 * done_by 4 o
unfolding taken done_by kind_of
taken-kinds (refused-with n) = refl
taken-kinds (done-by cap-in) = refl
taken-kinds (done-by cap-out) = refl
taken-kinds (done-by cap-open) = refl

-- "Records not gone at the end equal those at the start, minus ins, minus outs, minus twice the opens."
pub run-not_gone : (permit : Permit) (ms : List Step) (s : List ℕ) → validity s ≡ pass →
    not_gone (records (after_list permit s ms)) + how_many 2 (outcomes permit s ms) + how_many 3 (outcomes permit s ms) + 2 * how_many 4 (outcomes permit s ms) ≡ not_gone (records s)
unfolding after_list outcomes how_many
run-not_gone permit [] s v = omega arith
run-not_gone permit (m ∷ ms) s v =
    let o = outcome permit (records s) m.actor m.partner in
    let p = step-not_gone permit s v m.actor m.partner in
    let q = taken-kinds (outcome permit (records s) m.actor m.partner) in
    let r = run-not_gone permit ms (step_bytes permit s m.actor m.partner) (step-valid permit s m.actor m.partner v) in
    omega arith
