-- Steps that are done and reductions are the same, on records and for any permit. From a reduction to a step: Laws/Finding.
-- From a step to a reduction (`step-does`): the way down from the environment to the step's level goes through ambients only
-- (`way`), at each of them the next one is brought to the front up to congruence, and at the level itself the axiom applies (`lift`).
use Rattle.std.specs.Prelude.{◌+◌, ◌≤◌, ℕ, List, ◌≢◌, ◌≡◌}
use borrow.Author.Tests.{eq-eqb}
use Rattle.std.proofs.Math.Bool.{true}
use Rattle.std.proofs.Common.{◌∙◌, ap, arith}
use Rattle.std.proofs.Math.Path.{refl, subst, sym}
use Rattle.std.proofs.Math.Decide.{dec_le}
use Rattle.model.specs.Analysis.{Permit}
use Rattle.model.specs.Climbing.{ambients, ambients_only}
use Rattle.model.proofs.Laws.Containers.{ambients-here}
use Rattle.model.proofs.Laws.Done.{Done, amb-alive, cap-alive, done-other, in-beside, in-holder, in-live, in-other, open-beside, out-above, out-holder, out-live, outcome-done}
use Rattle.model.proofs.Laws.Forest.{Depth, root, under}
use Rattle.model.proofs.Laws.Moves.{After, after-alike, after-beside, after-within, dissolve-before, enters-after, leaves_after, opens-after}
use Rattle.model.proofs.Laws.Readings.{Once, Whole, beneath, child, focus, front_rest, front-whole, one-le, one-other, read-alive, rest-once, says-alive}
use Rattle.model.proofs.Laws.Updates.{at-root}
use Rattle.model.proofs.Laws.Views.{view-top}
use Rattle.model.proofs.Laws.WellFormed.{Alive, WellFormed, alive-pos, place_same}
use Rattle.model.proofs.Laws.Booleans.{and_right}
use Rattle.model.specs.Processes.{Congruent, Means, Process, Reads, Reduces, Says, ◌‖◌, alike, ambient, associates, beside, both, enters, inside, leaves, one, opens, cap, parallel, read, reflexive, says-ambient, says-cap, symmetric, times, transitive, within}
use Rattle.model.specs.Records.{Capability, at, cap-in, cap-open, cap-out, is_ambient, parent_of}
use Rattle.model.specs.Steps.{decide, effect, fit, done-by, move, outcome, outcome_by, ready, step}
use Rattle.model.specs.declared.Rec.{Rec}
use Rattle.model.proofs.Laws.Finding.{ambients-up, found}

-- a reduction to what a step leaves
record Does (permit : Permit) (its its' : List Rec) (q : ℕ) (N : ℕ → ℕ) (P : Process) : Type 0 where
  Q : Process
  reduces : Reduces permit (at its q).label P Q
  left : After its its' q N Q

-- a part r of what is read reduces, beside the rest t
part-does : {permit : Permit} {its its' : List Rec} {q : ℕ} {N : ℕ → ℕ} {P P₀ Q₀ B : Process} → Congruent P (P₀ ‖ B) → (r : Reads its q P₀) (t : Reads its q B) →
    ((j : ℕ) → N j ≡ times r j + times t j) → Once q N → Reduces permit (at its q).label P₀ Q₀ → After its its' q (times r) Q₀ → Does permit its its' q N P
unfolding times
part-does {Q₀ = Q₀} {B} e r t n o x a =
    record {
      Q = Q₀ ‖ B;
      reduces = alike e (beside x) reflexive;
      left = after-alike (λ j. sym (n j)) (after-beside r t (λ j. omega (arith, o j, n j)) a) reflexive;
    }

-- the way down from q to p, through ambients
data Way (its : List Rec) (p : ℕ) : ℕ → Type 0 where
  arrived : Way its p p
  down : {q : ℕ} (j : ℕ) → parent_of its j ≡ q → is_ambient (at its j) ≡ true → Way its p j → Way its p q

way : {its : List Rec} (wf : WellFormed its) {p j d : ℕ} → Depth (parent_of its) j d → ambients its j ≡ true → Way its p j → Way its p 0
way wf root u w = w
way wf (under {i = i} z r) u w = way wf r (ambients-up wf i z u) (down i refl (ambients-here wf i z u) w)

module _ {permit : Permit} {its its' : List Rec} {p : ℕ} (done : (P : Process) (r : Reads its p P) → Whole its p (times r) → Does permit its its' p (times r) P) where
  -- what is done down there is done here
  lift : {q : ℕ} {P : Process} → Way its p q → (r : Reads its q P) → Whole its q (times r) → Does permit its its' q (times r) P
  unfolding times
  lift arrived r whole = done _ r whole
  lift (down j e a w) r whole =
      let s : Says (at its j) (ambient (at its j).label (at its j).name) = says-ambient a refl refl in
      let f = focus r j s whole.once (child whole j (amb-alive its j a) e) e in
      let v = lift w f.inner (front-whole whole f e) in
      part-does f.shown (read j e s f.inner) f.rest (λ k. omega (arith, f.counts k)) whole.once (within v.reduces)
      (after-within e s f.inner (λ k. omega (arith, whole.once k, f.counts k)) v.left)

module _ {permit : Permit} {its : List Rec} {c b : ℕ} (wf : WellFormed its) where
  -- the level of the step is the parent of a and b
  enters-does : (d : Done permit cap-in its c b) (P : Process) (r : Reads its (parent_of its (parent_of its c)) P) → Whole its (parent_of its (parent_of its c)) (times r) →
      Does permit its (move cap-in its c b) (parent_of its (parent_of its c)) (times r) P
  unfolding times move
  enters-does d P r whole =
      let a = parent_of its c in
      let pb = in-beside wf d in
      let sa : Says (at its a) (ambient (at its a).label (at its a).name) = says-ambient (in-holder wf d) refl refl in
      let sb : Says (at its b) (ambient (at its b).label (at its c).name) = says-ambient d.amb refl d.name in
      let sc : Says (at its c) (cap cap-in (at its c).label (at its c).name) = says-cap d.cap refl refl in
      let f = focus r a sa whole.once (child whole a (in-live wf d) refl) refl in
      let wa = front-whole whole f refl in
      let g = focus f.inner c sc wa.once (child wa c (says-alive its c sc) refl) refl in
      let h = focus f.rest b sb (rest-once whole f refl) (front_rest whole f refl b (says-alive its b sb) pb (λ e. in-other wf d (sym e))) pb in
      part-does (transitive f.shown (transitive (parallel (inside g.shown)) (transitive (beneath h.shown) (symmetric associates))))
      (both (read a refl sa (both (read c refl sc g.inner) g.rest)) (read b pb sb h.inner)) h.rest
      (λ k. omega (arith, f.counts k, g.counts k, h.counts k)) whole.once (enters d.right)
      (enters-after a b c sa sb sc refl g.inner g.rest h.inner refl pb (λ k. omega (arith, whole.once k, f.counts k, g.counts k, h.counts k)))

  -- the level of the step is the parent of b
  leaves-does : (d : Done permit cap-out its c b) (P : Process) (r : Reads its (parent_of its b) P) → Whole its (parent_of its b) (times r) →
      Does permit its (move cap-out its c b) (parent_of its b) (times r) P
  unfolding times move
  leaves-does d P r whole =
      let a = parent_of its c in
      let pa = sym (out-above wf d) in
      let sa : Says (at its a) (ambient (at its a).label (at its a).name) = says-ambient (out-holder wf d) refl refl in
      let sb : Says (at its b) (ambient (at its b).label (at its c).name) = says-ambient d.amb refl d.name in
      let sc : Says (at its c) (cap cap-out (at its c).label (at its c).name) = says-cap d.cap refl refl in
      let f = focus r b sb whole.once (child whole b (says-alive its b sb) refl) refl in
      let wb = front-whole whole f refl in
      let g = focus f.inner a sa wb.once (child wb a (out-live wf d) pa) pa in
      let wa = front-whole wb g pa in
      let h = focus g.inner c sc wa.once (child wa c (says-alive its c sc) refl) refl in
      part-does (transitive f.shown (parallel (inside (transitive g.shown (parallel (inside h.shown))))))
      (read b refl sb (both (read a pa sa (both (read c refl sc h.inner) h.rest)) g.rest)) f.rest
      (λ k. omega (arith, f.counts k, g.counts k, h.counts k)) whole.once (leaves d.right)
      (leaves_after a b c sa sb sc refl h.inner h.rest g.rest pa refl (λ k. omega (arith, whole.once k, f.counts k, g.counts k, h.counts k)))

  -- the level of the step is the parent of b and c
  opens-does : (d : Done permit cap-open its c b) (P : Process) (r : Reads its (parent_of its c) P) → Whole its (parent_of its c) (times r) →
      Does permit its (move cap-open its c b) (parent_of its c) (times r) P
  unfolding times move
  opens-does d P r whole =
      let pb = open-beside wf d in
      let sb : Says (at its b) (ambient (at its b).label (at its c).name) = says-ambient d.amb refl d.name in
      let sc : Says (at its c) (cap cap-open (at its c).label (at its c).name) = says-cap d.cap refl refl in
      let f = focus r c sc whole.once (child whole c (says-alive its c sc) refl) refl in
      let g = focus f.rest b sb (rest-once whole f refl) (front_rest whole f refl b (says-alive its b sb) pb (done-other wf d)) pb in
      part-does (transitive f.shown (transitive (beneath g.shown) (symmetric associates)))
      (both (read c refl sc f.inner) (read b pb sb g.inner)) g.rest
      (λ k. omega (arith, f.counts k, g.counts k)) whole.once (opens d.right)
      (opens-after b c sb sc f.inner g.inner refl pb (λ k. omega (arith, whole.once k, f.counts k, g.counts k)))

  -- a step that is done is a reduction
  step-does : (k : Capability) → Done permit k its c b → {P : Process} (r : Reads its 0 P) → Whole its 0 (times r) → Does permit its (move k its c b) 0 (times r) P
  unfolding ready
  step-does cap-in d r whole =
      let a = parent_of its c in
      lift (enters-does d) (way wf (wf.reach (parent_of its a)).1 (ambients-up wf a (alive-pos its a (in-live wf d)) (and_right (is_ambient (at its a)) _ d.is_ready)) arrived) r whole
  step-does cap-out d r whole =
      let a = parent_of its c in
      let u : ambients its b ≡ true = subst (λ x. ambients its x ≡ true) (sym (out-above wf d)) (ambients-up wf a (alive-pos its a (out-live wf d)) (and_right (is_ambient (at its a)) _ d.is_ready)) in
      lift (leaves-does d) (way wf (wf.reach (parent_of its b)).1 (ambients-up wf b (alive-pos its b (amb-alive its b d.amb)) u) arrived) r whole
  step-does cap-open d r whole = lift (opens-does d) (way wf (wf.reach (parent_of its c)).1 d.is_ready arrived) r whole

  move-before : (k : Capability) → Done permit k its c b → (i : ℕ) → Alive (move k its c b) i → Alive its i
  unfolding move
  move-before k d i = go k d (alive-pos its c (cap-alive its c k d.cap))
    where
      go : (k : Capability) → Done permit k its c b → c ≢ 0 → Alive (move k its c b) i → Alive its i
      go cap-in d z l e = dissolve-before _ c i z l ((place_same wf _ b (in-live wf d) i).kind ∙ e)
      go cap-out d z l e = dissolve-before _ c i z l ((place_same wf _ _ (out-live wf d) i).kind ∙ e)
      go cap-open d z l e = dissolve-before its b i (alive-pos its b (amb-alive its b d.amb)) (dissolve-before _ c i z l) e

-- what a step that is done asks
done-outcome : {permit : Permit} {its : List Rec} {k : Capability} {c b : ℕ} → Done permit k its c b → outcome permit its c b ≡ done-by k
unfolding outcome outcome_by decide fit
done-outcome {permit} {its} {k} {c} {b} d =
    let f : fit permit k its c b ≡ true = rw (d.amb, eq-eqb _ _ d.name, d.stand, d.right) in
    rw (d.cap, outcome_by) (rw (f, d.is_ready))

module _ {its : List Rec} {P : Process} (m : Means its P) where
  pub means-whole : Whole its 0 (times m.reading)
  means-whole = record { once = λ i. go i (dec_le 1 (times m.reading i)); full = λ i l _. omega (arith, m.once i l) }
    where
      go : (i : ℕ) → Dec (1 ≤ times m.reading i) → one 0 i + times m.reading i ≤ 1
      go i (yes u) = let l = read-alive m.reading i u in omega (arith, m.once i l, one-other 0 i (λ e. alive-pos its i l (sym e)))
      go i (no u) = omega (arith, one-le 0 i)

  after-means : {its' : List Rec} {Q : Process} → After its its' 0 (times m.reading) Q → ((i : ℕ) → Alive its' i → Alive its i) → Means its' Q
  after-means a f = record { reading = a.after; once = λ i l. a.keeps i l ∙ m.once i (f i l) }

module _ {permit : Permit} {its : List Rec} (wf : WellFormed its) {P : Process} (m : Means its P) where
  pub step-reduces : (k : Capability) (c b : ℕ) → outcome permit its c b ≡ done-by k → (Q : Process) × Reduces permit 0 P Q × Means (step permit its c b) Q
  unfolding step effect
  step-reduces k c b e =
      let d = outcome-done k e in
      let w = step-does wf k d m.reading (means-whole m) in
      (w.Q, subst (λ x. Reduces permit x P w.Q) (ap (λ r. r.label) (at-root its)) w.reduces, rw (e, effect) (after-means m w.left (move-before wf k d)))

  pub reduction-steps : {Q : Process} → Reduces permit 0 P Q → (k : Capability) × (c : ℕ) × (b : ℕ) × (outcome permit its c b ≡ done-by k) × Means (step permit its c b) Q
  unfolding step effect
  reduction-steps x =
      let w = found wf x 0 m.reading (means-whole m).once (ap (λ r. r.label) (at-root its)) (view-top ambients_only wf) in
      let e = done-outcome w.done in
      (w.k, w.c, w.b, e, rw (e, effect) (after-means m w.left (move-before wf w.k w.done)))
