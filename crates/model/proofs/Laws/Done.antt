-- What a step that is done tells of actor and partner, and that it keeps an itinerary valid, with no table assumed.
use Rattle.std.specs.Prelude.{◌≤◌, suc, zero, ℕ, eqb, length, Bool, ◌&&◌, false, not, true, List, [], ◌∷◌, ◌≢◌, ◌≡◌, refl}
use borrow.Author.Tests.{eqb-false, eqb-true, not-true}
use Rattle.std.proofs.Common.{true≢false, ◌∙◌, ap, subst, sym, arith}
use Rattle.std.specs.Prelude.{Option, None, Some}
use Rattle.model.specs.Analysis.{Permit}
use Rattle.model.proofs.Laws.Bytes.{length-records, valid-passed, records-encode, size-le, valid-wf, wf-valid}
use Rattle.model.proofs.Laws.Forest.{Depth, above, under_of}
use Rattle.model.proofs.Laws.Updates.{dissolve-length, place-length}
use Rattle.model.proofs.Laws.WellFormed.{Alive, SameBut, WellFormed, alive-pos, dissolve-same, dissolve-wf, place-high, place-parent-other, place_same, place-wf}
use Rattle.model.proofs.Laws.Booleans.{and_left, and_right}
use Rattle.model.specs.Records.{Capability, at, cap-in, cap-open, cap-out, capability, count, is_ambient, nested, parent_of, records}
use Rattle.model.specs.Refusals.{pass}
use Rattle.model.specs.Scripts.{Step, after_list, kind_of}
use Rattle.model.specs.Steps.{Outcome, decide, dissolve, effect, fit, done-by, move, outcome, outcome_by, place, ready, rewritten, stands, step, step_bytes, refused-with}
use Rattle.model.specs.Validity.{validity}
use Rattle.model.specs.declared.Rec.{Rec}

-- ambients are records that are not gone
pub amb-alive : (its : List Rec) (i : ℕ) → is_ambient (at its i) ≡ true → Alive its i
unfolding is_ambient
amb-alive its i h e = true≢false (sym h ∙ rw e)

pub same-amb : {r r' : Rec} → SameBut r r' → is_ambient r' ≡ is_ambient r
unfolding is_ambient
same-amb s = rw s.kind

pub record Done (permit : Permit) (k : Capability) (its : List Rec) (c b : ℕ) : Type 0 where
  pub cap : capability (at its c).kind ≡ Some k
  pub is_ready : ready k its (parent_of its c) ≡ true
  pub amb : is_ambient (at its b) ≡ true
  pub name : (at its b).name ≡ (at its c).name
  pub stand : stands k its (parent_of its c) b ≡ true
  pub right : permit k (at its (parent_of its c)).label (at its b).label ≡ true

pub done-of : {permit : Permit} {k : Capability} {its : List Rec} {c b : ℕ} → capability (at its c).kind ≡ Some k → ready k its (parent_of its c) ≡ true → fit permit k its c b ≡ true → Done permit k its c b
unfolding fit
done-of {permit} {k} {its} {c} {b} e r f =
    let f₁ = and_left _ (permit k (at its (parent_of its c)).label (at its b).label) f in
    let f₂ = and_left _ (stands k its (parent_of its c) b) f₁ in
    record {
      cap = e;
      is_ready = r;
      amb = and_left _ (eqb (at its b).name (at its c).name) f₂;
      name = eqb-true _ _ (and_right (is_ambient (at its b)) _ f₂);
      stand = and_right (is_ambient (at its b) && eqb (at its b).name (at its c).name) _ f₁;
      right = and_right (is_ambient (at its b) && eqb (at its b).name (at its c).name && stands k its (parent_of its c) b) _ f;
    }

-- a step that is done
pub outcome-done : {permit : Permit} {its : List Rec} {c b : ℕ} (k : Capability) → outcome permit its c b ≡ done-by k → Done permit k its c b
unfolding outcome outcome_by decide
outcome-done {permit} {its} {c} {b} k = go (capability (at its c).kind) refl
  where
    tests : (j : Capability) → capability (at its c).kind ≡ Some j → (r f : Bool) → ready j its (parent_of its c) ≡ r → fit permit j its c b ≡ f → decide j r f ≡ done-by k → Done permit k its c b
    tests j e false f p q w = let u : ◌≡◌ {A = ℕ} 0 1 = cc in absurd (omega arith)
    tests j e true false p q w = let u : ◌≡◌ {A = ℕ} 0 1 = cc in absurd (omega arith)
    tests j e true true p q w = let u : j ≡ k = cc in subst (λ x. Done permit x its c b) u (done-of e p q)

    go : (o : Option Capability) → capability (at its c).kind ≡ o → outcome_by permit o its c b ≡ done-by k → Done permit k its c b
    go None e w = let u : ◌≡◌ {A = ℕ} 0 1 = cc in absurd (omega arith)
    go (Some j) e w = tests j e (ready j its (parent_of its c)) (fit permit j its c b) refl refl w

-- a step is refused with 10, 11 or 12
abbrev Refusing : ℕ → Type 0
Refusing n = (10 ≤ n) × (n ≤ 12)

decide-refused : (k : Capability) (r f : Bool) (n : ℕ) → decide k r f ≡ refused-with n → Refusing n
unfolding decide
decide-refused k false f n e = let u : ◌≡◌ {A = ℕ} 11 n = cc in (omega arith, omega arith)
decide-refused k true false n e = let u : ◌≡◌ {A = ℕ} 12 n = cc in (omega arith, omega arith)
decide-refused k true true n e = let u : ◌≡◌ {A = ℕ} 0 1 = cc in absurd (omega arith)

by-refused : (permit : Permit) (o : Option Capability) (its : List Rec) (c b n : ℕ) → outcome_by permit o its c b ≡ refused-with n → Refusing n
unfolding outcome_by
by-refused permit None its c b n e = let u : ◌≡◌ {A = ℕ} 10 n = cc in (omega arith, omega arith)
by-refused permit (Some k) its c b n e = decide-refused k _ _ n e

pub refused-number : (permit : Permit) (its : List Rec) (c b n : ℕ) → outcome permit its c b ≡ refused-with n → (10 ≤ n) × (n ≤ 12)
unfolding outcome
refused-number permit its c b n e = by-refused permit _ its c b n e

pub cap-alive : (its : List Rec) (c : ℕ) (k : Capability) → capability (at its c).kind ≡ Some k → Alive its c
unfolding capability
cap-alive its c k e h = let w : ◌≡◌ {A = Option Capability} None (Some k) = rw h at e in let u : ◌≡◌ {A = ℕ} 0 1 = cc in omega arith

kind-nested : (r : Rec) (n : ℕ) (k : Capability) → r.kind ≡ n → capability n ≡ Some k → nested r ≡ true
unfolding capability nested
kind-nested r zero k q e = let u : ◌≡◌ {A = ℕ} 0 1 = cc in absurd (omega arith)
kind-nested r (suc zero) k q e = let u : ◌≡◌ {A = ℕ} 0 1 = cc in absurd (omega arith)
kind-nested r (suc (suc zero)) k q e = rw q
kind-nested r (suc (suc (suc zero))) k q e = rw q
kind-nested r (suc (suc (suc (suc zero)))) k q e = rw q
kind-nested r (suc (suc (suc (suc (suc n))))) k q e = let u : ◌≡◌ {A = ℕ} 0 1 = cc in absurd (omega arith)

pub cap-nested : (r : Rec) (k : Capability) → capability r.kind ≡ Some k → nested r ≡ true
cap-nested r k e = kind-nested r r.kind k refl e

pub cap-not-amb : (its : List Rec) (c : ℕ) (k : Capability) → capability (at its c).kind ≡ Some k → is_ambient (at its c) ≡ false
unfolding capability is_ambient
cap-not-amb its c k e = go (is_ambient (at its c)) refl
  where
    go : (t : Bool) → is_ambient (at its c) ≡ t → t ≡ false
    go false q = refl
    go true q =
        let o : (at its c).kind ≡ 1 = eqb-true _ _ q in
        let w : ◌≡◌ {A = Option Capability} None (Some k) = rw o at e in let u : ◌≡◌ {A = ℕ} 0 1 = cc in absurd (omega arith)

module _ {permit : Permit} {its : List Rec} {c b : ℕ} (wf : WellFormed its) where
  -- in: the holder q of c gets b for its parent
  module _ (d : Done permit cap-in its c b) where
    pub in-holder : is_ambient (at its (parent_of its c)) ≡ true
    unfolding ready
    in-holder = and_left _ _ d.is_ready

    pub in-other : b ≢ parent_of its c
    unfolding stands
    in-other = eqb-false _ _ (not-true _ (and_left _ _ d.stand))

    pub in-beside : parent_of its b ≡ parent_of its (parent_of its c)
    unfolding stands
    in-beside = eqb-true _ _ (and_right (not (eqb b (parent_of its c))) _ d.stand)

    pub in-live : Alive its (parent_of its c)
    in-live = amb-alive its (parent_of its c) in-holder

    pub in-place-wf : WellFormed (place (parent_of its c) b its)
    in-place-wf = place-wf wf (parent_of its c) b in-live (λ _. amb-alive its b d.amb) (suc w.0, under_of bz (place-parent-other wf (parent_of its c) b in-live b in-other ∙ in-beside) high)
      where
        q : ℕ
        q = parent_of its c

        bz : b ≢ 0
        bz = alive-pos its b (amb-alive its b d.amb)

        w : (e : ℕ) × ((wf.reach (parent_of its c)).0 ≡ suc e) × Depth (parent_of its) (parent_of its (parent_of its c)) e
        w = above (wf.reach (parent_of its c)).1 (alive-pos its _ in-live)

        high : Depth (parent_of (place (parent_of its c) b its)) (parent_of its (parent_of its c)) w.0
        high = place-high wf (parent_of its c) b in-live (wf.reach (parent_of its c)).1 w.2 (omega (arith, w.1))

  -- out: the holder q of c gets the parent of b, which was q's parent
  module _ (d : Done permit cap-out its c b) where
    pub out-holder : is_ambient (at its (parent_of its c)) ≡ true
    unfolding ready
    out-holder = and_left _ _ d.is_ready

    pub out-above : b ≡ parent_of its (parent_of its c)
    unfolding stands
    out-above = eqb-true _ _ d.stand

    pub out-live : Alive its (parent_of its c)
    out-live = amb-alive its (parent_of its c) out-holder

    pub out-place-wf : WellFormed (place (parent_of its c) (parent_of its b) its)
    out-place-wf = place-wf wf (parent_of its c) (parent_of its b) out-live (wf.parents b) (v.0, high)
      where
        bz : b ≢ 0
        bz = alive-pos its b (amb-alive its b d.amb)

        w : (e : ℕ) × ((wf.reach (parent_of its c)).0 ≡ suc e) × Depth (parent_of its) (parent_of its (parent_of its c)) e
        w = above (wf.reach (parent_of its c)).1 (alive-pos its _ out-live)

        u : Depth (parent_of its) b w.0
        u = subst (λ j. Depth (parent_of its) j w.0) (sym out-above) w.2

        v : (e : ℕ) × (w.0 ≡ suc e) × Depth (parent_of its) (parent_of its b) e
        v = above u bz

        high : Depth (parent_of (place (parent_of its c) (parent_of its b) its)) (parent_of its b) v.0
        high = place-high wf (parent_of its c) (parent_of its b) out-live (wf.reach (parent_of its c)).1 v.2 (omega (arith, w.1, v.1))

  -- open: b beside c
  module _ (d : Done permit cap-open its c b) where
    pub open-beside : parent_of its b ≡ parent_of its c
    unfolding stands
    open-beside = eqb-true _ _ d.stand

  pub done-other : {k : Capability} → Done permit k its c b → c ≢ b
  done-other {k} d e = true≢false (sym d.amb ∙ (rw e at (cap-not-amb its c k d.cap)))

-- who stays: all but the records that a step makes gone
abbrev pub Stays : Capability → ℕ → ℕ → ℕ → Type 0
Stays cap-in c b i = i ≢ c
Stays cap-out c b i = i ≢ c
Stays cap-open c b i = (i ≢ c) × (i ≢ b)

-- the itinerary before c itself is taken out
abbrev pub halfway : Capability → List Rec → ℕ → ℕ → List Rec
halfway cap-in its c b = place (parent_of its c) b its
halfway cap-out its c b = place (parent_of its c) (parent_of its b) its
halfway cap-open its c b = dissolve b its

pub move-first : (k : Capability) (its : List Rec) (c b : ℕ) → move k its c b ≡ dissolve c (halfway k its c b)
unfolding move
move-first cap-in its c b = refl
move-first cap-out its c b = refl
move-first cap-open its c b = refl

module _ {permit : Permit} {its : List Rec} (wf : WellFormed its) {c b : ℕ} where
  pub cap-pos : (k : Capability) → Done permit k its c b → c ≢ 0
  cap-pos k d = alive-pos its c (cap-alive its c k d.cap)

  pub partner-pos : (k : Capability) → Done permit k its c b → b ≢ 0
  partner-pos k d = alive-pos its b (amb-alive its b d.amb)

  pub first-wf : (k : Capability) → Done permit k its c b → WellFormed (halfway k its c b)
  first-wf cap-in d = in-place-wf wf d
  first-wf cap-out d = out-place-wf wf d
  first-wf cap-open d = dissolve-wf wf b (partner-pos cap-open d)

  pub first-cap : (k : Capability) → Done permit k its c b → is_ambient (at (halfway k its c b) c) ≡ false
  first-cap cap-in d = same-amb (place_same wf (parent_of its c) b (in-live wf d) c) ∙ cap-not-amb its c cap-in d.cap
  first-cap cap-out d = same-amb (place_same wf (parent_of its c) (parent_of its b) (out-live wf d) c) ∙ cap-not-amb its c cap-out d.cap
  first-cap cap-open d = same-amb (dissolve-same wf b (partner-pos cap-open d) c (done-other wf d)) ∙ cap-not-amb its c cap-open d.cap

  pub move-wf : (k : Capability) → Done permit k its c b → WellFormed (move k its c b)
  move-wf k d = rw (move-first k its c b) (dissolve-wf (first-wf k d) c (cap-pos k d))

-- the kind of a capability
pub kind-of : (n : ℕ) (k : Capability) → capability n ≡ Some k → n ≡ kind_of k
unfolding capability kind_of
kind-of zero k h = let u : ◌≡◌ {A = ℕ} 0 1 = cc in absurd (omega arith)
kind-of (suc zero) k h = let u : ◌≡◌ {A = ℕ} 0 1 = cc in absurd (omega arith)
kind-of (suc (suc zero)) k h = let u : cap-in ≡ k = cc in ap kind_of u
kind-of (suc (suc (suc zero))) k h = let u : cap-out ≡ k = cc in ap kind_of u
kind-of (suc (suc (suc (suc zero)))) k h = let u : cap-open ≡ k = cc in ap kind_of u
kind-of (suc (suc (suc (suc (suc n))))) k h = let u : ◌≡◌ {A = ℕ} 0 1 = cc in absurd (omega arith)

pub move-length : (k : Capability) (its : List Rec) (c b : ℕ) → length (move k its c b) ≡ length its
unfolding move
move-length cap-in its c b = simp (dissolve-length, place-length)
move-length cap-out its c b = simp (dissolve-length, place-length)
move-length cap-open its c b = simp dissolve-length

-- on bytes: the records of the step are the step of the records
pub step-records : (permit : Permit) (s : List ℕ) (c b : ℕ) → records (step_bytes permit s c b) ≡ step permit (records s) c b
unfolding step_bytes rewritten step effect
step-records permit s c b = go (outcome permit (records s) c b)
  where
    go : (o : Outcome) → records (rewritten o s c b) ≡ effect o (records s) c b
    go (refused-with n) = refl
    go (done-by k) = records-encode _

-- a step keeps an itinerary valid
pub step-valid : (permit : Permit) (s : List ℕ) (c b : ℕ) → validity s ≡ pass → validity (step_bytes permit s c b) ≡ pass
unfolding step_bytes rewritten count
step-valid permit s c b v = go (outcome permit (records s) c b) refl
  where
    size : length (records s) ≤ 1024
    size = omega (arith, length-records s, size-le s (valid-passed s v).size)

    go : (o : Outcome) → outcome permit (records s) c b ≡ o → validity (rewritten o s c b) ≡ pass
    go (refused-with n) e = v
    go (done-by k) e = wf-valid (move-wf (valid-wf s v) k (outcome-done k e)) (omega (arith, move-length k (records s) c b, size))

pub list-valid : (permit : Permit) (ms : List Step) (s : List ℕ) → validity s ≡ pass → validity (after_list permit s ms) ≡ pass
unfolding after_list
list-valid permit [] s v = v
list-valid permit (m ∷ ms) s v = list-valid permit ms _ (step-valid permit s m.actor m.partner v)
