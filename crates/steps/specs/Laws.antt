-- Laws of the decided step: that its one pass is the step of the definitions.
use Rattle.std.specs.Prelude.{◌%◌, suc, ℕ, eqb, length, Bool, ◌&&◌, ◌≢◌, ◌≡◌, ◌⊎◌}
use Rattle.std.proofs.Common.{drop, take, ◌++◌, ◌*◌, ◌+◌, ◌<◌, ◌≤◌, get_or, zero, drop_of_length-le, take-append-drop, eqb-true, ◌∙◌, arith, inl, inr, ◌-◌, min, ne_eqb}
use Rattle.std.proofs.Math.Bool.{false, true}
use mathlib.Core.List.{List, [], ◌∷◌}
use Rattle.std.specs.Prelude.{Option, None, Some, Ok, Err}
use Rattle.model.specs.Numbers.{number_of}
use Rattle.model.specs.declared.Cause.{Cause}
use Rattle.model.specs.declared.Cause.TheVariants as cause
use Rattle.std.proofs.Math.Path.{ap, refl, sym}
use Rattle.model.specs.Analysis.{permit_all}
use Rattle.model.specs.Climbing.{ambients}
use Rattle.model.proofs.Laws.Updates.{dissolved-self}
use Rattle.model.proofs.Laws.Bytes.{at-whole, encode-records, length-records, valid-passed, valid-wf, valid-whole}
use Rattle.model.proofs.Laws.Done.{Done, cap-pos, done-other, in-live, open-beside, out-live, outcome-done, partner-pos}
use Rattle.model.proofs.Laws.WellFormed.{WellFormed, dissolve-parent-stays, parent-not-self, place-parent-other}
use Rattle.records.specs.Written.{drop-bytes, encode-append, pass-next, pass-read, pass-whole, with_record, written}
use Rattle.steps.specs.Passes.{UntouchedTo, passed_to}
use Rattle.model.specs.Records.{at, byte, capability, count, decode, encode, gone, is_ambient, parent_of, records, update, update_from}
use Rattle.model.specs.Refusals.{pass}
use Rattle.model.specs.Steps.{Outcome, done-by, refused-with, decide, dissolve, dissolved, fit, move, outcome, outcome_by, place, placed, ready, rewritten, stands, step_bytes, to}
use Rattle.model.specs.Validity.{validity}
use Rattle.model.specs.declared.Rec.{Rec}
use Rattle.steps.specs.Moves.{Places, admitted, admitted_by, admitted_if, applied, fit_by, move_by, acting_at, opened, other, parent_after, parent_changed, past, remade, rewritten_to, stands_by}
use Rattle.steps.specs.declared.Acting.{Acting}
use Rattle.steps.specs.declared.Change.{Change}
use Rattle.steps.specs.declared.Change.TheVariants.{Opens, To}
use Rattle.steps.specs.declared.Move.{Move}
use Rattle.model.specs.declared.Capability.{Capability}
use Rattle.model.specs.declared.Capability.TheVariants.{In as cap-in, Open as cap-open, Out as cap-out}

-- ready, by whether the capability is open
module _ (s : List ℕ) (q : ℕ) {active : Bool} (m : length s % 8 ≡ 0) (f : active ≡ ambients (records s) q) where
  pub ready-open : active ≡ ready cap-open (records s) q
  unfolding ready
  ready-open = f

  pub ready-other : (k : Capability) → k ≢ cap-open → {held : Bool} → held ≡ is_ambient (decode s q) → (held && active) ≡ ready k (records s) q
  unfolding ready
  ready-other cap-in n e = rw (at-whole s m q, e, f)
  ready-other cap-out n e = rw (at-whole s m q, e, f)
  ready-other cap-open n e = absurd (n refl)

-- fit, from the records
and-true : (b : Bool) → (b && true) ≡ b
and-true true = refl
and-true false = refl

stands_at : (k : Capability) (its : List Rec) (c b : ℕ) → stands_by k (acting_at k its c) (at its b) b ≡ stands k its (parent_of its c) b
unfolding stands_by stands acting_at
stands_at cap-in its c b = refl
stands_at cap-out its c b = refl
stands_at cap-open its c b = refl

fit_at : (k : Capability) (its : List Rec) (c b : ℕ) → fit_by (acting_at k its c) (at its b) b ≡ fit permit_all k its c b
unfolding fit_by fit acting_at
fit_at k its c b = ap (λ x. is_ambient (at its b) && eqb (at its b).name (at its c).name && x) (stands_at k its c b) ∙ sym (and-true _)

-- who may fit a ready actor: for an out its parent's parent alone
and-false : (b : Bool) → (b && false) ≡ false
and-false true = refl
and-false false = refl

fit-elsewhere : (x : Acting) (p : Rec) (b : ℕ) → x.capability ≡ cap-out → b ≢ x.above.parent → fit_by x p b ≡ false
unfolding fit_by stands_by
fit-elsewhere x p b e n = rw (e, ne_eqb b x.above.parent n) (and-false (is_ambient p && eqb p.name x.actor.name))

pub places-out : (x : Acting) (n lo hi : ℕ) → x.capability ≡ cap-out → hi ≡ min x.above.parent n → lo ≡ hi - 1 → Places x n lo hi
places-out x n lo hi e f g = record {
  ordered = omega arith;
  inside = omega arith;
  before = λ p b l m. fit-elsewhere x p b e (λ q. omega arith);
  behind = λ p b l m. fit-elsewhere x p b e (λ q. omega arith);
}

pub places-all : (x : Acting) (n : ℕ) → Places x n 0 n
places-all x n = record { ordered = omega arith; inside = omega arith; before = λ p b l m. absurd (omega arith); behind = λ p b l m. absurd (omega arith) }

-- what becomes of a step, by what 10 and 11 let through of its actor
module _ (its : List Rec) (c b : ℕ) where
  abbrev decided : Outcome
  decided = outcome permit_all its c b

  by_capability : (o : Option Capability) → capability (at its c).kind ≡ o → (decided ≡ outcome_by permit_all o its c b) × (admitted its c ≡ admitted_by o its c)
  unfolding outcome admitted
  by_capability o e = (ap (λ x. outcome_by permit_all x its c b) e, ap (λ x. admitted_by x its c) e)

  by_ready : (k : Capability) (t : Bool) → capability (at its c).kind ≡ Some k → ready k its (parent_of its c) ≡ t →
      (decided ≡ decide k t (fit permit_all k its c b)) × (admitted its c ≡ admitted_if t (acting_at k its c))
  unfolding outcome_by admitted_by
  by_ready k t e f =
      let w = by_capability (Some k) e in
      (w.0 ∙ ap (λ x. decide k x (fit permit_all k its c b)) f, w.1 ∙ ap (λ x. admitted_if x (acting_at k its c)) f)

  abbrev AsAdmitted : Type 0
  AsAdmitted = ((e : Cause) → admitted its c ≡ Err e → decided ≡ refused-with (number_of e))
      × ((x : Acting) → admitted its c ≡ Ok x → decided ≡ decide x.capability true (fit_by x (at its b) b))

  pub as-admitted : AsAdmitted
  unfolding outcome_by admitted_by admitted_if decide number_of acting_at
  as-admitted = go (capability (at its c).kind) refl
    where
      some : (k : Capability) → capability (at its c).kind ≡ Some k → (t : Bool) → ready k its (parent_of its c) ≡ t → AsAdmitted
      some k e true f = let w = by_ready k true e f in
          (λ x h. cc, λ x h. let q : x ≡ acting_at k its c = cc in rw q (w.0 ∙ ap (decide k true) (sym (fit_at k its c b))))
      some k e false f = let w = by_ready k false e f in
          (λ x h. cc, λ x h. cc)

      go : (o : Option Capability) → capability (at its c).kind ≡ o → AsAdmitted
      go None e = let w = by_capability None e in (λ x h. cc, λ x h. cc)
      go (Some k) e = some k e (ready k its (parent_of its c)) refl

-- the actor is refused by 10 or by 11 alone
pub admitted-cause : (its : List Rec) (c : ℕ) (x : Cause) → admitted its c ≡ Err x → (x ≡ cause.Actor) ⊎ (x ≡ cause.Active)
unfolding admitted admitted_by admitted_if
admitted-cause its c x = go (capability (at its c).kind)
  where
    some : (k : Capability) (t : Bool) → admitted_if t (acting_at k its c) ≡ Err x → (x ≡ cause.Actor) ⊎ (x ≡ cause.Active)
    some k true e = let u : ◌≡◌ {A = ℕ} 0 1 = cc in absurd (omega arith)
    some k false e = inr cc

    go : (o : Option Capability) → admitted_by o its c ≡ Err x → (x ≡ cause.Actor) ⊎ (x ≡ cause.Active)
    go None e = inl cc
    go (Some k) e = some k (ready k its (parent_of its c)) e

-- an actor that is ready, from its record and its parent's
abbrev acts : Capability → Rec → Rec → Acting
acts k r a = record { capability = k; actor = r; above = a }

-- what 10 and 11 let through of an actor, from the records read
module _ (s : List ℕ) (m : length s % 8 ≡ 0) (actor : ℕ) (r : Rec) (er : r ≡ decode s actor) where
  here : at (records s) actor ≡ r
  here = at-whole s m actor ∙ sym er

  pub admit-none : capability r.kind ≡ None → Err cause.Actor ≡ admitted (records s) actor
  unfolding admitted admitted_by
  admit-none e = rw (here, e)

  pub admit-some : {k : Capability} → capability r.kind ≡ Some k → (t : Bool) → ready k (records s) r.parent ≡ t → (a : Rec) → a ≡ decode s r.parent →
      admitted_if t (acts k r a) ≡ admitted (records s) actor
  unfolding acting_at
  admit-some {k} e t f a ea =
      sym ((by_ready (records s) actor 0 k t (ap (λ x. capability x.kind) here ∙ e) (ap (λ x. ready k (records s) x.parent) here ∙ f)).1
      ∙ ap (λ x. admitted_if t (acts k x (at (records s) x.parent))) here
      ∙ ap (λ x. admitted_if t (acts k r x)) (at-whole s m r.parent ∙ sym ea))

-- a parent that isn't x stays
past-other : (x q p : ℕ) → eqb p x ≡ false → past x q p ≡ p
unfolding past
past-other x q p h = rw (h, past)

-- a record that has no number and no parent of the move's is left as it is
pub untouched : (m : Move) (i : ℕ) (r : Rec) → i ≢ m.actor → i ≢ other m.change m.home → r.parent ≢ m.actor → r.parent ≢ opened m.change m.actor → remade m i r ≡ r
unfolding remade parent_after rewritten_to parent_changed opened other
untouched m i r a o x y =
    ap (λ u. rewritten_to (elim u [ true ↦ None | false ↦ parent_changed m.change m.actor m.home i r.parent ]) r) (ne_eqb i m.actor a) ∙ by m.change (ne_eqb _ _ y) (ne_eqb _ _ o)
  where
    still : past m.actor m.home r.parent ≡ r.parent
    still = past-other m.actor m.home r.parent (ne_eqb _ _ x)

    by : (x : Change) → eqb r.parent (opened x m.actor) ≡ false → eqb i (other x m.home) ≡ false → rewritten_to (parent_changed x m.actor m.home i r.parent) r ≡ r
    by (To t) u w = ap (λ b. rewritten_to (Some (past m.actor m.home (elim b [ true ↦ t | false ↦ r.parent ]))) r) w ∙ ap (λ p. to p r) still
    by (Opens b) u w =
        ap (λ a. rewritten_to (elim a [ true ↦ None | false ↦ Some (past m.actor m.home (past b m.home r.parent)) ]) r) w
        ∙ ap (λ p. to (past m.actor m.home p) r) (past-other b m.home r.parent u) ∙ ap (λ p. to p r) still

-- a pass ends where no record changes any more
module _ (f : ℕ → Rec → Rec) where
  settled : (n k : ℕ) (its : List Rec) → ((i : ℕ) → k ≤ i → i < length its → f (n + i) (get_or its i gone) ≡ get_or its i gone) → drop k (update_from f n its) ≡ drop k its
  unfolding update_from
  settled n k [] h = refl
  settled n zero (r ∷ its) h =
      let e : n ≡ n + 0 = omega arith in
      let first : f n r ≡ r = ap (λ j. f j r) e ∙ h 0 (omega arith) (omega arith) in
      ap (λ x. x ∷ update_from f (suc n) its) first ∙ ap (λ l. r ∷ l) (settled (suc n) zero its (λ i a l. let q : suc n + i ≡ n + suc i = omega arith in ap (λ j. f j (get_or its i gone)) q ∙ h (suc i) (omega arith) (omega arith)))
  settled n (suc k) (r ∷ its) h = settled (suc n) k its (λ i a l. let e : suc n + i ≡ n + suc i = omega arith in ap (λ j. f j (get_or its i gone)) e ∙ h (suc i) (omega arith) (omega arith))

  pub pass-settled : (s : List ℕ) → ((j : ℕ) → byte s j < 256) → validity s ≡ pass → (k : ℕ) → ((i : ℕ) → k < i → i ≤ count s → f i (at (records s) i) ≡ at (records s) i) →
      passed_to f k s ≡ encode (update f (records s))
  unfolding passed_to written at
  pass-settled s b v k h =
      let its = records s in
      let rest : drop (8 * k) s ≡ encode (drop k (update f its)) =
      ap (drop (8 * k)) (sym (encode-records s b (valid-passed s v))) ∙ drop-bytes k its ∙ ap encode (sym (settled 1 k its (λ i a l. let q : 1 + i ≡ suc i = omega arith in ap (λ j. f j (get_or its i gone)) q ∙ h (suc i) (omega arith) (omega (arith, length-records s))))) in
      ap (λ x. encode (take k (update f its)) ++ x) rest ∙ sym (encode-append (take k (update f its)) (drop k (update f its))) ∙ ap encode (take-append-drop k (update f its))

-- a pass over records that it leaves
module _ (f : ℕ → Rec → Rec) (s : List ℕ) (b : (j : ℕ) → byte s j < 256) (v : validity s ≡ pass) where
  pass-over : (d i : ℕ) (t : List ℕ) → t ≡ passed_to f i s → i + d ≤ count s → ((j : ℕ) → i < j → j ≤ i + d → f j (decode t j) ≡ decode t j) → t ≡ passed_to f (i + d) s
  unfolding passed_to written count
  pass-over zero i t e l h = let q : i ≡ i + 0 = omega arith in e ∙ ap (λ j. passed_to f j s) q
  pass-over (suc d) i t e l h =
      let q : i + 1 + d ≡ i + suc d = omega arith in
      let same = h (i + 1) (omega arith) (omega arith) in
      let next : t ≡ passed_to f (i + 1) s =
      sym (pass-whole f s i t e b v (omega arith)) ∙ ap (with_record t (i + 1)) (sym same)
      ∙ pass-next f s s i t e (omega arith) (decode t (i + 1)) (f (i + 1) (decode t (i + 1))) (pass-read f s s i t e (omega arith)) refl in
      pass-over d (i + 1) t next (omega arith) (λ j a c. h j (omega arith) (omega arith)) ∙ ap (λ j. passed_to f j s) q

  pub pass-untouched : (m : Move) → f ≡ remade m → (i k e : ℕ) (t : List ℕ) → t ≡ passed_to f i s → UntouchedTo m i k t e → k ≤ count s → t ≡ passed_to f e s
  pass-untouched m q i k e t p u l =
      let z : i + (e - i) ≡ e = omega (arith, u.ordered) in
      pass-over (e - i) i t p (omega (arith, u.ordered, u.inside))
      (λ j a c. let w : j ≤ e = omega arith in ap (λ g. g j (decode t j)) q ∙ untouched m j (decode t j) (u.actor j a w) (u.other j a w) (u.first j a w) (u.second j a w))
      ∙ ap (λ j. passed_to f j s) z

-- updates one after the other
module _ (f g : ℕ → Rec → Rec) where
  from-twice : (n : ℕ) (its : List Rec) → update_from g n (update_from f n its) ≡ update_from (λ i r. g i (f i r)) n its
  unfolding update_from
  from-twice n [] = refl
  from-twice n (r ∷ rs) = ap (λ l. g n (f n r) ∷ l) (from-twice (suc n) rs)

-- one that stands gets another parent, and one that doesn't is gone
pub remade-to : (m : Move) (i : ℕ) (r : Rec) {q : ℕ} → parent_after m i r.parent ≡ Some q → remade m i r ≡ to q r
unfolding remade rewritten_to
remade-to m i r e = ap (λ o. rewritten_to o r) e

pub remade-gone : (m : Move) (i : ℕ) (r : Rec) → parent_after m i r.parent ≡ None → remade m i r ≡ gone
unfolding remade rewritten_to
remade-gone m i r e = ap (λ o. rewritten_to o r) e

-- the two primitives of a step, by the parent that they leave a record
parent_left : ℕ → ℕ → ℕ → ℕ → Option ℕ
parent_left x q i p = elim (eqb i x) [ true ↦ None | false ↦ Some (past x q p) ]

dissolved-by : (x q i : ℕ) (r : Rec) → dissolved x q i r ≡ rewritten_to (parent_left x q i r.parent) r
unfolding dissolved parent_left past rewritten_to
dissolved-by x q i r = go (eqb i x) (eqb r.parent x)
  where
    go : (u w : Bool) → elim u [ true ↦ gone | false ↦ elim w [ true ↦ to q r | false ↦ r ] ] ≡ rewritten_to (elim u [ true ↦ None | false ↦ Some (elim w [ true ↦ q | false ↦ r.parent ]) ]) r
    go true w = refl
    go false true = refl
    go false false = refl

placed-by : (a t i : ℕ) (r : Rec) → placed a t i r ≡ to (elim (eqb i a) [ true ↦ t | false ↦ r.parent ]) r
unfolding placed
placed-by a t i r = go (eqb i a)
  where
    go : (u : Bool) → elim u [ true ↦ to t r | false ↦ r ] ≡ to (elim u [ true ↦ t | false ↦ r.parent ]) r
    go true = refl
    go false = refl

moved-to : (o : Option ℕ) (p : ℕ) (r : Rec) → rewritten_to o (to p r) ≡ rewritten_to o r
unfolding rewritten_to
moved-to None p r = refl
moved-to (Some q) p r = refl

-- one after the other they are what a move makes of a record
remade-placed : (c q t i : ℕ) (r : Rec) → remade (record { actor = c; home = q; change = To t }) i r ≡ dissolved c q i (placed q t i r)
unfolding remade parent_after parent_changed parent_left
remade-placed c q t i r =
    let p : ℕ = elim (eqb i q) [ true ↦ t | false ↦ r.parent ] in
    sym (ap (dissolved c q i) (placed-by q t i r) ∙ dissolved-by c q i (to p r) ∙ moved-to (parent_left c q i p) p r)

remade-opened : (c q b i : ℕ) (r : Rec) → c ≢ 0 → remade (record { actor = c; home = q; change = Opens b }) i r ≡ dissolved c q i (dissolved b q i r)
unfolding remade parent_after parent_changed parent_left rewritten_to
remade-opened c q b i r z = go (eqb i b) refl
  where
    ends : (u : Bool) → rewritten_to (elim u [ true ↦ None | false ↦ None ]) r ≡ gone
    ends true = refl
    ends false = refl

    none : (u : Bool) → rewritten_to (elim u [ true ↦ None | false ↦ Some 0 ]) gone ≡ gone
    none true = refl
    none false = refl

    go : (u : Bool) → eqb i b ≡ u → remade (record { actor = c; home = q; change = Opens b }) i r ≡ dissolved c q i (dissolved b q i r)
    go true e =
        let x : remade (record { actor = c; home = q; change = Opens b }) i r ≡ gone =
        ap (λ u. rewritten_to (elim (eqb i c) [ true ↦ None | false ↦ elim u [ true ↦ None | false ↦ Some (past c q (past b q r.parent)) ] ]) r) e ∙ ends (eqb i c) in
        let y : rewritten_to (parent_left c q i 0) gone ≡ gone =
        ap (λ p. rewritten_to (elim (eqb i c) [ true ↦ None | false ↦ Some p ]) gone) (past-other c q 0 (ne_eqb 0 c (λ h. z (sym h)))) ∙ none (eqb i c) in
        x ∙ sym (ap (dissolved c q i) (dissolved-self b q i r (eqb-true i b e)) ∙ dissolved-by c q i gone ∙ y)
    go false e =
        let p = past b q r.parent in
        let x : dissolved b q i r ≡ to p r = dissolved-by b q i r ∙ ap (λ u. rewritten_to (elim u [ true ↦ None | false ↦ Some p ]) r) e in
        let y : remade (record { actor = c; home = q; change = Opens b }) i r ≡ rewritten_to (parent_left c q i p) r =
        ap (λ u. rewritten_to (elim (eqb i c) [ true ↦ None | false ↦ elim u [ true ↦ None | false ↦ Some (past c q p) ] ]) r) e in
        y ∙ sym (ap (dissolved c q i) x ∙ dissolved-by c q i (to p r) ∙ moved-to (parent_left c q i p) p r)

-- the one pass is the move
module _ {its : List Rec} (wf : WellFormed its) (c : ℕ) where
  carry : (t : ℕ) → parent_of (place (parent_of its c) t its) c ≡ parent_of its c →
      applied (record { actor = c; home = parent_of its c; change = To t }) its ≡ dissolve c (place (parent_of its c) t its)
  unfolding applied dissolve place
  carry t e =
      ap (λ f. update f its) (λ j i r. remade-placed c (parent_of its c) t i r j)
      ∙ sym (from-twice (placed (parent_of its c) t) (dissolved c (parent_of its c)) 1 its)
      ∙ ap (λ p. update (dissolved c p) (update (placed (parent_of its c) t) its)) (sym e)

  free-both : (b : ℕ) → c ≢ 0 → b ≢ 0 → parent_of its b ≡ parent_of its c → c ≢ b →
      applied (record { actor = c; home = parent_of its c; change = Opens b }) its ≡ dissolve c (dissolve b its)
  unfolding applied dissolve
  free-both b z y e n =
      ap (λ f. update f its) (λ j i r. remade-opened c (parent_of its c) b i r z j)
      ∙ sym (from-twice (dissolved b (parent_of its c)) (dissolved c (parent_of its c)) 1 its)
      ∙ ap (λ p. update (dissolved c (parent_of its c)) (update (dissolved b p) its)) (sym e)
      ∙ ap (λ p. update (dissolved c p) (update (dissolved b (parent_of its b)) its)) (sym (dissolve-parent-stays wf b y c n (λ u. parent-not-self wf b y (e ∙ u))))

module _ {its : List Rec} (wf : WellFormed its) {c b : ℕ} where
  pub applied-move : (k : Capability) → Done permit_all k its c b → applied (move_by k c b (parent_of its c) (parent_of its b)) its ≡ move k its c b
  unfolding move_by move
  applied-move cap-in d =
      let z = cap-pos wf cap-in d in
      carry wf c b (place-parent-other wf (parent_of its c) b (in-live wf d) c (λ e. parent-not-self wf c z (sym e)))
  applied-move cap-out d =
      let z = cap-pos wf cap-out d in
      carry wf c (parent_of its b) (place-parent-other wf (parent_of its c) (parent_of its b) (out-live wf d) c (λ e. parent-not-self wf c z (sym e)))
  applied-move cap-open d = free-both wf c b (cap-pos wf cap-open d) (partner-pos wf cap-open d) (open-beside wf d) (done-other wf d)

-- what a step leaves
module _ (s : List ℕ) (c b : ℕ) where
  pub act-refused : {n : ℕ} → outcome permit_all (records s) c b ≡ refused-with n → s ≡ step_bytes permit_all s c b
  unfolding step_bytes rewritten
  act-refused e = rw e

  pub act-done : {k : Capability} {rc rb : Rec} {m : Move} → validity s ≡ pass → outcome permit_all (records s) c b ≡ done-by k → rc ≡ decode s c → rb ≡ decode s b →
      m ≡ move_by k c b rc.parent rb.parent → encode (applied m (records s)) ≡ step_bytes permit_all s c b
  unfolding step_bytes rewritten
  act-done {k} v e ec eb em =
      let w = valid-whole s v in
      let p = ap (λ r. r.parent) (ec ∙ sym (at-whole s w c)) in
      let q = ap (λ r. r.parent) (eb ∙ sym (at-whole s w b)) in
      rw (em, p, q, e) (ap encode (applied-move (valid-wf s v) k (outcome-done k e)))
