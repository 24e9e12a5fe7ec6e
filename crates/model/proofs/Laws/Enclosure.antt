-- Job 2: what the climb finds above a record. A part of a view is a view, so the label of the pair is 01's container, and the
-- number is that of a view of its own; this one is the first boundary ambient that climbing meets, by induction on the depth.
use Rattle.std.specs.Prelude.{◌<◌, suc, zero, ℕ, Bool, false, true, List, ◌≢◌, ◌≡◌}
use Rattle.std.proofs.Common.{true≢false, ◌∙◌, subst, sym, arith}
use Rattle.std.proofs.Math.Path.{ap, refl}
use Rattle.std.proofs.Math.Decide.{ℕ_discrete}
use Rattle.model.specs.Calls.{climb_answer, entry}
use Rattle.model.specs.Climbing.{View, bounded, climb, enclosing, enclosure, is_bound, nearest, nesting, view, view_from}
use Rattle.model.proofs.Laws.Booleans.{and_left, and-make, and_right}
use Rattle.model.proofs.Laws.Bytes.{valid-wf}
use Rattle.model.proofs.Laws.Checks.{answer-done, answer-value, then-left}
use Rattle.model.proofs.Laws.Forest.{Depth, root, under}
use Rattle.model.proofs.Laws.Updates.{at-root}
use Rattle.model.proofs.Laws.Views.{view-on, view-top}
use Rattle.model.proofs.Laws.WellFormed.{WellFormed}
use Rattle.model.specs.Noninterference.{BoundaryAt}
use Rattle.model.specs.Records.{at, is_ambient, parent_of, records}
use Rattle.model.specs.Refusals.{pass}
use Rattle.model.specs.Requests.{ClimbEncloses, Encloses}
use Rattle.model.specs.Validity.{validity}
use Rattle.model.specs.declared.Above.{Above}
use Rattle.model.specs.declared.Rec.{Rec}

-- what f reads off a view's values is a view, where it reads off what a record makes
pub part-from : {A B : Type 0} (f : A → B) (v : View A) (w : View B) → f v.top ≡ w.top → f v.lost ≡ w.lost →
    ((i : ℕ) (r : Rec) (x : A) → f (v.make i r x) ≡ w.make i r (f x)) → (its : List Rec) (n i : ℕ) → f (view_from v its n i) ≡ view_from w its n i
unfolding view_from
part-from f v w t l m its zero zero = t
part-from f v w t l m its zero (suc i) = l
part-from f v w t l m its (suc n) zero = t
part-from f v w t l m its (suc n) (suc i) = m (suc i) (at its (suc i)) _ ∙ ap (w.make (suc i) (at its (suc i))) (part-from f v w t l m its n (parent_of its (suc i)))

-- the number of the nearest boundary ambient alone
abbrev pub bounding : List ℕ → View ℕ
bounding policy = record { top = 0; lost = 0; make = bounded policy }

module _ (policy : List ℕ) (its : List Rec) (i : ℕ) where
  pub enclosed-label : (view (enclosing policy) its i).label ≡ nearest its i
  unfolding view
  enclosed-label = part-from (λ (x : Above). x.label) (enclosing policy) nesting refl refl (λ j r x. refl) its _ i

  pub enclosed-boundary : (view (enclosing policy) its i).boundary ≡ view (bounding policy) its i
  unfolding view
  enclosed-boundary = part-from (λ (x : Above). x.boundary) (enclosing policy) (bounding policy) refl refl (λ j r x. refl) its _ i

module _ (policy : List ℕ) where
  bounded-here : (i : ℕ) (r : Rec) (x : ℕ) → is_bound policy r ≡ true → bounded policy i r x ≡ i
  unfolding bounded
  bounded-here i r x e = rw (e, bounded)

  bounded-up : (i : ℕ) (r : Rec) (x : ℕ) → is_bound policy r ≡ false → bounded policy i r x ≡ x
  unfolding bounded
  bounded-up i r x e = rw (e, bounded)

  module _ {its : List Rec} (wf : WellFormed its) where
    abbrev bound : ℕ → ℕ
    bound i = view (bounding policy) its i

    -- what the first k climbs from i don't meet, and the one after them does
    pub record First (i k : ℕ) : Type 0 where
      pub meets : is_bound policy (at its (climb (parent_of its) k i)) ≡ true
      pub before : (m : ℕ) → m < k → is_bound policy (at its (climb (parent_of its) m i)) ≡ false

    first-up : {i k : ℕ} → is_bound policy (at its i) ≡ false → First (parent_of its i) k → First i (suc k)
    first-up {i} {k} e f = record { meets = f.meets; before = go }
      where
        go : (m : ℕ) → m < suc k → is_bound policy (at its (climb (parent_of its) m i)) ≡ false
        go zero l = e
        go (suc m) l = f.before m (omega arith)

    bound_by : {i d : ℕ} → Depth (parent_of its) i d → bound i ≢ 0 → (k : ℕ) × (climb (parent_of its) k i ≡ bound i) × First i k
    bound_by root h = absurd (h (view-top (bounding policy) wf))
    bound_by (under {i = i} z r) h = go (is_bound policy (at its i)) refl (bound_by r)
      where
        go : (t : Bool) → is_bound policy (at its i) ≡ t →
            (bound (parent_of its i) ≢ 0 → (k : ℕ) × (climb (parent_of its) k (parent_of its i) ≡ bound (parent_of its i)) × First (parent_of its i) k) →
            (k : ℕ) × (climb (parent_of its) k i ≡ bound i) × First i k
        go true e ih = (0, sym (view-on (bounding policy) wf i z ∙ bounded-here i (at its i) _ e), record { meets = e; before = λ m l. absurd (omega arith) })
        go false e ih =
            let q : bound i ≡ bound (parent_of its i) = view-on (bounding policy) wf i z ∙ bounded-up i (at its i) _ e in
            let w = ih (λ n. h (q ∙ n)) in
            (suc w.0, w.1 ∙ sym q, first-up e w.2)

    -- the number found is met by climbing, and no climb before it meets a boundary ambient
    pub bound-use : (i : ℕ) → bound i ≢ 0 → (k : ℕ) × (climb (parent_of its) k i ≡ bound i) × First i k
    bound-use i h = bound_by (wf.reach i).1 h

    -- a boundary ambient is a record
    bound-pos : (i : ℕ) → is_bound policy (at its i) ≡ true → i ≢ 0
    unfolding is_bound is_ambient
    bound-pos i h z = absurd (true≢false (sym (and_left _ _ h) ∙ ap (λ (x : ℕ). is_ambient (at its x)) z ∙ ap is_ambient (at-root its)))

    bound-own : (i : ℕ) → is_bound policy (at its i) ≡ true → bound i ≢ 0
    bound-own i e n = bound-pos i e (sym (view-on (bounding policy) wf i (bound-pos i e) ∙ bounded-here i (at its i) _ e) ∙ n)

    -- where climbing meets one, one is found
    pub bound-make : (k i : ℕ) → is_bound policy (at its (climb (parent_of its) k i)) ≡ true → bound i ≢ 0
    bound-make zero i h = bound-own i h
    bound-make (suc k) i h = go (is_bound policy (at its i)) refl (ℕ_discrete i 0) (bound-make k (parent_of its i) h)
      where
        go : (t : Bool) → is_bound policy (at its i) ≡ t → Dec (i ≡ 0) → bound (parent_of its i) ≢ 0 → bound i ≢ 0
        go true e d ih = λ n. bound-own i e n
        go false e (no z) ih = λ n. ih (sym (view-on (bounding policy) wf i z ∙ bounded-up i (at its i) _ e) ∙ n)
        go false e (yes z) ih = λ n. ih (ap bound (ap (parent_of its) z ∙ ap (λ (r : Rec). r.parent) (at-root its) ∙ sym z) ∙ n)

-- a boundary ambient of demand 3 is one of the climb
bound_at : (policy s : List ℕ) (j : ℕ) → BoundaryAt policy s j → is_bound policy (at (records s) j) ≡ true
unfolding is_bound
bound_at policy s j b = and-make b.0 b.1

at_bound : (policy s : List ℕ) (j : ℕ) → is_bound policy (at (records s) j) ≡ true → BoundaryAt policy s j
unfolding is_bound
at_bound policy s j h = (and_left _ _ h, and_right (is_ambient (at (records s) j)) _ h)

module _ (policy s : List ℕ) (i : ℕ) (v : validity s ≡ pass) where
  abbrev wf : WellFormed (records s)
  wf = valid-wf s v

  abbrev p : ℕ
  p = parent_of (records s) i

  encloses : Encloses s policy i (enclosure policy (records s) i)
  encloses = record {
    label = enclosed-label policy (records s) p;
    found = λ n. found (λ e. n (number ∙ e));
    there = λ u e. bound-make policy wf u.0 p (bound_at policy s _ u.1) (sym number ∙ e);
    none = λ g. none g;
  }
    where
      number : (view (enclosing policy) (records s) p).boundary ≡ view (bounding policy) (records s) p
      number = enclosed-boundary policy (records s) p

      found : view (bounding policy) (records s) p ≢ 0 →
          (k : ℕ) × (climb (parent_of (records s)) k p ≡ (view (enclosing policy) (records s) p).boundary) × BoundaryAt policy s (view (enclosing policy) (records s) p).boundary
          × ((m : ℕ) → m < k → BoundaryAt policy s (climb (parent_of (records s)) m p) → ⊥)
      found n =
          let w = bound-use policy wf p n in
          let e = w.1 ∙ sym number in
          (w.0, e, subst (BoundaryAt policy s) e (at_bound policy s _ w.2.meets), λ m l b. absurd (true≢false (sym (bound_at policy s _ b) ∙ w.2.before m l)))

      none : (at (records s) i).kind ≡ 0 → ((view (enclosing policy) (records s) p).label ≡ 0) × ((view (enclosing policy) (records s) p).boundary ≡ 0)
      none g =
          let z : p ≡ 0 = ap (λ (r : Rec). r.parent) (wf.gones i g) in
          (ap (λ (q : ℕ). (view (enclosing policy) (records s) q).label) z ∙ ap (λ (x : Above). x.label) (view-top (enclosing policy) wf), ap (λ (q : ℕ). (view (enclosing policy) (records s) q).boundary) z ∙ ap (λ (x : Above). x.boundary) (view-top (enclosing policy) wf))

pub climb-encloses : ClimbEncloses
unfolding climb_answer entry
climb-encloses s policy i a h =
    let c = answer-done (entry s policy) _ a h in
    subst (Encloses s policy i) (answer-value (entry s policy) _ a h) (encloses policy s i (then-left _ _ c))
