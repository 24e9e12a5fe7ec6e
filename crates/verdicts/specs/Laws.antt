-- Sets as lists of truth values, and the steps to R.
use Rattle.std.specs.Prelude.{◌*◌, ◌+◌, ◌-◌, ◌<◌, suc, zero, ℕ, eqb, length, replicate, set, Bool, ◌&&◌, ◌||◌, List, [], ◌∷◌, Some, None, ◌≡◌, refl}
use borrow.Author.Tests.{eqb-false, ne_eqb, not-true}
use Rattle.std.proofs.Math.ListN.{get_or}
use Rattle.std.proofs.Common.{length-set, get_or-set_other, true≢false, ◌∙◌, le_of_suc-le-suc, not-suc-le-zero, add-one, arith}
use Rattle.std.proofs.Math.Seq.{get_or-set_same}
use Rattle.std.proofs.Math.Bool.{false, not, or_comm, true}
use Rattle.std.specs.Prelude.{Option, None, Some}
use Rattle.std.proofs.Math.Path.{ap, ap₂, fun_ext, subst, sym}
use Rattle.std.proofs.Math.Decide.{ℕ_discrete}
use Rattle.model.specs.Finite.{lowest, some_of}
use Rattle.model.proofs.Laws.Booleans.{and_left, and-make, and_right}
use Rattle.model.proofs.Laws.Finite.{lowest-make, lowest-none, lowest-nothing, lowest-some, replicated, some_of-make, some_of-use}
use Rattle.model.proofs.Laws.Reach.{reached-below, reached-inside, reached-next, reached-start, trues, trues-le}
use Rattle.model.specs.Tables.{Table, is_boundary, is_high, parts, place_i}
use Rattle.model.specs.Verdicts.{exposed, in_r, marked, opening, reached, verdict_by, verdict_of}
use Rattle.model.specs.declared.Verdict.TheVariants.{Exposed, Hinted, Sealed}
use Rattle.verdicts.specs.Reach.{Highs, NoLabel, Origin, LowestPassing, ReachClosed, RowReached, Until}
use Rattle.tables.specs.Grow.{Below, Grown, Inside, Set, Smallest, Any, below_step, same}

-- ---- a store

pub set-true : (q : List Bool) (k : ℕ) → k < length q → Grown (λ u. u k ≡ true) (λ u. u k ≡ true) (marked q) (marked (set q k true))
unfolding marked
set-true q k h = record {
  keeps = λ j t. keep j (ℕ_discrete j k) t;
  inside = λ u s c j t. ins u s c j (ℕ_discrete j k) t;
  done = λ b. b k (get_or-set_same q k true false h);
}
  where
    keep : (j : ℕ) → Dec (j ≡ k) → marked q j ≡ true → marked (set q k true) j ≡ true
    keep j (yes e) t = ap (λ (x : ℕ). get_or (set q k true) x false) e ∙ get_or-set_same q k true false h
    keep j (no d) t = get_or-set_other q k j true false d ∙ t

    ins : (u : Set) → Inside (marked q) u → u k ≡ true → (j : ℕ) → Dec (j ≡ k) → marked (set q k true) j ≡ true → u j ≡ true
    ins u s c j (yes e) t = ap u e ∙ c
    ins u s c j (no d) t = s j (sym (get_or-set_other q k j true false d) ∙ t)

set_same : (q : List Bool) (k : ℕ) → k < length q → marked (set q k (get_or q k false)) ≡ marked q
unfolding marked
set_same q k h = fun_ext (λ j. go j (ℕ_discrete j k))
  where
    go : (j : ℕ) → Dec (j ≡ k) → get_or (set q k (get_or q k false)) j false ≡ get_or q j false
    go j (yes e) = ap (λ (x : ℕ). get_or (set q k (get_or q k false)) x false) e ∙ get_or-set_same q k _ false h ∙ ap (λ (x : ℕ). get_or q x false) (sym e)
    go j (no d) = get_or-set_other q k j _ false d

-- ---- a row

abbrev pub RowAt : Set → ℕ → ℕ → Set → Type 0
RowAt t x k u = t (128 * x + k) ≡ true → u k ≡ true

module _ (t : Set) (x : ℕ) where
  pub row-none : (s : Set) → Smallest (Below (RowAt t x) 0) s s
  unfolding Below
  row-none s = record { keeps = λ j m. m; inside = λ u i c. i; closed = λ k l. absurd (not-suc-le-zero l) }

  module _ (k : ℕ) {s : Set} where
    row-yes : (q : List Bool) → k < length q → t (128 * x + k) ≡ true → Smallest (Below (RowAt t x) k) s (marked q) → Smallest (Below (RowAt t x) (k + 1)) s (marked (set q k true))
    unfolding Below marked
    row-yes q l e g =
        let h = set-true q k l in
        record {
          keeps = λ j m. h.keeps j (g.keeps j m);
          inside = λ u i c. h.inside u (g.inside u i (λ y m. c y (omega arith))) (c k (omega arith) e);
          closed = below_step (RowAt t x) k _ (λ y m f. h.keeps y (g.closed y m f)) (λ _. get_or-set_same q k true false l);
        }

    row-no : {s₁ : Set} → t (128 * x + k) ≡ false → Smallest (Below (RowAt t x) k) s s₁ → Smallest (Below (RowAt t x) (k + 1)) s s₁
    unfolding Below
    row-no e g = record {
      keeps = g.keeps;
      inside = λ u i c. g.inside u i (λ y m. c y (omega arith));
      closed = below_step (RowAt t x) k _ g.closed (λ f. absurd (true≢false (sym f ∙ e)));
    }

    -- `q[k] |= b`
    pub row_next : (b : Bool) (q : List Bool) → k < length q → b ≡ t (128 * x + k) → Smallest (Below (RowAt t x) k) s (marked q) → Smallest (Below (RowAt t x) (k + 1)) s (marked (set q k (get_or q k false || b)))
    row_next b q l e g = subst (λ (v : Bool). Smallest (Below (RowAt t x) (k + 1)) s (marked (set q k v))) (or_comm b (get_or q k false)) (go b e)
      where
        go : (b : Bool) → b ≡ t (128 * x + k) → Smallest (Below (RowAt t x) (k + 1)) s (marked (set q k (b || get_or q k false)))
        go true e = row-yes q l (sym e) g
        go false e = subst (λ (u : Set). Smallest (Below (RowAt t x) (k + 1)) s u) (sym (set_same q k l)) (row-no (sym e) g)

    pub row-end : {s₁ : Set} → k ≡ 64 → Smallest (Below (RowAt t x) k) s s₁ → Smallest (RowReached t x) s s₁
    unfolding RowReached Below
    row-end e g = record { keeps = g.keeps; inside = λ u i c. g.inside u i (λ y m. c y (omega arith)); closed = λ y m. g.closed y (omega arith) }

-- ---- the labels seen

trues-more : (xs : List Bool) (k : ℕ) → k < length xs → marked xs k ≡ false → trues (set xs k true) ≡ suc (trues xs)
unfolding trues marked
trues-more [] k l e = absurd (not-suc-le-zero l)
trues-more (true ∷ xs) zero l e = absurd (true≢false e)
trues-more (false ∷ xs) zero l e = refl
trues-more (true ∷ xs) (suc k) l e = ap suc (trues-more xs k (le_of_suc-le-suc l) e)
trues-more (false ∷ xs) (suc k) l e = trues-more xs k (le_of_suc-le-suc l) e

-- with one more seen, fewer are left
pub fewer-left : (seen : List Bool) (k : ℕ) → length seen ≡ 64 → k < 64 → marked seen k ≡ false → 64 - trues (set seen k true) < 64 - trues seen
fewer-left seen k e l n =
    let m = trues-more seen k (omega (arith, e)) n in
    let o : length (set seen k true) ≡ 64 = simp length-set e in
    omega (arith, m, trues-le (set seen k true))

-- what the search for a label that is not yet seen found
pub record Unseen (r seen : List Bool) (k : ℕ) : Type 0 where
  pub below : k < 64
  pub has : marked r k ≡ true
  pub new : marked seen k ≡ false

pub unseen-at : (r seen : List Bool) (k : ℕ) → lowest (λ k. marked r k && not (marked seen k)) 0 64 ≡ Some k → Unseen r seen k
unseen-at r seen k e =
    let w = lowest-some (λ j. marked r j && not (marked seen j)) 0 64 k e in
    record { below = omega (arith, w.1); has = and_left _ _ w.2; new = not-true _ (and_right (marked r k) _ w.2) }

module _ (t : Set) (policy : List ℕ) where
  -- the rows of the labels seen are in r
  abbrev pub Seen : List Bool → Set → Type 0
  Seen seen r = (x : ℕ) → marked seen x ≡ true → (get_or policy x 0 ≡ 2 → ⊥) → RowReached t x r

  pub seen_none : (seen : List Bool) (r : Set) → NoLabel (marked seen) → Seen seen r
  unfolding NoLabel
  seen_none seen r h x m = absurd (true≢false (sym m ∙ h x))

  module _ (seen : List Bool) (r : Set) (w : Seen seen r) where
    pub seen_more : (x : ℕ) {q : Set} → Inside r q → ((get_or policy x 0 ≡ 2 → ⊥) → RowReached t x q) → Seen (set seen x true) q
    unfolding marked RowReached
    seen_more x {q} i f y m d = go (ℕ_discrete y x)
      where
        go : Dec (y ≡ x) → RowReached t y q
        go (yes e) = subst (λ (z : ℕ). RowReached t z q) (sym e) (f (λ g. d (ap (λ (z : ℕ). get_or policy z 0) e ∙ g)))
        go (no n) = λ k l h. i k (w y (sym (get_or-set_other seen x y true false n) ∙ m) d k l h)

    -- all that r has are seen
    pub seen_all : lowest (λ k. r k && not (marked seen k)) 0 64 ≡ None → ReachClosed t policy r
    unfolding ReachClosed
    seen_all e x l m d = w x (go (marked seen x) refl) d
      where
        go : (b : Bool) → marked seen x ≡ b → marked seen x ≡ true
        go true q = q
        go false q = absurd (true≢false (sym (and-make m (ap not q)) ∙ lowest-none _ 0 64 e x (omega arith) (omega arith)))

  -- a step from a label that r has
  pub step-on : (x : ℕ) {s r q : Set} → x < 64 → r x ≡ true → (get_or policy x 0 ≡ 2 → ⊥) → Grown (ReachClosed t policy) Any s r → Smallest (RowReached t x) r q → Grown (ReachClosed t policy) Any s q
  unfolding ReachClosed
  step-on x l m d g h = record {
    keeps = λ j a. h.keeps j (g.keeps j a);
    inside = λ u i c. let k = g.inside u i c in h.inside u k (c x l (k x m) d);
    done = λ b. g.done (λ j a. b j (h.keeps j a));
  }

-- ---- R

module _ (u : Set) (policy : List ℕ) where
  abbrev edge : ℕ → ℕ → Bool
  edge x k = opening (parts u) policy x k

  edge-make : (x k : ℕ) → u (128 * x + k) ≡ true → (get_or policy x 0 ≡ 2 → ⊥) → edge x k ≡ true
  unfolding opening is_boundary place_i
  edge-make x k t d = and-make t (ap not (ne_eqb (get_or policy x 0) 2 d))

  edge-use : (x k : ℕ) → edge x k ≡ true → (u (128 * x + k) ≡ true) × (get_or policy x 0 ≡ 2 → ⊥)
  unfolding opening is_boundary place_i
  edge-use x k h = (and_left _ _ h, eqb-false (get_or policy x 0) 2 (not-true _ (and_right (u (128 * x + k)) _ h)))

  -- what has grown from the environment by steps lies in R
  pub reach-inside : (s : Set) (r : Set) → Origin s → Grown (ReachClosed u policy) Any s r → Inside r (in_r (parts u) policy)
  unfolding in_r ReachClosed RowReached
  reach-inside s r o g =
      g.inside (marked (reached 64 edge)) (λ j m. ap (marked (reached 64 edge)) (o.only j m) ∙ reached-start 64 edge (omega arith))
      (λ x lx m d k lk t. reached-next 64 edge x k lx lk m (edge-make x k t d))

  -- and is R where `ReachClosed` closes it
  pub reach-is : (s : Set) (r : Set) → Origin s → Grown (ReachClosed u policy) Any s r → ReachClosed u policy r → r ≡ in_r (parts u) policy
  unfolding in_r ReachClosed RowReached
  reach-is s r o g c =
      same (reach-inside s r o g)
      (λ j m. reached-inside 64 edge r (g.keeps 0 o.has)
      (λ x k lx lk h q. let w = edge-use x k q in c x lx h w.1 k lk w.0) j (reached-below 64 edge j m) m)

pub origin-is : Origin (marked (true ∷ replicate 63 false))
unfolding marked
origin-is = record { has = refl; only = λ j. only j }
  where
    only : (j : ℕ) → marked (true ∷ replicate 63 false) j ≡ true → j ≡ 0
    only zero t = refl
    only (suc j) t = absurd (true≢false (sym t ∙ replicated false 63 j))

-- ---- a search that stops

pub no-label : NoLabel (marked (replicate 64 false))
unfolding NoLabel marked
no-label k = replicated false 64 k

-- the highs below k are in q
unfoldable pub HighsBelow : List ℕ → ℕ → List Bool → Type 0
HighsBelow policy k q = (j : ℕ) → j < k → marked q j ≡ is_high policy j

pub highs-start : (policy : List ℕ) (q : List Bool) → HighsBelow policy 0 q
unfolding HighsBelow
highs-start policy q j l = absurd (omega arith)

pub highs-next : (policy : List ℕ) (k : ℕ) (q : List Bool) → k < length q → HighsBelow policy k q → HighsBelow policy (k + 1) (set q k (eqb (get_or policy k 0) 1))
unfolding HighsBelow marked is_high
highs-next policy k q l h j m = go (ℕ_discrete j k)
  where
    go : Dec (j ≡ k) → get_or (set q k (eqb (get_or policy k 0) 1)) j false ≡ eqb (get_or policy j 0) 1
    go (yes e) = ap (λ (x : ℕ). get_or (set q k (eqb (get_or policy k 0) 1)) x false) e ∙ get_or-set_same q k _ false l ∙ ap (λ (x : ℕ). eqb (get_or policy x 0) 1) (sym e)
    go (no d) = get_or-set_other q k j _ false d ∙ h j (omega (arith, d))

pub highs-end : (policy : List ℕ) (k : ℕ) (q : List Bool) → k ≡ 64 → HighsBelow policy k q → Highs policy (marked q)
unfolding HighsBelow Highs
highs-end policy k q e h j l = h j (omega arith)

-- one number more
pub some_next : (t f : ℕ → Bool) (k : ℕ) {m : Bool} → m ≡ some_of k t f → ((t k && f k) || m) ≡ some_of (k + 1) t f
unfolding some_of
some_next t f k h = ap (λ (x : Bool). (t k && f k) || x) h ∙ go (t k) (f k) refl refl ∙ ap (λ (n : ℕ). some_of n t f) (sym (add-one k))
  where
    go : (a b : Bool) → t k ≡ a → f k ≡ b → ((t k && f k) || some_of k t f) ≡ some_of (suc k) t f
    go false b p q = rw (p, some_of)
    go true false p q = rw (p, q, some_of)
    go true true p q = rw (p, q, some_of)

pub some-none : (t f : ℕ → Bool) → false ≡ some_of 0 t f
unfolding some_of
some-none t f = refl

pub some-all : (t f : ℕ → Bool) {k : ℕ} → k ≡ 64 → some_of k t f ≡ some_of 64 t f
some-all t f e = ap (λ (n : ℕ). some_of n t f) e

-- what has a number in common with another
pub met-until : {R stop q : Set} → Inside q R → some_of 64 q stop ≡ true → Until R stop q
met-until i e = record { inside = i; whole = λ h. absurd (true≢false (sym e ∙ h)) }

pub all-until : {R stop q : Set} → q ≡ R → Until R stop q
all-until {q = q} e = record { inside = λ k m. ap (λ (x : Set). x k) (sym e) ∙ m; whole = λ _. e }

-- where there is nothing to stop at, all is reached
pub until-all : {R stop q : Set} → Until R stop q → NoLabel stop → q ≡ R
unfolding NoLabel
until-all {R} {stop} {q} w h = w.whole (go (some_of 64 q stop) refl)
  where
    go : (t : Bool) → some_of 64 q stop ≡ t → some_of 64 q stop ≡ false
    go false e = e
    go true e = let x = some_of-use q stop 64 e in absurd (true≢false (sym x.3 ∙ h x.0))

-- a search that stops at high labels has met one exactly where R has one
-- a high label in the environment's row is reached, unless the environment is a boundary
pub first-row : (T : Table) (policy : List ℕ) {k : ℕ} → (get_or policy 0 0 ≡ 2 → ⊥) → lowest (λ k. is_high policy k && T.I 0 k) 0 64 ≡ Some k → true ≡ exposed T policy
unfolding exposed in_r opening is_boundary
first-row T policy {k} d e =
    let w = lowest-some (λ j. is_high policy j && T.I 0 j) 0 64 k e in
    let l : k < 64 = omega (arith, w.1) in
    let o : (T.I 0 k && not (eqb (get_or policy 0 0) 2)) ≡ true = and-make (and_right (is_high policy k) _ w.2) (ap not (ne_eqb _ _ d)) in
    sym (some_of-make _ _ 64 k l (reached-next 64 (opening T policy) 0 k (omega arith) l (reached-start 64 (opening T policy) (omega arith)) o) (and_left _ _ w.2))

pub until-exposed : (T : Table) (policy : List ℕ) {high q : Set} → Until (in_r T policy) high q → Highs policy high → some_of 64 q high ≡ exposed T policy
unfolding exposed Highs
until-exposed T policy {high} {q} w h = go (some_of 64 q high) refl
  where
    go : (t : Bool) → some_of 64 q high ≡ t → t ≡ some_of 64 (in_r T policy) (is_high policy)
    go true e = let x = some_of-use q high 64 e in sym (some_of-make _ _ 64 x.0 x.1 (w.inside x.0 x.2) (sym (h x.0 x.1) ∙ x.3))
    go false e = None (some_of 64 (in_r T policy) (is_high policy)) refl
      where
        None : (t : Bool) → some_of 64 (in_r T policy) (is_high policy) ≡ t → false ≡ some_of 64 (in_r T policy) (is_high policy)
        None false f = sym f
        None true f =
            let x = some_of-use (in_r T policy) (is_high policy) 64 f in
            absurd (true≢false (sym (some_of-make q high 64 x.0 x.1 (ap (λ (y : Set). y x.0) (w.whole e) ∙ x.2) (h x.0 x.1 ∙ x.3)) ∙ e))

-- ---- the verdict

module _ (u : Set) (policy : List ℕ) (R : Set) (e : R ≡ in_r (parts u) policy) where
  abbrev high : Option ℕ
  high = lowest (λ k. R k && is_high policy k) 0 64

  abbrev hint : Option ℕ
  hint = lowest (λ k. R k && (parts u).S k) 0 64

  by-searches : verdict_by high hint ≡ verdict_of (parts u) policy
  unfolding verdict_of
  by-searches = ap (λ (X : Set). verdict_by (lowest (λ k. X k && is_high policy k) 0 64) (lowest (λ k. X k && (parts u).S k) 0 64)) e

  pub exposed-is : (k : ℕ) → high ≡ Some k → Exposed k ≡ verdict_of (parts u) policy
  unfolding verdict_by
  exposed-is k p = ap (λ x. verdict_by x hint) (sym p) ∙ by-searches

  pub hinted-is : (k : ℕ) → high ≡ None → hint ≡ Some k → Hinted k ≡ verdict_of (parts u) policy
  unfolding verdict_by
  hinted-is k p q = ap₂ verdict_by (sym p) (sym q) ∙ by-searches

  pub sealed-is : high ≡ None → hint ≡ None → Sealed ≡ verdict_of (parts u) policy
  unfolding verdict_by
  sealed-is p q = ap₂ verdict_by (sym p) (sym q) ∙ by-searches

-- ---- a search for the lowest number that passes, by a test that answers f

module _ (f : ℕ → Bool) {P : ℕ → Bool → Type 0} where
  pub lowest-passing : {k : ℕ} → LowestPassing P (Some k) → ((j : ℕ) (b : Bool) → j < 64 → P j b → b ≡ f j) → lowest f 0 64 ≡ Some k
  unfolding LowestPassing
  lowest-passing {k} h answers = lowest-make f 0 64 k (omega arith) (omega (arith, h.0)) (sym (answers k true h.0 h.1)) (λ j _ m. sym (answers j false (omega (arith, h.0)) (h.2 j m)))

  pub lowest-passing_none : LowestPassing P None → ((j : ℕ) (b : Bool) → j < 64 → P j b → b ≡ f j) → lowest f 0 64 ≡ None
  unfolding LowestPassing
  lowest-passing_none h answers = lowest-nothing f 0 64 (λ j _ m. sym (answers j false (omega arith) (h j (omega arith))))
