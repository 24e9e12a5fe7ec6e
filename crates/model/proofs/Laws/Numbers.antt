-- Numbers in order that pass a test, and two lists of numbers side by side: what stands in one where a number stands in the other.
use Prim.Native.Nat.{◌+◌, ◌<◌, ◌≤◌, suc, zero, ℕ}
use Rattle.std.specs.Prelude.{get_or, length, Bool, false, true, ◌≢◌, ◌≡◌}
use mathlib.Core.List.{List, [], ◌++◌, ◌∷◌}
use Rattle.std.proofs.Common.{eq-eqb, ne_eqb, true≢false, ◌∙◌, add-zero, subst}
use Rattle.std.proofs.Math.Path.{ap, refl, sym}
use Rattle.std.proofs.Math.Decide.{ℕ_discrete}
use native.Mathlib.Omega.{arith}
use Rattle.model.specs.Finite.{across, numbers}

-- n stands in a list
pub data Member (n : ℕ) : List ℕ → Type 0 where
  here : {xs : List ℕ} → Member n (n ∷ xs)
  there : {x : ℕ} {xs : List ℕ} → Member n xs → Member n (x ∷ xs)

-- no number stands twice in a list
pub data Distinct : List ℕ → Type 0 where
  empty : Distinct []
  more : {x : ℕ} {xs : List ℕ} → (Member x xs → ⊥) → Distinct xs → Distinct (x ∷ xs)

pub member-here : {n x : ℕ} {xs : List ℕ} → n ≡ x → Member n (x ∷ xs)
member-here e = rw e here

pub member-split : {A : Type 0} {n x : ℕ} {xs : List ℕ} → Member n (x ∷ xs) → (n ≡ x → A) → (Member n xs → A) → A
member-split here f g = f refl
member-split (there m) f g = g m

pub member-get : (xs : List ℕ) (k : ℕ) → k < length xs → Member (get_or xs k 0) xs
member-get [] k l = absurd (omega arith)
member-get (x ∷ xs) zero l = here
member-get (x ∷ xs) (suc k) l = there (member-get xs k (omega arith))

module _ (t : ℕ → Bool) where
  pub numbers-take : (i n : ℕ) → t i ≡ true → numbers t i (suc n) ≡ i ∷ numbers t (suc i) n
  unfolding numbers
  numbers-take i n e = rw (e, numbers)

  pub numbers-skip : (i n : ℕ) → t i ≡ false → numbers t i (suc n) ≡ numbers t (suc i) n
  unfolding numbers
  numbers-skip i n e = rw (e, numbers)

  pub numbers-use : (i n : ℕ) {m : ℕ} → Member m (numbers t i n) → (i ≤ m) × (m < i + n) × (t m ≡ true)
  unfolding numbers
  numbers-use i zero m = elim m [ ]
  numbers-use i (suc n) {m} h = go (t i) refl h (λ u. numbers-use (suc i) n u)
    where
      go : (b : Bool) → t i ≡ b → Member m (elim b [ true ↦ i ∷ numbers t (suc i) n | false ↦ numbers t (suc i) n ]) →
          (Member m (numbers t (suc i) n) → (suc i ≤ m) × (m < suc i + n) × (t m ≡ true)) → (i ≤ m) × (m < i + suc n) × (t m ≡ true)
      go true e u ih = member-split u (λ q. (omega arith, omega arith, rw q e)) (λ v. let w = ih v in (omega (arith, w.0), omega (arith, w.1), w.2))
      go false e u ih = let w = ih u in (omega (arith, w.0), omega (arith, w.1), w.2)

  pub numbers-make : (i n m : ℕ) → i ≤ m → m < i + n → t m ≡ true → Member m (numbers t i n)
  unfolding numbers
  numbers-make i zero m l h e = absurd (omega arith)
  numbers-make i (suc n) m l h e = go (t i) refl (ℕ_discrete m i) (λ u. numbers-make (suc i) n m u (omega arith) e)
    where
      go : (b : Bool) → t i ≡ b → Dec (m ≡ i) → (suc i ≤ m → Member m (numbers t (suc i) n)) → Member m (elim b [ true ↦ i ∷ numbers t (suc i) n | false ↦ numbers t (suc i) n ])
      go true w (yes q) ih = member-here q
      go true w (no q) ih = there (ih (omega arith))
      go false w (yes q) ih = absurd (true≢false (sym e ∙ ap t q ∙ w))
      go false w (no q) ih = ih (omega arith)

  pub numbers-distinct : (i n : ℕ) → Distinct (numbers t i n)
  unfolding numbers
  numbers-distinct i zero = empty
  numbers-distinct i (suc n) = go (t i) (numbers-distinct (suc i) n)
    where
      go : (b : Bool) → Distinct (numbers t (suc i) n) → Distinct (elim b [ true ↦ i ∷ numbers t (suc i) n | false ↦ numbers t (suc i) n ])
      go true d = more {x = i} (λ m. omega (arith, (numbers-use (suc i) n m).0)) d
      go false d = d

pub across-first : (x y : ℕ) (xs ys : List ℕ) (n : ℕ) → n ≡ x → across (x ∷ xs) (y ∷ ys) n ≡ y
unfolding across
across-first x y xs ys n e = rw (eq-eqb n x e, across)

pub across-next : (x y : ℕ) (xs ys : List ℕ) (n : ℕ) → n ≢ x → across (x ∷ xs) (y ∷ ys) n ≡ across xs ys n
unfolding across
across-next x y xs ys n e = rw (ne_eqb n x e, across)

-- what is across stands there
pub across-use : (xs ys : List ℕ) (n : ℕ) → across xs ys n ≢ 0 → Member n xs × Member (across xs ys n) ys
unfolding across
across-use [] ys n h = absurd (h refl)
across-use (x ∷ xs) [] n h = absurd (h refl)
across-use (x ∷ xs) (y ∷ ys) n h = go (ℕ_discrete n x) (across-use xs ys n)
  where
    go : Dec (n ≡ x) → (across xs ys n ≢ 0 → Member n xs × Member (across xs ys n) ys) → Member n (x ∷ xs) × Member (across (x ∷ xs) (y ∷ ys) n) (y ∷ ys)
    go (yes e) ih = (member-here e, member-here (across-first x y xs ys n e))
    go (no e) ih = let w = ih (rw (across-next x y xs ys n e) at h) in (there w.0, rw (across-next x y xs ys n e) (there w.1))

-- every number of the shorter list has one across, and from there the way leads back
pub across-back : (xs ys : List ℕ) → Distinct ys → length xs ≤ length ys → (n : ℕ) → Member n xs → Member (across xs ys n) ys × (across ys xs (across xs ys n) ≡ n)
across-back [] ys d l n m = elim m [ ]
across-back (x ∷ xs) [] d l n m = absurd (omega arith)
across-back (x ∷ xs) (y ∷ ys) (more f d) l n m = go (ℕ_discrete n x) (across-back xs ys d (omega arith) n)
  where
    go : Dec (n ≡ x) → (Member n xs → Member (across xs ys n) ys × (across ys xs (across xs ys n) ≡ n)) →
        Member (across (x ∷ xs) (y ∷ ys) n) (y ∷ ys) × (across (y ∷ ys) (x ∷ xs) (across (x ∷ xs) (y ∷ ys) n) ≡ n)
    go (yes e) ih = rw (across-first x y xs ys n e) (here, across-first y x ys xs y refl ∙ sym e)
    go (no e) ih =
        let w = ih (member-split m (λ q. absurd (e q)) (λ u. u)) in
        rw (across-next x y xs ys n e) (there w.0, across-next y x ys xs _ (λ q. f (rw q at w.0)) ∙ w.1)

-- the k-th stands across from the k-th
pub across-kth : (xs ys : List ℕ) → Distinct xs → (k : ℕ) → k < length xs → k < length ys → across xs ys (get_or xs k 0) ≡ get_or ys k 0
across-kth [] ys d k l m = absurd (omega arith)
across-kth (x ∷ xs) [] d k l m = absurd (omega arith)
across-kth (x ∷ xs) (y ∷ ys) (more f d) zero l m = across-first x y xs ys x refl
across-kth (x ∷ xs) (y ∷ ys) (more f d) (suc k) l m =
    across-next x y xs ys (get_or xs k 0) (λ e. f (subst (λ v. Member v xs) e (member-get xs k (omega arith)))) ∙ across-kth xs ys d k (omega arith) (omega arith)

-- what has one across stands at one of as many places as the other list has
pub across-place : (xs ys : List ℕ) (n : ℕ) → across xs ys n ≢ 0 → (k : ℕ) × (k < length xs) × (k < length ys) × (get_or xs k 0 ≡ n)
unfolding across
across-place [] ys n h = absurd (h refl)
across-place (x ∷ xs) [] n h = absurd (h refl)
across-place (x ∷ xs) (y ∷ ys) n h = go (ℕ_discrete n x) (across-place xs ys n)
  where
    go : Dec (n ≡ x) → (across xs ys n ≢ 0 → (k : ℕ) × (k < length xs) × (k < length ys) × (get_or xs k 0 ≡ n)) →
        (k : ℕ) × (k < length (x ∷ xs)) × (k < length (y ∷ ys)) × (get_or (x ∷ xs) k 0 ≡ n)
    go (yes e) ih = (0, omega arith, omega arith, sym e)
    go (no e) ih = let w = ih (rw (across-next x y xs ys n e) at h) in (suc w.0, omega (arith, w.1), omega (arith, w.2), w.3)

-- ---- for loops that go up: one number more is looked at

-- a number that passes
unfoldable pub only_number : Bool → ℕ → List ℕ
only_number true n = n ∷ []
only_number false n = []

pub numbers-next : (t : ℕ → Bool) (i n : ℕ) → numbers t i (suc n) ≡ numbers t i n ++ only_number (t (i + n)) (i + n)
unfolding numbers only_number
numbers-next t i zero = rw (add-zero i) (go (t i))
  where
    go : (b : Bool) → elim b [ true ↦ i ∷ [] | false ↦ [] ] ≡ [] ++ only_number b i
    go true = refl
    go false = refl
numbers-next t i (suc n) = go (t i) (numbers-next t (suc i) n)
  where
    e : suc i + n ≡ i + suc n
    e = omega arith

    go : (b : Bool) → numbers t (suc i) (suc n) ≡ numbers t (suc i) n ++ only_number (t (suc i + n)) (suc i + n) →
        elim b [ true ↦ i ∷ numbers t (suc i) (suc n) | false ↦ numbers t (suc i) (suc n) ]
        ≡ elim b [ true ↦ i ∷ numbers t (suc i) n | false ↦ numbers t (suc i) n ] ++ only_number (t (i + suc n)) (i + suc n)
    go true ih = ap (λ l. i ∷ l) ih ∙ ap (λ m. i ∷ (numbers t (suc i) n ++ only_number (t m) m)) e
    go false ih = ih ∙ ap (λ m. numbers t (suc i) n ++ only_number (t m) m) e

-- one original more: its copy goes into the next place
pub across-fill : (gs os : List ℕ) (o : ℕ) → Distinct gs → length os < length gs →
    (across gs (os ++ o ∷ []) (get_or gs (length os) 0) ≡ o) × ((j : ℕ) → j ≢ get_or gs (length os) 0 → across gs (os ++ o ∷ []) j ≡ across gs os j)
unfolding across
across-fill [] os o d l = absurd (omega arith)
across-fill (g ∷ gs) [] o d l = (across-first g o gs [] g refl, λ j h. across-next g o gs [] j h ∙ none gs j)
  where
    none : (gs : List ℕ) (j : ℕ) → across gs [] j ≡ 0
    none [] j = refl
    none (g ∷ gs) j = refl
across-fill (g ∷ gs) (p ∷ os) o (more f d) l =
    let w = across-fill gs os o d (omega arith) in (
      across-next g p gs _ _ (λ e. f (subst (λ v. Member v gs) e (member-get gs (length os) (omega arith)))) ∙ w.0,
      λ j h. go j h (ℕ_discrete j g) (w.1 j h),
    )
  where
    go : (j : ℕ) → j ≢ get_or gs (length os) 0 → Dec (j ≡ g) → across gs (os ++ o ∷ []) j ≡ across gs os j → across (g ∷ gs) (p ∷ (os ++ o ∷ [])) j ≡ across (g ∷ gs) (p ∷ os) j
    go j h (yes e) ih = across-first g p gs _ j e ∙ sym (across-first g p gs os j e)
    go j h (no e) ih = across-next g p gs _ j e ∙ ih ∙ sym (across-next g p gs os j e)

-- and what leads from originals to copies gets one entry more
pub across-more : (os gs : List ℕ) (o : ℕ) → (Member o os → ⊥) → (across (os ++ o ∷ []) gs o ≡ get_or gs (length os) 0) × ((j : ℕ) → j ≢ o → across (os ++ o ∷ []) gs j ≡ across os gs j)
unfolding across
across-more [] [] o n = (refl, λ j h. refl)
across-more [] (g ∷ gs) o n = (across-first o g [] gs o refl, λ j h. across-next o g [] gs j h)
across-more (p ∷ os) [] o n = (refl, λ j h. refl)
across-more (p ∷ os) (g ∷ gs) o n =
    let w = across-more os gs o (λ m. n (there m)) in
    (across-next p g (os ++ o ∷ []) gs o (λ e. n (member-here e)) ∙ w.0, λ j h. go j (ℕ_discrete j p) (w.1 j h))
  where
    go : (j : ℕ) → Dec (j ≡ p) → across (os ++ o ∷ []) gs j ≡ across os gs j → across (p ∷ (os ++ o ∷ [])) (g ∷ gs) j ≡ across (p ∷ os) (g ∷ gs) j
    go j (yes e) ih = across-first p g (os ++ o ∷ []) gs j e ∙ sym (across-first p g os gs j e)
    go j (no e) ih = across-next p g (os ++ o ∷ []) gs j e ∙ ih ∙ sym (across-next p g os gs j e)
