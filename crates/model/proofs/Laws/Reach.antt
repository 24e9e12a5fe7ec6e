-- The numbers reached from 0 along edges are the least set with 0 in it that the edges don't leave.
use Prim.Native.Nat.{◌+◌, ◌<◌, ◌≤◌, suc, zero, ℕ}
use Rattle.std.proofs.Common.{eqb-true, true≢false, ◌∙◌, arith}
use Rattle.std.proofs.Math.Dec.{eqb}
use Rattle.std.specs.Prelude.{length, Bool, List, [], ◌∷◌, ◌≡◌}
use Rattle.std.specs.Bool.{beq}
use Rattle.std.proofs.Math.Bool.{false, true}
use Rattle.std.proofs.Math.Path.{ap, refl, subst, sym}
use Rattle.std.proofs.Math.Nat.{zero-add}
use Rattle.model.specs.Finite.{tabulate}
use Rattle.model.proofs.Laws.Booleans.{and_left, and_right, beq-eq, or_cases, or_right}
use Rattle.model.proofs.Laws.Finite.{get_d_tabulate, length-tabulate, some_of-make, some_of-use}
use Rattle.model.specs.Verdicts.{alike, growing, grown, joins, marked, reached}

-- how many are true
unfoldable pub trues : List Bool → ℕ
trues [] = 0
trues (true ∷ xs) = suc (trues xs)
trues (false ∷ xs) = trues xs

pub trues-le : (xs : List Bool) → trues xs ≤ length xs
unfolding trues
trues-le [] = omega arith
trues-le (true ∷ xs) = omega (arith, trues-le xs)
trues-le (false ∷ xs) = omega (arith, trues-le xs)

-- a list that marked all that the other marked marked more, or they are equal
trues-grow : (xs ys : List Bool) → length xs ≡ length ys → ((k : ℕ) → marked xs k ≡ true → marked ys k ≡ true) → (trues xs ≤ trues ys) × (alike xs ys ≡ false → trues xs < trues ys)
unfolding trues alike marked
trues-grow [] [] l h = (omega arith, λ u. absurd (true≢false u))
trues-grow [] (y ∷ ys) l h = absurd (omega arith)
trues-grow (x ∷ xs) [] l h = absurd (omega arith)
trues-grow (true ∷ xs) (true ∷ ys) l h = let w = trues-grow xs ys (omega arith) (λ k. h (suc k)) in (omega (arith, w.0), λ u. omega (arith, w.1 u))
trues-grow (true ∷ xs) (false ∷ ys) l h = absurd (true≢false (sym (h 0 refl)))
trues-grow (false ∷ xs) (true ∷ ys) l h = let w = trues-grow xs ys (omega arith) (λ k. h (suc k)) in (omega (arith, w.0), λ u. omega (arith, w.0))
trues-grow (false ∷ xs) (false ∷ ys) l h = let w = trues-grow xs ys (omega arith) (λ k. h (suc k)) in (w.0, w.1)

alike-marked : (xs ys : List Bool) → alike xs ys ≡ true → length xs ≡ length ys → (k : ℕ) → marked xs k ≡ marked ys k
unfolding alike marked
alike-marked [] [] e l k = refl
alike-marked [] (y ∷ ys) e l k = absurd (omega arith)
alike-marked (x ∷ xs) [] e l k = absurd (omega arith)
alike-marked (x ∷ xs) (y ∷ ys) e l zero = beq-eq x y (and_left _ _ e)
alike-marked (x ∷ xs) (y ∷ ys) e l (suc k) = alike-marked xs ys (and_right (beq x y) _ e) (omega arith) k

marked-in : (R : List Bool) (k : ℕ) → marked R k ≡ true → k < length R
unfolding marked
marked-in [] k h = absurd (true≢false (sym h))
marked-in (x ∷ R) zero h = omega arith
marked-in (x ∷ R) (suc k) h = omega (arith, marked-in R k h)

module _ (m : ℕ) (edge : ℕ → ℕ → Bool) where
  grown-length : (R : List Bool) → length (grown m edge R) ≡ m
  unfolding grown
  grown-length R = length-tabulate _ 0 m

  grown-has : (R : List Bool) (k : ℕ) → k < m → marked (grown m edge R) k ≡ joins m edge R k
  unfolding grown marked
  grown-has R k l = get_d_tabulate (joins m edge R) 0 m k false l ∙ rw zero-add

  grown-keeps : (R : List Bool) → length R ≡ m → (k : ℕ) → marked R k ≡ true → marked (grown m edge R) k ≡ true
  unfolding joins
  grown-keeps R l k h = grown-has R k (omega (arith, marked-in R k h)) ∙ rw h

  more : (R : List Bool) → length R ≡ m → alike R (grown m edge R) ≡ false → trues R < trues (grown m edge R)
  more R l e = (trues-grow R (grown m edge R) (l ∙ sym (grown-length R)) (grown-keeps R l)).1 e

  record Stable (R : List Bool) : Type 0 where
    size : length R ≡ m
    stable : alike R (grown m edge R) ≡ true

  growing-stop : (n : ℕ) (R : List Bool) → alike R (grown m edge R) ≡ true → growing m edge (suc n) R ≡ R
  unfolding growing
  growing-stop n R e = rw (e, growing)

  growing-go : (n : ℕ) (R : List Bool) → alike R (grown m edge R) ≡ false → growing m edge (suc n) R ≡ growing m edge n (grown m edge R)
  unfolding growing
  growing-go n R e = rw (e, growing)

  growing-closed : (n : ℕ) (R : List Bool) → length R ≡ m → m ≤ trues R + n → Stable (growing m edge n R)
  unfolding growing
  growing-closed zero R l q = record { size = l; stable = go (alike R (grown m edge R)) refl }
    where
      go : (t : Bool) → alike R (grown m edge R) ≡ t → t ≡ true
      go true e = refl
      go false e = absurd (omega (arith, more R l e, trues-le (grown m edge R), grown-length R))
  growing-closed (suc n) R l q = go (alike R (grown m edge R)) refl (growing-closed n (grown m edge R) (grown-length R))
    where
      go : (t : Bool) → alike R (grown m edge R) ≡ t → (m ≤ trues (grown m edge R) + n → Stable (growing m edge n (grown m edge R))) → Stable (growing m edge (suc n) R)
      go true e ih = rw (growing-stop n R e) (record { size = l; stable = e })
      go false e ih = rw (growing-go n R e) (ih (omega (arith, more R l e)))

  growing-keeps : (n : ℕ) (R : List Bool) → length R ≡ m → (k : ℕ) → marked R k ≡ true → marked (growing m edge n R) k ≡ true
  unfolding growing
  growing-keeps zero R l k h = h
  growing-keeps (suc n) R l k h = go (alike R (grown m edge R)) refl (growing-keeps n (grown m edge R) (grown-length R) k (grown-keeps R l k h))
    where
      go : (t : Bool) → alike R (grown m edge R) ≡ t → marked (growing m edge n (grown m edge R)) k ≡ true → marked (growing m edge (suc n) R) k ≡ true
      go true e ih = rw (growing-stop n R e) h
      go false e ih = rw (growing-go n R e) ih

  begin-length : length (tabulate 0 m (λ k. eqb k 0)) ≡ m
  begin-length = length-tabulate _ 0 m

  reached-closed : Stable (reached m edge)
  unfolding reached
  reached-closed = growing-closed m _ begin-length (omega arith)

  -- 0 is reached, and what an edge leads to from what is reached
  pub reached-start : 0 < m → marked (reached m edge) 0 ≡ true
  unfolding reached marked
  reached-start l = growing-keeps m _ begin-length 0 (get_d_tabulate (λ k. eqb k 0) 0 m 0 false l)

  pub reached-next : (x k : ℕ) → x < m → k < m → marked (reached m edge) x ≡ true → edge x k ≡ true → marked (reached m edge) k ≡ true
  unfolding joins
  reached-next x k lx lk h e = let R = reached m edge in let c = reached-closed in
      alike-marked R (grown m edge R) c.stable (c.size ∙ sym (grown-length R)) k ∙ grown-has R k lk ∙ or_right (marked R k) _ (some_of-make (marked R) (λ y. edge y k) m x lx h e)

  -- a set with 0 in it that no edge leaves
  module _ (X : ℕ → Bool) (start : X 0 ≡ true) (next : (x k : ℕ) → x < m → k < m → X x ≡ true → edge x k ≡ true → X k ≡ true) where
    grown-inside : (R : List Bool) → ((k : ℕ) → k < m → marked R k ≡ true → X k ≡ true) → (k : ℕ) → k < m → marked (grown m edge R) k ≡ true → X k ≡ true
    unfolding joins
    grown-inside R h k l e = or_cases (marked R k) _ (sym (grown-has R k l) ∙ e) (h k l)
        (λ w. let v = some_of-use (marked R) (λ x. edge x k) m w in next v.0 k v.1 l (h v.0 v.1 v.2) v.3)

    growing-inside : (n : ℕ) (R : List Bool) → ((k : ℕ) → k < m → marked R k ≡ true → X k ≡ true) → (k : ℕ) → k < m → marked (growing m edge n R) k ≡ true → X k ≡ true
    unfolding growing
    growing-inside zero R h = h
    growing-inside (suc n) R h = go (alike R (grown m edge R)) refl (growing-inside n (grown m edge R) (grown-inside R h))
      where
        go : (t : Bool) → alike R (grown m edge R) ≡ t → ((k : ℕ) → k < m → marked (growing m edge n (grown m edge R)) k ≡ true → X k ≡ true) →
            (k : ℕ) → k < m → marked (growing m edge (suc n) R) k ≡ true → X k ≡ true
        go true e ih k l q = h k l (sym (ap (λ y. marked y k) (growing-stop n R e)) ∙ q)
        go false e ih k l q = ih k l (sym (ap (λ y. marked y k) (growing-go n R e)) ∙ q)

    pub reached-inside : (k : ℕ) → k < m → marked (reached m edge) k ≡ true → X k ≡ true
    unfolding reached marked
    reached-inside = growing-inside m _ (λ k l e. subst (λ j. X j ≡ true) (sym (eqb-true k 0 (sym (get_d_tabulate (λ j. eqb j 0) 0 m k false l ∙ ap (λ j. eqb j 0) (zero-add k)) ∙ e))) start)

  -- nothing past m is marked
  pub reached-below : (k : ℕ) → marked (reached m edge) k ≡ true → k < m
  reached-below k h = omega (arith, marked-in (reached m edge) k h, reached-closed.size)
