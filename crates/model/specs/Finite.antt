-- Bounded loops that compute: for every number, for some number, the lowest number, a list from its entries or from lists, how
-- many, a sum; a buffer whose first bytes are written; each of a list.
use Rattle.std.specs.Prelude.{◌+◌, suc, zero, ℕ, drop, eqb, length, Bool, false, not, true, List, [], ◌++◌, ◌∷◌}
use Rattle.std.specs.Prelude.{Option, None, Some}

-- f holds of every number below n that passes the test t
unfoldable pub every : ℕ → (ℕ → Bool) → (ℕ → Bool) → Bool
every zero t f = true
every (suc n) t f = elim (t n) [ false ↦ every n t f | true ↦ elim (f n) [ false ↦ false | true ↦ every n t f ] ]

-- f holds of some number below n that passes the test t
unfoldable pub some_of : ℕ → (ℕ → Bool) → (ℕ → Bool) → Bool
some_of zero t f = false
some_of (suc n) t f = elim (t n) [ false ↦ some_of n t f | true ↦ elim (f n) [ true ↦ true | false ↦ some_of n t f ] ]

-- the lowest of the n numbers from i on that passes the test t
unfoldable pub lowest : (ℕ → Bool) → ℕ → ℕ → Option ℕ
lowest t i zero = None
lowest t i (suc n) = elim (t i) [ true ↦ Some i | false ↦ lowest t (suc i) n ]

-- f i, f (i + 1), .., n entries in all
unfoldable pub tabulate : {A : Type 0} → ℕ → ℕ → (ℕ → A) → List A
tabulate i zero f = []
tabulate i (suc n) f = f i ∷ tabulate (suc i) n f

-- the n numbers from i on that pass the test t
unfoldable pub numbers : (ℕ → Bool) → ℕ → ℕ → List ℕ
numbers t i zero = []
numbers t i (suc n) = elim (t i) [ true ↦ i ∷ numbers t (suc i) n | false ↦ numbers t (suc i) n ]

-- what stands in the list ys where n stands in xs, 0 if nothing does
unfoldable pub across : List ℕ → List ℕ → ℕ → ℕ
across [] ys n = 0
across (x ∷ xs) [] n = 0
across (x ∷ xs) (y ∷ ys) n = elim (eqb n x) [ true ↦ y | false ↦ across xs ys n ]

-- the lists f i, f (i + 1), .., n of them, one after another
unfoldable pub joined : {A : Type 0} → ℕ → ℕ → (ℕ → List A) → List A
joined i zero f = []
joined i (suc n) f = f i ++ joined (suc i) n f

-- the first bytes of a buffer t written with w, the rest as it was
unfoldable pub over : List ℕ → List ℕ → List ℕ
over w t = w ++ drop (length w) t

-- 1 for a test that passes, 0 for one that fails
unfoldable pub one_if : Bool → ℕ
one_if true = 1
one_if false = 0

-- how many of the numbers 1 to n pass the test t
unfoldable pub tally : (ℕ → Bool) → ℕ → ℕ
tally t zero = 0
tally t (suc n) = one_if (t (suc n)) + tally t n

-- f 1 + f 2 + .. + f n
unfoldable pub summed : (ℕ → ℕ) → ℕ → ℕ
summed f zero = 0
summed f (suc n) = f (suc n) + summed f n

-- two numbers differ
abbrev pub unequal : ℕ → ℕ → Bool
unequal x y = not (eqb x y)

-- each of a list has the property
abbrev pub Each : {A : Type 0} → (A → Type 0) → List A → Type 0
Each P [] = Unit {0}
Each P (x ∷ xs) = P x × Each P xs
