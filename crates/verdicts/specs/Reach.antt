-- What the functions of the search establish.
use Rattle.std.specs.Prelude.{◌*◌, ◌+◌, ◌<◌, ℕ, get_or, Bool, false, true, List, Option, Some, None, ◌≡◌}
use Rattle.model.specs.Finite.{some_of}
use Rattle.model.specs.Tables.{is_high}
use Rattle.tables.specs.Grow.{Set}

-- the labels that may stand directly in x, by the table t, are in u
unfoldable pub RowReached : Set → ℕ → Set → Type 0
RowReached t x u = (k : ℕ) → k < 64 → t (128 * x + k) ≡ true → u k ≡ true

-- and so for each x of u whose class is not boundary
unfoldable pub ReachClosed : Set → List ℕ → Set → Type 0
ReachClosed t policy u = (x : ℕ) → x < 64 → u x ≡ true → (get_or policy x 0 ≡ 2 → ⊥) → RowReached t x u

-- u has 0 alone
pub record Origin (u : Set) : Type 0 where
  pub has : u 0 ≡ true
  pub only : (j : ℕ) → u j ≡ true → j ≡ 0

-- what `lowest` answers, where P k b says that the test answers b of k: the lowest label that passes, if any
unfoldable pub LowestPassing : (ℕ → Bool → Type 0) → Option ℕ → Type 0
LowestPassing P None = (k : ℕ) → k < 64 → P k false
LowestPassing P (Some k) = (k < 64) × P k true × ((j : ℕ) → j < k → P j false)

-- u has no number
unfoldable pub NoLabel : Set → Type 0
NoLabel u = (k : ℕ) → u k ≡ false

-- u has, of the labels, the high ones
unfoldable pub Highs : List ℕ → Set → Type 0
Highs policy u = (k : ℕ) → k < 64 → u k ≡ is_high policy k

-- q is a part of R, and all of it unless it meets the labels to stop at
pub record Until (R stop q : Set) : Type 0 where
  pub inside : (k : ℕ) → q k ≡ true → R k ≡ true
  pub whole : some_of 64 q stop ≡ false → q ≡ R
