-- Numbers that are listed at the start of a lent list.
use Rattle.std.specs.Prelude.{◌≡◌, ℕ, List, get_or, length, take}
use Rattle.model.specs.Finite.{across}

-- the first n of the list are xs
pub record Listed (xs list : List ℕ) (n : ℕ) : Type 0 where
  pub first : take n list ≡ xs
  pub many : n ≡ length xs

-- of each number of xs the list has what stands there in ys, of others 0
abbrev pub Leading : List ℕ → List ℕ → List ℕ → Type 0
Leading xs ys list = (q : ℕ) → get_or list q 0 ≡ across xs ys q
