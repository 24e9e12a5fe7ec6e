-- What the parts of the test of the rules decide, by movers m, in the set of bits u.
use Rattle.std.specs.Prelude.{◌+◌, ◌<◌, ℕ, get_or, Bool, ◌&&◌, true, List, ◌≡◌}
use Rattle.model.specs.Analysis.{infects, row_inside}
use Rattle.model.specs.Tables.{Table, test_bit}
use Rattle.tables.specs.Grow.{Set}
use Rattle.table_words.specs.Layout.{I, S}

-- a test's answer, and what it decides
pub record Decides (r : Bool) (P : Type 0) : Type 0 where
  pub holds : r ≡ true → P
  pub passes : P → r ≡ true

-- all labels of x are labels of y
unfoldable pub Within : ℕ → ℕ → Type 0
Within x y = (k : ℕ) → test_bit x k ≡ true → test_bit y k ≡ true

-- those of in and out, for b in row p
pub record InOutHeld (m : List ℕ) (p b : ℕ) (u : Set) : Type 0 where
  pub ins : (a : ℕ) → a < 64 → test_bit (get_or m b 0) a ≡ true → I u p a → I u b a × (S u b → S u a)
  pub outs : (a : ℕ) → a < 64 → test_bit (get_or m (64 + b) 0) a ≡ true → I u b a → I u p a × (S u b → S u a)

-- "row b of I is inside row p, and if b is in S so is p"
abbrev pub OpenHeld : ℕ → ℕ → Set → Type 0
OpenHeld p b u = ((k : ℕ) → k < 128 → I u b k → I u p k) × (S u b → S u p)

-- and its test
unfoldable pub open_holds : Table → ℕ → ℕ → Bool
open_holds T p b = row_inside T b p && infects T b p

-- those of all three
pub record PairHeld (m : List ℕ) (p b : ℕ) (u : Set) : Type 0 where
  pub moves : InOutHeld m p b u
  pub opens : test_bit (get_or m (128 + b) 0) p ≡ true → OpenHeld p b u

-- for all of row p
unfoldable pub RowHeld : List ℕ → Set → ℕ → Type 0
RowHeld m u p = (b : ℕ) → b < 64 → I u p b → PairHeld m p b u
