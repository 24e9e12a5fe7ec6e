-- What the rules of a row of I do to other rows, and which rows they read.
use Rattle.std.specs.Prelude.{◌*◌, ◌<◌, ℕ, get_or, true, List, ◌⊎◌, ◌≡◌}
use Rattle.model.specs.Tables.{test_bit}
use Rattle.tables.specs.Grow.{Set}
use Rattle.table_words.specs.Layout.{I}

-- row b lies inside row p
unfoldable pub RowIn : ℕ → ℕ → Set → Type 0
RowIn p b u = (k : ℕ) → k < 128 → I u b k → I u p k

-- the rows of a pair
abbrev pub RowOfPair : ℕ → ℕ → ℕ → Type 0
RowOfPair p b x = (x ≡ p) ⊎ (x ≡ b)

-- what the rules of row q read: row q itself and the rows in it
abbrev pub Reads : List ℕ → ℕ → ℕ → Type 0
Reads w q r = (r ≡ q) ⊎ (test_bit (get_or w (2 * q) 0) r ≡ true)
