-- Which rows still owe their rules, and what a sweep over all rows establishes. A set of rows is a word, bit r for row r.
use Rattle.std.specs.Prelude.{◌<◌, ℕ, true, List, ◌≡◌}
use Rattle.table_rows.specs.Changes.{RowsChanged}
use Rattle.table_movers.specs.Rules.{NestingClosed, RowClosed}
use Rattle.model.specs.Tables.{test_bit}
use Rattle.tables.specs.Grow.{Grown, Any}
use Rattle.table_words.specs.BitSets.{Bits}
use Rattle.table_rows.specs.Rows.{Reads}

-- row q reads no row of c
unfoldable pub Quiet : ℕ → ℕ → List ℕ → Type 0
Quiet c q w = (r : ℕ) → test_bit c r ≡ true → Reads w q r → ⊥

-- row q has its rules, unless a row that it reads is in c
unfoldable pub Owed : List ℕ → List ℕ → ℕ → ℕ → Type 0
Owed m w c q = Quiet c q w → RowClosed m q (Bits w)

-- from w to w' by the rules of m; what changed, and is still to be looked at, is in c
pub record Swept (m w w' : List ℕ) (c : ℕ) : Type 0 where
  pub grown : Grown (NestingClosed m) Any (Bits w) (Bits w')
  pub changed : RowsChanged (λ _. Unit {0}) w w' c
  pub owed : (q : ℕ) → q < 64 → Owed m w' c q
