-- The seed of the least table: the bits that an itinerary and a policy ask for by themselves, and no more.
use Rattle.std.specs.Prelude.{ℕ, Bool, List}
use Rattle.model.specs.declared.Rec.{Rec}
use Rattle.table_partners.specs.Facts.{Facts, Wanted}
use Rattle.tables.specs.Grow.{Inside, Set, Smallest}

-- s' is s with the cells of those x below n that pass the test, and no more
abbrev pub CellsSet : (ℕ → Bool) → (ℕ → ℕ) → ℕ → Set → Set → Type 0
CellsSet test cell n s s' = Smallest (Wanted test cell n) s s'

-- s is the seed
pub record Seeded (its : List Rec) (policy : List ℕ) (s : Set) : Type 0 where
  pub has : Facts its policy s
  pub inside : (u : Set) → Facts its policy u → Inside s u
