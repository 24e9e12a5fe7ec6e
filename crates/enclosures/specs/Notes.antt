-- What the contracts cite: what each number is enclosed by, once all are noted.
use Rattle.std.specs.Prelude.{◌<◌, ◌≤◌, ℕ, leb, get_or, length, false, true, List, Option, None, Some, ◌≡◌}
use Rattle.model.specs.Climbing.{enclosing, nearest, view}
use Rattle.model.specs.Finite.{tabulate}
use Rattle.model.specs.Records.{count, records}
use Rattle.model.specs.declared.Above.{Above}

-- what number j is enclosed by, itself counted
abbrev pub enclosed_by : List ℕ → List ℕ → ℕ → Above
enclosed_by policy s j = view (enclosing policy) (records s) j

-- the lent notes once all numbers have theirs: past the count what stood there
unfoldable pub all_notes : List ℕ → List ℕ → List (Option Above) → List (Option Above)
all_notes policy s old = tabulate 0 (length old) (λ j. elim (leb j (count s)) [ true ↦ Some (enclosed_by policy s j) | false ↦ get_or old j None ])

-- what callers read of the notes: the nearest label from each number on upwards
pub record Nearests (s : List ℕ) (notes : List (Option Above)) : Type 0 where
  pub room : count s < length notes
  pub is : (j : ℕ) → j ≤ count s → (a : Above) × (get_or notes j None ≡ Some a) × (a.label ≡ nearest (records s) j)
