-- The bits that an itinerary and a policy ask of a table one by one. The records of a loop are numbered from 0.
use Rattle.std.specs.Prelude.{◌*◌, ◌+◌, ◌<◌, ℕ, length, Bool, true, List, ◌≡◌}
use Rattle.model.specs.Climbing.{container}
use Rattle.model.specs.Records.{at, is_ambient, nested}
use Rattle.model.specs.Tables.{is_high, place_i, place_s}
use Rattle.model.specs.declared.Rec.{Rec}
use Rattle.tables.specs.Grow.{Set}

-- u has the cell of each x below n that passes the test
unfoldable pub Wanted : (ℕ → Bool) → (ℕ → ℕ) → ℕ → Set → Type 0
Wanted test cell n u = (x : ℕ) → x < n → test x ≡ true → u (cell x) ≡ true

-- "for each ambient or capability, (container, label) is in I"
unfoldable pub standing : List Rec → ℕ → Bool
standing its x = nested (at its (x + 1))

unfoldable pub nesting_cell : List Rec → ℕ → ℕ
nesting_cell its x = place_i (container its (x + 1)) (at its (x + 1)).label

-- "for each ambient, (label, name) is in H", in the part of the table that is H
unfoldable pub bearing : List Rec → ℕ → Bool
bearing its x = is_ambient (at its (x + 1))

unfoldable pub name_cell : List Rec → ℕ → ℕ
name_cell its x = 64 * (at its (x + 1)).label + (at its (x + 1)).name

-- what the itinerary and the policy ask for by themselves
pub record Facts (its : List Rec) (policy : List ℕ) (u : Set) : Type 0 where
  pub nestings : Wanted (standing its) (nesting_cell its) (length its) u
  pub names : Wanted (bearing its) (λ x. 8192 + name_cell its x) (length its) u
  pub highs : Wanted (is_high policy) place_s 64 u
