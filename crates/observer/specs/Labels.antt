-- What the contracts cite: the labels of a word, and a sheet by what is suspect.
use Rattle.std.specs.Prelude.{ℕ, Bool, List, [], ◌∷◌}
use Rattle.model.specs.Observer.{sheet}
use Rattle.model.specs.Records.{encode, records}
use Rattle.model.specs.Tables.{bit_at}

-- label k is bit k
abbrev pub labels : ℕ → ℕ → Bool
labels w = bit_at 64 (w ∷ [])

unfoldable pub sheet_by : List ℕ → (ℕ → Bool) → List ℕ
sheet_by s S = encode (sheet (records s) S)
