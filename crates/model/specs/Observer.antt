-- Document 01, "Observer's sheet".
use Rattle.std.specs.Prelude.{ℕ, Bool, false, true, List}
use Rattle.model.specs.Climbing.{hidden}
use Rattle.model.specs.Records.{encode, gone, records, update}
use Rattle.model.specs.Tables.{suspects}
use Rattle.model.specs.declared.Rec.{Rec}

-- record i as the sheet has it
unfoldable pub on_sheet : List Rec → (ℕ → Bool) → ℕ → Rec → Rec
on_sheet its S i r = elim (hidden its S i) [ true ↦ gone | false ↦ r ]

-- 01's "sheet": "a record neither hidden nor gone stands there unchanged, all others are eight zero bytes"
unfoldable pub sheet : List Rec → (ℕ → Bool) → List Rec
sheet its S = update (on_sheet its S) its

-- "It is made from itinerary and table alone"
unfoldable pub sheet_of : List ℕ → List ℕ → List ℕ
sheet_of s table = encode (sheet (records s) (suspects table))
