-- Document 02, Job 6: "Four itineraries, one bench". 02's "members" are a list of itineraries; "an unused place is an itinerary of no
-- records".
use Rattle.std.specs.Prelude.{◌*◌, ◌+◌, ℕ, eqb, leb, length, Bool, ◌&&◌, false, true, List, [], ◌++◌, ◌∷◌, map}
use Rattle.model.specs.Records.{count, encode, records}
use Rattle.model.specs.Refusals.{Check, ◌▸◌, pass}
use Rattle.model.specs.Steps.{to}
use Rattle.model.specs.Validity.{validity}
use Rattle.model.specs.declared.Rec.{Rec}

-- "adds the earlier record count to each parent that isn't 0": the parent p behind n records
unfoldable pub shifted : ℕ → ℕ → ℕ
shifted n p = elim (eqb p 0) [ true ↦ 0 | false ↦ n + p ]

-- a member's record behind n records of the members before
unfoldable pub behind : ℕ → Rec → Rec
behind n r = to (shifted n r.parent) r

-- "Joining them puts the records one after another": the members' records, behind n records
unfoldable pub join_from : ℕ → List (List ℕ) → List Rec
join_from n [] = []
join_from n (s ∷ ss) = map (behind n) (records s) ++ join_from (n + count s) ss

-- the records of the joined itinerary
unfoldable pub join : List (List ℕ) → List Rec
join ss = join_from 0 ss

-- "the joined bytes"
unfoldable pub join_bytes : List (List ℕ) → List ℕ
join_bytes ss = encode (join ss)

-- "each member's checks 1 to 6 in order (records counted within the member)"
unfoldable pub members_check : List (List ℕ) → Check
members_check [] = pass
members_check (s ∷ ss) =
    validity s
    ▸ members_check ss

-- 16: "a set whose records are more than 1,024 together or a buffer that isn't of the joined length"
unfoldable pub set_right : List (List ℕ) → List ℕ → Bool
set_right ss buffer = leb (length (join ss)) 1024 && eqb (length buffer) (8 * length (join ss))

-- "four itineraries", in their order
abbrev pub four : List ℕ → List ℕ → List ℕ → List ℕ → List (List ℕ)
four a b c d = a ∷ b ∷ c ∷ d ∷ []
