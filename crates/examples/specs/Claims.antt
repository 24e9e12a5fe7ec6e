-- Document 01, "Lettered examples": A to H, as one list of claims about the calls.
use Rattle.std.specs.Prelude.{◌<◌, ℕ, eqb, replicate, Bool, ◌&&◌, false, true, List, [], ◌∷◌, ◌≡◌}
use Rattle.std.specs.Prelude.{Some}
use Rattle.model.specs.Calls.{make_after, make_answer, step_after, step_answer, validate_answer, verdict_answer}
use Rattle.model.specs.Listing.{hubscreen}
use Rattle.model.specs.Records.{nested}
use Rattle.model.specs.Refusals.{done, number, refused}
use Rattle.model.specs.Tables.{suspects}
use Rattle.model.specs.Validity.{label_right, name_right}
use Rattle.model.specs.declared.Rec.{Rec}
use Rattle.model.specs.declared.Verdict.{Verdict}
use Rattle.model.specs.declared.Verdict.TheVariants.{Exposed, Hinted, Sealed}

-- whether a number is in a list
unfoldable pub is_in : List ℕ → ℕ → Bool
is_in [] x = false
is_in (y ∷ ys) x = elim (eqb x y) [ true ↦ true | false ↦ is_in ys x ]

-- a record "as kind, label, name" and parent, of client 0, before others
unfoldable pub rec : ℕ → ℕ → ℕ → ℕ → List ℕ → List ℕ
rec kind label name parent rest = kind ∷ label ∷ name ∷ 0 ∷ parent ∷ 0 ∷ 0 ∷ 0 ∷ rest

-- "Class: label 1 boundary, 2 high, every other low, unless said."
unfoldable pub classes : List ℕ
classes = 0 ∷ 2 ∷ 1 ∷ replicate 61 0

-- "all low"
unfoldable pub all_low : List ℕ
all_low = replicate 64 0

-- "records (1,1,0,parent 0), (1,2,1,parent 1)", before others
unfoldable pub records_a : List ℕ → List ℕ
records_a rest = rec 1 1 0 0 (rec 1 2 1 1 rest)

-- "A: records (1,1,0,parent 0), (1,2,1,parent 1)"
unfoldable pub itinerary_a : List ℕ
itinerary_a = records_a []

-- "A and (3,64,0,parent 2)"
unfoldable pub itinerary_b : List ℕ
itinerary_b = records_a (rec 3 64 0 2 [])

-- "A, (4,64,1,parent 1), (1,3,2,parent 3), (3,65,0,parent 4)"
unfoldable pub itinerary_c : List ℕ
itinerary_c = records_a (rec 4 64 1 1 (rec 1 3 2 3 (rec 3 65 0 4 [])))

-- "A, (2,64,2,parent 2), (1,3,2,parent 1)"
unfoldable pub itinerary_d : List ℕ
itinerary_d = records_a (rec 2 64 2 2 (rec 1 3 2 1 []))

-- "(1,1,0,parent 0), (2,64,0,parent 1)"
unfoldable pub itinerary_e : List ℕ
itinerary_e = rec 1 1 0 0 (rec 2 64 0 1 [])

-- "no records"
unfoldable pub itinerary_f : List ℕ
itinerary_f = []

-- "one record with parent 1"
unfoldable pub itinerary_g : ℕ → ℕ → ℕ → ℕ → List ℕ
itinerary_g kind label name parent = rec kind label name parent []

-- an ambient or a capability whose label and name are right: what refusals 2 to 4 leave of G's one record, whose client is 0
unfoldable pub right_g : ℕ → ℕ → ℕ → Bool
right_g kind label name = let r : Rec = record { kind = kind; label = label; name = name; parent = 0; client = 0 } in nested r && (label_right r && name_right r)

-- "(1,1,0,parent 0), (3,64,0,parent 0)"
unfoldable pub itinerary_h : ℕ → List ℕ
itinerary_h kind = rec 1 1 0 0 (rec kind 64 0 0 [])

-- a lent table, cleared
unfoldable pub blank_table : List ℕ
blank_table = replicate 1544 0

-- what an example claims
pub data Claim : Type 0 where
  -- the made table has so many bits, and its verdict is this
  makes : (itinerary policy : List ℕ) (ones : ℕ) (verdict : Verdict) → Claim
  -- the suspects of the made table
  suspecting : (itinerary policy : List ℕ) (labels : List ℕ) → Claim
  -- the step's answer, and the itinerary after it
  steps : (itinerary : List ℕ) (actor partner number : ℕ) (later : List ℕ) → Claim
  -- hubscreen writes these bytes
  writes : (itinerary policy script : List ℕ) (text : List ℕ) → Claim
  -- validation refuses every such record with this parent, with number and record
  refuses : (parent number place : ℕ) → Claim

-- what the claim says of the calls
unfoldable pub Meets : Claim → Type 0
Meets (makes s policy ones verdict) =
    (make_answer s policy blank_table ≡ done ones) × (verdict_answer s policy (make_after s policy blank_table) ≡ done verdict)
Meets (suspecting s policy labels) = (k : ℕ) → k < 64 → suspects (make_after s policy blank_table) k ≡ is_in labels k
Meets (steps s actor partner n later) = (number (step_answer s actor partner) ≡ n) × (step_after s actor partner ≡ later)
Meets (writes s policy z text) = hubscreen (Some s) (Some policy) (Some z) ≡ text
Meets (refuses parent n r) = (kind label name : ℕ) → right_g kind label name ≡ true → validate_answer (itinerary_g kind label name parent) ≡ refused n r

-- "For case B and the script (3,1), (3,1) it writes exactly"
unfoldable pub script_b : List ℕ
script_b = 3 ∷ 0 ∷ 1 ∷ 0 ∷ 3 ∷ 0 ∷ 1 ∷ 0 ∷ []

-- "exposed 2 7", "3 1 0", "3 1 10", "end 0 1 0 2"
unfoldable pub text_b : List ℕ
text_b =
    101 ∷ 120 ∷ 112 ∷ 111 ∷ 115 ∷ 101 ∷ 100 ∷ 32 ∷ 50 ∷ 32 ∷ 55 ∷ 10 ∷ 51 ∷ 32 ∷ 49 ∷ 32 ∷ 48 ∷ 10 ∷ 51 ∷ 32 ∷ 49 ∷ 32 ∷ 49 ∷ 48 ∷ 10
    ∷ 101 ∷ 110 ∷ 100 ∷ 32 ∷ 48 ∷ 32 ∷ 49 ∷ 32 ∷ 48 ∷ 32 ∷ 50 ∷ 10 ∷ []

-- the lettered examples, one list
unfoldable pub examples : List Claim
examples =
    -- "A: .. Five bits, sealed."
    makes itinerary_a classes 5 Sealed
    -- "B: .. Seven bits, exposed 2. Step (3,1) gives record 2 parent 0."
    ∷ makes itinerary_b classes 7 (Exposed 2)
    ∷ steps itinerary_b 3 1 0 (rec 1 1 0 0 (rec 1 2 1 0 (rec 0 0 0 0 [])))
    ∷ writes itinerary_b classes script_b text_b
    -- "C: .. Twelve bits, S is 1, 2, 3, hinted 1."
    ∷ makes itinerary_c classes 12 (Hinted 1)
    ∷ suspecting itinerary_c classes (1 ∷ 2 ∷ 3 ∷ [])
    -- "D: .. Nine bits, sealed. Step (3,4) gives record 2 parent 4."
    ∷ makes itinerary_d classes 9 Sealed
    ∷ steps itinerary_d 3 4 0 (rec 1 1 0 0 (rec 1 2 1 4 (rec 0 0 0 0 (rec 1 3 2 1 []))))
    -- "E: .. all low: four bits; step (2,1) answers 12."
    ∷ makes itinerary_e all_low 4 Sealed
    ∷ steps itinerary_e 2 1 12 itinerary_e
    -- "F: no records: one bit (S holds 2), sealed."
    ∷ makes itinerary_f classes 1 Sealed
    ∷ suspecting itinerary_f classes (2 ∷ [])
    -- "G: one record with parent 1: refusal 6, record 1. With parent 2: refusal 5."
    ∷ refuses 1 6 1
    ∷ refuses 2 5 1
    -- "H: .. step (2,1) answers 11. With kind 4 both go."
    ∷ steps (itinerary_h 3) 2 1 11 (itinerary_h 3)
    ∷ steps (itinerary_h 4) 2 1 0 (rec 0 0 0 0 (rec 0 0 0 0 []))
    ∷ []
