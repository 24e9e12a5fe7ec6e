-- Document 01, "Itinerary records". 01's "itinerary" is a list of bytes s; `its` is the list of its records.
-- 01's "environment" is number 0.
use Rattle.std.specs.Prelude.{◌%◌, ◌*◌, ◌+◌, ◌/◌, suc, zero, ℕ, eqb, leb, get_or, length, Bool, ◌&&◌, List, [], ◌∷◌}
use Rattle.std.specs.Prelude.{Option, None, Some}
use Rattle.model.specs.Finite.{tabulate}
use Rattle.model.specs.declared.Rec.{Rec}
-- "Kinds 2 to 4 are capabilities.": the code's enum
pub use Rattle.model.specs.declared.Capability.{Capability}
pub use Rattle.model.specs.declared.Capability.TheVariants.{In as cap-in, Open as cap-open, Out as cap-out}

-- byte j of a list, 0 past its end
abbrev pub byte : List ℕ → ℕ → ℕ
byte s j = get_or s j 0

-- "Numbers of two bytes are little-endian."
abbrev pub word : ℕ → ℕ → ℕ
word lo hi = lo + 256 * hi

-- "records of eight bytes, no header": how many there are
unfoldable pub count : List ℕ → ℕ
count s = length s / 8

-- "Records are numbered from 1": byte k of record i
unfoldable pub byte_of : List ℕ → ℕ → ℕ → ℕ
byte_of s zero k = 0
byte_of s (suc i) k = byte s (8 * i + k)

-- record i: byte 0 kind, byte 1 label, byte 2 name, bytes 4 and 5 the parent's number; document 02, Job 4: "Bytes 6 and 7 become a
-- client number"
unfoldable pub decode : List ℕ → ℕ → Rec
decode s i = record {
  kind = byte_of s i 0;
  label = byte_of s i 1;
  name = byte_of s i 2;
  parent = word (byte_of s i 4) (byte_of s i 5);
  client = word (byte_of s i 6) (byte_of s i 7);
}

-- the records of an itinerary, in the order of their numbers
unfoldable pub records : List ℕ → List Rec
records s = tabulate 1 (count s) (decode s)

-- the bytes of records; byte 3 is zero
unfoldable pub encode : List Rec → List ℕ
encode [] = []
encode (r ∷ rs) = r.kind ∷ r.label ∷ r.name ∷ 0 ∷ r.parent % 256 ∷ r.parent / 256 ∷ r.client % 256 ∷ r.client / 256 ∷ encode rs

-- 01's "gone": "A gone record is eight zero bytes."
abbrev pub gone : Rec
gone = record { kind = 0; label = 0; name = 0; parent = 0; client = 0 }

-- record i of an itinerary; gone for the environment, number 0, and over the count
unfoldable pub at : List Rec → ℕ → Rec
at its zero = gone
at its (suc i) = get_or its i gone

-- the parent's number of record i
abbrev pub parent_of : List Rec → ℕ → ℕ
parent_of its i = (at its i).parent

-- the list whose records are numbered from k on, each changed by f
unfoldable pub update_from : (ℕ → Rec → Rec) → ℕ → List Rec → List Rec
update_from f k [] = []
update_from f k (r ∷ rs) = f k r ∷ update_from f (suc k) rs

-- each record i becomes f i of it
abbrev pub update : (ℕ → Rec → Rec) → List Rec → List Rec
update f its = update_from f 1 its

-- "1 ambient"
unfoldable pub is_ambient : Rec → Bool
is_ambient r = eqb r.kind 1

-- document 02, Job 7: "Kind 5 is a copier": the calculus's replication
unfoldable pub is_replication : Rec → Bool
is_replication r = eqb r.kind 5

-- "2 in, 3 out, 4 open"
unfoldable pub capability : ℕ → Option Capability
capability zero = None
capability (suc zero) = None
capability (suc (suc zero)) = Some cap-in
capability (suc (suc (suc zero))) = Some cap-out
capability (suc (suc (suc (suc zero)))) = Some cap-open
capability (suc (suc (suc (suc (suc k))))) = None

-- "each ambient or capability": the records that a table speaks of
unfoldable pub nested : Rec → Bool
nested r = leb 1 r.kind && leb r.kind 4
