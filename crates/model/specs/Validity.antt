-- Document 01, "Itinerary records" and refusals 1 to 6. A test named .. Right quotes the cause of a refusal, and is
-- true where that cause is absent.
use Rattle.std.specs.Prelude.{◌%◌, suc, zero, ℕ, eqb, leb, length, Bool, ◌&&◌, false, true, List}
use Rattle.model.specs.Climbing.{reaches}
use Rattle.model.specs.Finite.{unequal}
use Rattle.model.specs.Records.{byte_of, count, decode, is_ambient, nested, records}
use Rattle.model.specs.Refusals.{Check, ◌▸◌, each_of, need}
use Rattle.model.specs.declared.Rec.{Rec}

-- 1: "itinerary length no multiple of 8, or over 8,192"
unfoldable pub size_right : List ℕ → Bool
size_right s = eqb (length s % 8) 0 && leb (length s) 8192

-- 2: "kind over 4", and over 5 since document 02, Job 7: "Kind 5 is a copier"
unfoldable pub kind_right : Rec → Bool
kind_right r = leb r.kind 5

-- 2: "a spare byte not zero": "byte 3 zero"
unfoldable pub spare_right : List ℕ → ℕ → Bool
spare_right s i = eqb (byte_of s i 3) 0

-- document 02, Job 4: "a client number from 0 to 999", "a number above 999 falls under 2"
unfoldable pub client_right : Rec → Bool
client_right r = leb r.client 999

-- where the record is gone, its other fields are 0
unfoldable pub blank : Bool → Rec → Bool
blank true r = eqb r.label 0 && (eqb r.name 0 && (eqb r.parent 0 && eqb r.client 0))
blank false r = true

-- 2: "a gone record not all zero"
unfoldable pub gone_right : Rec → Bool
gone_right r = blank (eqb r.kind 0) r

-- "1 to 63 on an ambient, 64 to 127 on a capability"
unfoldable pub label_in : Bool → ℕ → Bool
label_in true l = leb 1 l && leb l 63
label_in false l = leb 64 l && leb l 127

-- by whether the record is an ambient or a capability
unfoldable pub label_by : Bool → Bool → ℕ → Bool
label_by true ambient l = label_in ambient l
label_by false ambient l = eqb l 0

-- 3: "label wrong for its kind" (a gone record has label 0 after 2; document 02, Job 7: "a copier, with label 0 and name 0")
unfoldable pub label_right : Rec → Bool
label_right r = label_by (nested r) (is_ambient r) r.label

-- by whether the record is an ambient or a capability
unfoldable pub name_by : Bool → ℕ → Bool
name_by true n = leb n 63
name_by false n = eqb n 0

-- 4: "name over 63" (a gone record has name 0 after 2; Job 7: "a copier, with label 0 and name 0")
unfoldable pub name_right : Rec → Bool
name_right r = name_by (nested r) r.name

-- kind, label and name fit together, and the client is in range
unfoldable pub shape : Rec → Bool
shape r = kind_right r && (label_right r && (name_right r && client_right r))

-- "A parent is 0 or a record whose kind is not 0." 5: "parent over the record count, or a record of kind 0"
unfoldable pub parent_right : List ℕ → ℕ → Bool
parent_right s zero = true
parent_right s (suc p) = leb (suc p) (count s) && unequal (byte_of s (suc p) 0) 0

-- record i: 2, 3, 4, 5, in this order
unfoldable pub record_check : List ℕ → ℕ → Check
record_check s i =
    let r = decode s i in
    need (kind_right r && (spare_right s i && (client_right r && gone_right r))) 2 i
    ▸ need (label_right r) 3 i
    ▸ need (name_right r) 4 i
    ▸ need (parent_right s r.parent) 5 i

-- 6: "climbing doesn't reach 0", "lowest such record"
unfoldable pub climb_check : List Rec → ℕ → Check
climb_check its i = need (reaches its i) 6 i

-- "Order: 1; then record by record 2 to 5; then 6": what makes bytes an itinerary
unfoldable pub form : List ℕ → Check
form s =
    need (size_right s) 1 0
    ▸ each_of (record_check s) 1 (count s)
    ▸ each_of (climb_check (records s)) 1 (count s)

-- the causes that every call on an itinerary looks for first: 1 to 6
unfoldable pub validity : List ℕ → Check
validity s = form s
