-- What the words of partners hold: word 64 * (kind - 2) + (label - 64) has the labels that bear a name which some
-- capability record of this kind and label targets. H b n says that label b bears name n.
use Rattle.std.specs.Prelude.{◌*◌, ◌+◌, ◌-◌, ◌<◌, ◌≤◌, ℕ, leb, get_or, Bool, ◌&&◌, true, List, ◌≡◌}
use Rattle.model.specs.Records.{at}
use Rattle.model.specs.Tables.{parts, test_bit}
use Rattle.model.specs.declared.Rec.{Rec}
use Rattle.table_words.specs.Adds.{Adds}
use Rattle.table_words.specs.BitSets.{Bits}

-- (b, n) in H, for the table in words
abbrev pub in_h : List ℕ → ℕ → ℕ → Bool
in_h w b n = (parts (Bits w)).H b n

-- the names borne, by words of bearers: word n has the labels that bear name n
abbrev pub borne : List ℕ → ℕ → ℕ → Bool
borne bearers b n = test_bit (get_or bearers n 0) b

-- "Kinds 2 to 4 are capabilities."
unfoldable pub is_capability : Rec → Bool
is_capability r = leb 2 r.kind && leb r.kind 4

-- the number of a capability's word
unfoldable pub slot : Rec → ℕ
slot r = 64 * (r.kind - 2) + (r.label - 64)

-- the record r, a capability, targets a name that b bears, and its word is word i
pub record Targets (H : ℕ → ℕ → Bool) (r : Rec) (i b : ℕ) : Type 0 where
  pub capable : is_capability r ≡ true
  pub here : slot r ≡ i
  pub below : b < 64
  pub names : H b r.name ≡ true

-- some record does
pub record TargetedBy (its : List Rec) (H : ℕ → ℕ → Bool) (i b : ℕ) : Type 0 where
  pub from : ℕ
  pub targets : Targets H (at its from) i b

-- p' is p with those of all records
abbrev pub AllAdded : List Rec → (ℕ → ℕ → Bool) → List ℕ → List ℕ → Type 0
AllAdded its H p p' = Adds (TargetedBy its H) (TargetedBy its H) p p'

-- p' is p with those of the first n records
abbrev pub AddedTo : List Rec → (ℕ → ℕ → Bool) → ℕ → List ℕ → List ℕ → Type 0
AddedTo its H n p p' = Adds (λ i b. (s : TargetedBy its H i b) × (s.from ≤ n)) (TargetedBy its H) p p'

-- p has the partners of the records up to number n, and no others
pub record Partners (its : List Rec) (H : ℕ → ℕ → Bool) (n : ℕ) (p : List ℕ) : Type 0 where
  pub has : (j i b : ℕ) → j ≤ n → Targets H (at its j) i b → test_bit (get_or p i 0) b ≡ true
  pub only : (i b : ℕ) → test_bit (get_or p i 0) b ≡ true → TargetedBy its H i b

-- p' is p with those of r
abbrev pub PartnersAdded : (ℕ → ℕ → Bool) → Rec → List ℕ → List ℕ → Type 0
PartnersAdded H r p p' = Adds (Targets H r) (Targets H r) p p'
