-- Document 01, "Climbing from a record to its parent", "above", "container", "hidden".
use Rattle.std.specs.Prelude.{suc, zero, ℕ, eqb, length, Bool, ◌&&◌, false, true, List}
use Rattle.model.specs.Records.{at, is_ambient, parent_of}
use Rattle.model.specs.Tables.{is_boundary}
use Rattle.model.specs.declared.Above.{Above}
use Rattle.model.specs.declared.Rec.{Rec}

-- "Above" means reached by climbing, the record itself not counted: the record k + 1 climbs from i stands above i
abbrev pub climb : (ℕ → ℕ) → ℕ → ℕ → ℕ
climb parent zero i = i
climb parent (suc k) i = climb parent k (parent i)

-- What is found by climbing: the environment has the value top, the record of a number makes its own from its parent's, and
-- lost stands where the climbs run out
pub record View (A : Type 0) : Type 0 where
  pub top : A
  pub lost : A
  pub make : ℕ → Rec → A → A

-- the value at number i, with at most n climbs
unfoldable pub view_from : {A : Type 0} → View A → List Rec → ℕ → ℕ → A
view_from v its zero zero = v.top
view_from v its zero (suc i) = v.lost
view_from v its (suc n) zero = v.top
view_from v its (suc n) (suc i) = v.make (suc i) (at its (suc i)) (view_from v its n (parent_of its (suc i)))

-- the value at number i: one climb more than there are records serves numbers over the count too
unfoldable pub view : {A : Type 0} → View A → List Rec → ℕ → A
view v its i = view_from v its (suc (length its)) i

-- whether the environment is reached
abbrev pub reaching : View Bool
reaching = record { top = true; lost = false; make = λ i r x. x }

-- "Climbing from a record to its parent, as often as there are records, must reach 0."
unfoldable pub reaches : List Rec → ℕ → Bool
reaches its i = view_from reaching its (length its) i

-- the label of an ambient, and otherwise what is above
unfoldable pub labelled : Rec → ℕ → ℕ
labelled r x = elim (is_ambient r) [ true ↦ r.label | false ↦ x ]

-- the nearest label, 0 at the environment
abbrev pub nesting : View ℕ
nesting = record { top = 0; lost = 0; make = λ i. labelled }

-- the label of the nearest ambient from number i on upwards, or 0
abbrev pub nearest : List Rec → ℕ → ℕ
nearest its i = view nesting its i

-- 01's "container" of a record: "the label of the nearest ambient above it, or 0"
abbrev pub container : List Rec → ℕ → ℕ
container its i = nearest its (parent_of its i)

-- document 02, Job 2, "boundary ambient": an ambient whose label's class is boundary
unfoldable pub is_bound : List ℕ → Rec → Bool
is_bound policy r = is_ambient r && is_boundary policy r.label

-- the number of a boundary ambient, and otherwise what is above
unfoldable pub bounded : List ℕ → ℕ → Rec → ℕ → ℕ
bounded policy i r x = elim (is_bound policy r) [ true ↦ i | false ↦ x ]

-- the nearest label and the number of the nearest boundary ambient, both 0 at the environment
abbrev pub enclosing : List ℕ → View Above
enclosing policy = record {
  top = record { label = 0; boundary = 0 };
  lost = record { label = 0; boundary = 0 };
  make = λ i r x. record { label = labelled r x.label; boundary = bounded policy i r x.boundary };
}

-- Job 2: "the container and that boundary's record number, 0 if there is none", of what stands above record i
abbrev pub enclosure : List ℕ → List Rec → ℕ → Above
enclosure policy its i = view (enclosing policy) its (parent_of its i)

-- the record is an ambient, and what is above is right
unfoldable pub ambient_and : Rec → Bool → Bool
ambient_and r x = elim (is_ambient r) [ true ↦ x | false ↦ false ]

-- whether all are ambients
abbrev pub ambients_only : View Bool
ambients_only = record { top = true; lost = false; make = λ i. ambient_and }

-- number i and all records above it are ambients: 01's "active" asks this of a capability's parent (`ready`)
abbrev pub ambients : List Rec → ℕ → Bool
ambients its i = view ambients_only its i

-- document 02, Job 7, "beneath": whether number i has record c above it
abbrev pub below : ℕ → View Bool
below c = record { top = false; lost = false; make = λ i r x. elim (eqb r.parent c) [ true ↦ true | false ↦ x ] }

-- record i stands beneath record c
abbrev pub is_beneath : List Rec → ℕ → ℕ → Bool
is_beneath its c i = view (below c) its i

-- "An ambient is suspect .. as its label is."
unfoldable pub is_suspect : (ℕ → Bool) → Rec → Bool
is_suspect S r = is_ambient r && S r.label

-- the record is a suspect ambient, or what is above hides
unfoldable pub hides : (ℕ → Bool) → Rec → Bool → Bool
hides S r x = elim (is_suspect S r) [ true ↦ true | false ↦ x ]

-- whether one of them is suspect
abbrev pub hiding : (ℕ → Bool) → View Bool
hiding S = record { top = false; lost = false; make = λ i. hides S }

-- 01's "hidden": "it, or a record above it, is an ambient whose label is in S"
abbrev pub hidden : List Rec → (ℕ → Bool) → ℕ → Bool
hidden its S i = view (hiding S) its i
