-- What the contracts cite: a way up from a record, and what is found and noted at the numbers of an itinerary.
use Rattle.std.specs.Prelude.{◌%◌, ◌<◌, ◌≤◌, ℕ, get_or, length, List, Option, None, Some, ◌≢◌, ◌≡◌}
use Rattle.model.specs.Climbing.{View, climb, view}
use Rattle.model.proofs.Laws.Forest.{Depth}
use Rattle.model.specs.Records.{count, decode, parent_of, records}
use Rattle.ways.specs.declared.Way.{Way}

-- whole records, not too many, whose parents are within the count
pub record Parented (s : List ℕ) : Type 0 where
  pub whole : length s % 8 ≡ 0
  pub few : length s ≤ 8192
  pub parents : (j : ℕ) → parent_of (records s) j ≤ count s

-- such records whose ambients have a label that a policy knows: what a view may ask of them
pub record Viewable (s : List ℕ) : Type 0 where
  pub parented : Parented s
  pub labels : (j : ℕ) → (decode s j).kind ≡ 1 → (decode s j).label < 64

-- whole records whose parents are within the count: what a way up asks of them
pub record Bounded (s : List ℕ) : Type 0 where
  pub whole : length s % 8 ≡ 0
  pub parents : (j : ℕ) → parent_of (records s) j ≤ count s

-- such records with a note for each number; the environment has its own
pub record Passable {A : Type 0} (s : List ℕ) (notes : List (Option A)) : Type 0 where
  pub bounded : Bounded s
  pub room : count s < length notes
  pub root : get_or notes 0 None ≢ None

-- the start of a way from record i, with its parent above it
pub record Starts (s : List ℕ) (i : ℕ) (w : Way) : Type 0 where
  pub one : w.len ≡ 1
  pub size : length w.numbers ≡ 32
  pub first : get_or w.numbers 0 0 ≡ i
  pub some : 1 ≤ i
  pub inside : i ≤ count s
  pub above : w.top ≡ (decode s i).parent

-- w goes up from record i: its numbers are those that climbing reaches, all of them records, and then comes its top
pub record Leads (s : List ℕ) (i : ℕ) (w : Way) : Type 0 where
  pub some : 1 ≤ w.len
  pub few : w.len ≤ 32
  pub size : length w.numbers ≡ 32
  pub at : (k : ℕ) → k < w.len → get_or w.numbers k 0 ≡ climb (parent_of (records s)) k i
  pub records-all : (k : ℕ) → k < w.len → (1 ≤ climb (parent_of (records s)) k i) × (climb (parent_of (records s)) k i ≤ count s)
  pub top : w.top ≡ climb (parent_of (records s)) w.len i
  pub top-inside : w.top ≤ count s

-- climbing from number j reaches the environment, and there the view finds x
pub record Finding {A : Type 0} (v : View A) (s : List ℕ) (j : ℕ) (x : A) : Type 0 where
  pub depth : ℕ
  pub reaches : Depth (parent_of (records s)) j depth
  pub is : x ≡ view v (records s) j

-- what is noted is what the view finds
pub record Noting {A : Type 0} (v : View A) (s : List ℕ) (notes : List (Option A)) : Type 0 where
  pub viewable : Viewable s
  pub passable : Passable s notes
  pub told : (j : ℕ) (x : A) → j ≤ count s → get_or notes j None ≡ Some x → Finding v s j x

-- more is noted: no note is lost, and what stands past the count stays
pub record Noted {A : Type 0} (v : View A) (s : List ℕ) (notes notes' : List (Option A)) : Type 0 where
  pub noting : Noting v s notes'
  pub stays : (j : ℕ) → get_or notes j None ≢ None → get_or notes' j None ≢ None
  pub past : (j : ℕ) → count s < j → get_or notes' j None ≡ get_or notes j None

-- no number of climbs up to n reaches the environment from number i
abbrev pub Lost : List ℕ → ℕ → ℕ → Type 0
Lost s n i = (d : ℕ) → d ≤ n → Depth (parent_of (records s)) i d → ⊥
