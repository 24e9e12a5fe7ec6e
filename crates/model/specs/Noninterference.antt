-- Demand 3, in the customer's words: "Suppose two itineraries have equally many records, one table is accepted for both
-- under one policy, its verdict is sealed, and their observer's sheets by that table are equal. Give both the same list of
-- steps, any list of any length, refused steps included, singly or in scripts. Each step gets the itinerary that the step
-- before it left, and nobody else writes it meanwhile. Then, after the list, every suspect ambient in either itinerary, and
-- so every high one, has a boundary ambient above it. The two sheets by that same table are equal again, byte for byte. And
-- each step of the list whose actor stood on the sheet just before that step got the same answer in both."
-- Its proof is in Laws/Secrecy.
use Rattle.std.specs.Prelude.{◌<◌, suc, ℕ, get_or, length, replicate, take, Bool, false, true, List, [], ◌++◌, ◌∷◌, ◌≢◌, ◌≡◌}
use Rattle.model.specs.Calls.{check_answer, copy_after, run_after, run_answers, step_after, step_answer, verdict_answer}
use Rattle.model.specs.Climbing.{climb}
use Rattle.model.specs.Finite.{Each}
use Rattle.model.specs.Observer.{sheet_of}
use Rattle.model.specs.Records.{at, is_ambient, parent_of, records}
use Rattle.model.specs.Refusals.{done, number}
use Rattle.model.specs.Scripts.{Step, steps_in, script_right}
use Rattle.model.specs.Tables.{is_boundary, is_high, suspects}
use Rattle.model.specs.declared.Verdict.TheVariants.{Sealed}

-- "refused steps included, singly or in scripts": a single step by any numbers, or a run of any script, with the length of its
-- answers; document 02, Job 7: "Lists that include copying", by any number
pub data Event : Type 0 where
  single : (actor partner : ℕ) → Event
  script : (bytes : List ℕ) (room : ℕ) → Event
  copying : (number : ℕ) → Event

-- the itinerary after an event
unfoldable pub after_event : List ℕ → Event → List ℕ
after_event s (single actor partner) = step_after s actor partner
after_event s (script z room) = run_after s z (replicate room 0)
after_event s (copying c) = copy_after s c

-- "Each step gets the itinerary that the step before it left, and nobody else writes it meanwhile.": the itinerary after a list
-- of events
unfoldable pub after : List ℕ → List Event → List ℕ
after s [] = s
after s (e ∷ es) = after (after_event s e) es

-- the list where the test passes, and none where it fails
unfoldable pub kept : {A : Type 0} → Bool → List A → List A
kept true xs = xs
kept false xs = []

-- "A script run stands in it for its steps in order; a run refused with 13 stands for none."; a copy is no step
unfoldable pub steps_of : Event → List Step
steps_of (single actor partner) = record { actor = actor; partner = partner } ∷ []
steps_of (script z room) = kept (script_right z room) (steps_in z)
steps_of (copying c) = []

-- the flattened list of steps
unfoldable pub all_steps : List Event → List Step
all_steps [] = []
all_steps (e ∷ es) = steps_of e ++ all_steps es

-- the answers that an event gave to its steps
unfoldable pub given_by : List ℕ → Event → List ℕ
given_by s (single actor partner) = number (step_answer s actor partner) ∷ []
given_by s (script z room) = kept (script_right z room) (run_answers s z (replicate room 0))
given_by s (copying c) = []

-- the answers that a list of events gave to its steps
unfoldable pub given : List ℕ → List Event → List ℕ
given s [] = []
given s (e ∷ es) = given_by s e ++ given (after_event s e) es

-- "lists without copying"
unfoldable pub without_copying : List Event → Bool
without_copying [] = true
without_copying (single actor partner ∷ es) = without_copying es
without_copying (script z room ∷ es) = without_copying es
without_copying (copying c ∷ es) = false

-- the itinerary after single steps
unfoldable pub after_steps : List ℕ → List Step → List ℕ
after_steps s [] = s
after_steps s (m ∷ ms) = after_steps (step_after s m.actor m.partner) ms

-- the n-th step of the list, counted from 0
unfoldable pub step_at : List Event → ℕ → Step
step_at es n = get_or (all_steps es) n (record { actor = 0; partner = 0 })

-- "just before that step": the itinerary just before the n-th, of a list without copying
unfoldable pub before : List ℕ → List Event → ℕ → List ℕ
before s es n = after_steps s (take n (all_steps es))

-- record j of an itinerary is "a boundary ambient"
abbrev pub BoundaryAt : List ℕ → List ℕ → ℕ → Type 0
BoundaryAt policy s j = (is_ambient (at (records s) j) ≡ true) × (is_boundary policy (at (records s) j).label ≡ true)

-- record i "has a boundary ambient above it"
abbrev pub UnderBoundary : List ℕ → List ℕ → ℕ → Type 0
UnderBoundary policy s i = (k : ℕ) × BoundaryAt policy s (climb (parent_of (records s)) (suc k) i)

-- "every suspect ambient .. has a boundary ambient above it"
abbrev pub SuspectsGuarded : List ℕ → List ℕ → List ℕ → Type 0
SuspectsGuarded policy table s =
    (i : ℕ) → is_ambient (at (records s) i) ≡ true → suspects table (at (records s) i).label ≡ true → UnderBoundary policy s i

-- "and so every high one"
abbrev pub HighGuarded : List ℕ → List ℕ → Type 0
HighGuarded policy s = (i : ℕ) → is_ambient (at (records s) i) ≡ true → is_high policy (at (records s) i).label ≡ true → UnderBoundary policy s i

-- record i "stood on the sheet": 01's "neither hidden nor gone"
abbrev pub OnSheet : List ℕ → List ℕ → ℕ → Type 0
OnSheet table s i = (at (records (sheet_of s table)) i).kind ≢ 0

-- "after the list": what a list of events keeps of two itineraries x and y. Document 02, Job 7: "Lists that include copying keep every
-- suspect ambient under a boundary; equal sheets and answers are for lists without copying"
pub record Noninterference (policy table x y : List ℕ) (es : List Event) : Type 0 where
  -- "every suspect ambient in either itinerary", x and y
  pub guarded : SuspectsGuarded policy table (after x es)
  pub guarded' : SuspectsGuarded policy table (after y es)
  -- "and so every high one"
  pub high : HighGuarded policy (after x es)
  pub high' : HighGuarded policy (after y es)
  -- "The two sheets by that same table are equal again, byte for byte.", where no event is a copy
  pub sheets : without_copying es ≡ true → sheet_of (after x es) table ≡ sheet_of (after y es) table
  -- "each step of the list whose actor stood on the sheet just before that step got the same answer in both", where no event is a copy
  pub answers : without_copying es ≡ true → (n : ℕ) → n < length (all_steps es) → OnSheet table (before x es n) (step_at es n).actor →
      get_or (given x es) n 0 ≡ get_or (given y es) n 0

-- the whole of demand 3
abbrev pub Demand3 : Type 0
Demand3 = (policy table x y : List ℕ) →
    -- "Suppose two itineraries have equally many records" (what is accepted has whole records, so equally many bytes says it)
    length x ≡ length y →
    -- "one table is accepted for both under one policy"
    check_answer x policy table ≡ done tt → check_answer y policy table ≡ done tt →
    -- "its verdict is sealed"
    verdict_answer x policy table ≡ done Sealed →
    -- "their observer's sheets by that table are equal"
    sheet_of x table ≡ sheet_of y table →
    -- "the same list of steps, any list of any length, refused steps included, singly or in scripts"
    (es : List Event) → Noninterference policy table x y es

-- "Four clients may share one bench": a client's policy, which is meant to have the others' recipes high and its own low, and the
-- table that the bench is screened by for this client
pub record Client : Type 0 where
  pub policy : List ℕ
  pub table : List ℕ

-- the bench is screened for a client: its table is accepted, and the verdict is sealed
pub record ScreenedFor (x : List ℕ) (c : Client) : Type 0 where
  pub accepted : check_answer x c.policy c.table ≡ done tt
  pub sealed : verdict_answer x c.policy c.table ≡ done Sealed

-- a client sees the sheet by its table: whatever else the bench could be that looks the same to it
-- stays looking the same after lists without copying
abbrev pub KeptFrom : List ℕ → Client → Type 0
KeptFrom x c = (y : List ℕ) → length x ≡ length y → check_answer y c.policy c.table ≡ done tt →
    sheet_of x c.table ≡ sheet_of y c.table → (es : List Event) → Noninterference c.policy c.table x y es

-- a bench that is screened once for each of its clients keeps what it must from each of them
abbrev pub EveryClient : Type 0
EveryClient = (x : List ℕ) (clients : List Client) → Each (ScreenedFor x) clients → Each (KeptFrom x) clients
