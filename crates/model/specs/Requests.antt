-- Document 02: what its Jobs promise of the calls beside their definitions, as propositions. Their proofs are in Laws, those of Job 6 in the crate joins.
use Rattle.std.specs.Prelude.{◌*◌, ◌+◌, ◌<◌, ◌≤◌, suc, ℕ, eqb, get_or, length, map, Bool, ◌&&◌, false, true, List, [], ◌++◌, ◌∷◌, ◌≢◌, ◌≡◌, ◌⊎◌}
use Rattle.std.specs.List.{Contains}
use Rattle.model.specs.Analysis.{Permit, holds, permit_all}
use Rattle.model.specs.Calls.{check_answer, climb_answer, copy_after, copy_answer, exposed_answer, join_after, join_answer, make_after, make_answer, moves_answer, moving, step_answer, verdict_answer}
use Rattle.model.specs.Climbing.{climb, container}
use Rattle.model.specs.Copies.{beneath, copy_parent, gones}
use Rattle.model.specs.Finite.{Each, summed, tally}
use Rattle.model.specs.Joins.{four, join, join_bytes}
use Rattle.model.specs.MoveList.{answering, list_bytes, moves}
use Rattle.model.specs.Noninterference.{BoundaryAt, Event, Noninterference, OnSheet, UnderBoundary, after, without_copying}
use Rattle.model.specs.Observer.{sheet_of}
use Rattle.model.specs.Records.{at, count, is_replication, parent_of, records}
use Rattle.model.specs.Refusals.{done, number, pass, read_off}
use Rattle.model.specs.Scripts.{Step, not_gone, steps_in}
use Rattle.model.specs.Steps.{to}
use Rattle.model.specs.Tables.{Table}
use Rattle.model.specs.Validity.{validity}
use Rattle.model.specs.declared.Above.{Above}
use Rattle.model.specs.declared.Rec.{Rec}
use Rattle.model.specs.declared.Tally.{Tally}
use Rattle.model.specs.declared.Verdict.{Verdict}
use Rattle.model.specs.declared.Verdict.TheVariants.{Exposed, Hinted, Sealed}

-- "the full verdict being exposed"; hinted is no
unfoldable pub is_exposed : Verdict → Bool
is_exposed (Exposed k) = true
is_exposed (Hinted k) = false
is_exposed Sealed = false

-- Job 1: "Its yes must match the full verdict being exposed, for every input, with the same refusals."
abbrev pub ExposedAsVerdict : Type 0
ExposedAsVerdict = (s policy table : List ℕ) → exposed_answer s policy table ≡ read_off is_exposed (verdict_answer s policy table)

-- what Job 2 says of record i: a is "the container" and "the nearest boundary ambient above it", "0 if there is none"
pub record Encloses (s policy : List ℕ) (i : ℕ) (a : Above) : Type 0 where
  -- "the container"
  pub label : a.label ≡ container (records s) i
  -- "the nearest": reached by climbing, and no climb before meets one
  pub found : a.boundary ≢ 0 →
      (k : ℕ) × (climb (parent_of (records s)) (suc k) i ≡ a.boundary) × BoundaryAt policy s a.boundary
      × ((m : ℕ) → m < k → BoundaryAt policy s (climb (parent_of (records s)) (suc m) i) → ⊥)
  -- "0 if there is none": it is not 0 where demand 3's boundary ambient stands above
  pub there : UnderBoundary policy s i → a.boundary ≢ 0
  -- "For number 0, one over the count or a gone record both are 0."
  pub none : (at (records s) i).kind ≡ 0 → (a.label ≡ 0) × (a.boundary ≡ 0)

-- Job 2: "answers the container and that boundary's record number"
abbrev pub ClimbEncloses : Type 0
ClimbEncloses = (s policy : List ℕ) (i : ℕ) (a : Above) → climb_answer s policy i ≡ done a → Encloses s policy i a

-- Job 3: "The four counts add up to the record count times itself."
abbrev pub TallyAddsUp : Type 0
TallyAddsUp = (s list : List ℕ) (t : Tally) → moves_answer s list ≡ done t → t.done + t.no_capability + t.inactive + t.unfit ≡ count s * count s

-- Job 3: the list and the tally "beside it" agree: "four bytes each", for each pair that would answer 0
abbrev pub ListAsTally : Type 0
ListAsTally = (s list : List ℕ) (t : Tally) → moves_answer s list ≡ done t → length (list_bytes (moves permit_all (records s))) ≡ 4 * t.done

-- Job 3: "every pair of actor and partner whose step would be done", be they any numbers: the step call is done for these alone
abbrev pub MovesAreSteps : Type 0
MovesAreSteps = (s : List ℕ) (c b : ℕ) → validity s ≡ pass →
    (Contains (moves permit_all (records s)) (record { actor = c; partner = b }) → step_answer s c b ≡ done tt)
    × (step_answer s c b ≡ done tt → Contains (moves permit_all (records s)) (record { actor = c; partner = b }))

-- a pair before another "by actor and then partner"
abbrev pub Before : Step → Step → Type 0
Before m n = (m.actor < n.actor) ⊎ ((m.actor ≡ n.actor) × (m.partner < n.partner))

-- each pair stands before all that follow it, so "each once, by actor and then partner"
unfoldable pub Rising : List Step → Type 0
Rising [] = Unit {0}
Rising (m ∷ ms) = Each (Before m) ms × Rising ms

-- Job 3: "each once, by actor and then partner"
abbrev pub MovesRise : Type 0
MovesRise = (s : List ℕ) → Rising (moves permit_all (records s))

-- a buffer of n times n bytes is never too short for the list of n records, and one of 1,048,576 never for any
abbrev pub ListFits : Type 0
ListFits = (s list : List ℕ) → validity s ≡ pass → (count s * count s ≤ length list) ⊎ (1048576 ≤ length list) → moving s list ≡ pass

-- Job 3: what "all pairs .. would answer" is the number that the step call tells
abbrev pub TallyOfSteps : Type 0
TallyOfSteps = (s : List ℕ) → validity s ≡ pass → (x : ℕ) → answering permit_all (records s) x ≡ summed (λ c. tally (λ b. eqb (number (step_answer s c b)) x) (count s)) (count s)

-- the list's bytes are a script, whose steps are the moves
abbrev pub ListIsScript : Type 0
ListIsScript = (s : List ℕ) → validity s ≡ pass → steps_in (list_bytes (moves permit_all (records s))) ≡ moves permit_all (records s)

-- Job 4: "kept by every move": a record that stands after a list of events has the client that it had, where no event is a copy,
-- which fills gone records (`CopyKeeps` says with what)
abbrev pub ClientsKept : Type 0
ClientsKept = (s : List ℕ) (es : List Event) (i : ℕ) → validity s ≡ pass → without_copying es ≡ true →
    (at (records (after s es)) i).kind ≢ 0 → (at (records (after s es)) i).client ≡ (at (records s) i).client

-- a record without its client
unfoldable pub unclaimed : Rec → Rec
unclaimed r = record { kind = r.kind; label = r.label; name = r.name; parent = r.parent; client = 0 }

-- two itineraries that differ in clients only
abbrev pub ButClients : List ℕ → List ℕ → Type 0
ButClients x y = map unclaimed (records x) ≡ map unclaimed (records y)

-- Job 4: "Tables don't read it": valid itineraries that differ in clients only get the same answers, and the same table made
pub record TablesBlind (x y policy table : List ℕ) : Type 0 where
  pub checks : check_answer x policy table ≡ check_answer y policy table
  pub verdicts : verdict_answer x policy table ≡ verdict_answer y policy table
  pub exposures : exposed_answer x policy table ≡ exposed_answer y policy table
  pub makes : make_answer x policy table ≡ make_answer y policy table
  pub made : make_after x policy table ≡ make_after y policy table

abbrev pub ClientsUnread : Type 0
ClientsUnread = (x y policy table : List ℕ) → validity x ≡ pass → validity y ≡ pass → ButClients x y → TablesBlind x y policy table

-- Job 4: "two equal sheets now agree on clients too", of the records that stand on them
abbrev pub SheetsAgree : Type 0
SheetsAgree = (x y table : List ℕ) → sheet_of x table ≡ sheet_of y table → (i : ℕ) → OnSheet table x i → (at (records x) i).client ≡ (at (records y) i).client

-- members that 1 to 6 let through, each
abbrev pub Valid : List (List ℕ) → Type 0
Valid members = Each (λ s. validity s ≡ pass) members

-- Job 6: "One table holds for the joined itinerary exactly when it holds for each of the four": an equation of tests, for any permit
abbrev pub JoinHolds : Type 0
JoinHolds = (permit : Permit) (policy : List ℕ) (T : Table) (a b c d : List ℕ) → Valid (four a b c d) →
    let holds-of : List Rec → Bool = λ its. holds permit policy its T in
    holds-of (join (four a b c d)) ≡ (holds-of (records a) && (holds-of (records b) && (holds-of (records c) && holds-of (records d))))

-- and so at the calls: it is accepted for the joined itinerary exactly when it is accepted for each
abbrev pub JoinAccepted : Type 0
JoinAccepted = (policy table a b c d : List ℕ) → Valid (four a b c d) → length (join (four a b c d)) ≤ 1024 →
    let accepted : List ℕ → Type 0 = λ s. check_answer s policy table ≡ done tt in
    (accepted (join_bytes (four a b c d)) → Each accepted (four a b c d)) × (Each accepted (four a b c d) → accepted (join_bytes (four a b c d)))

-- valid members that are few enough make a valid itinerary, of the joined records
abbrev pub JoinValid : Type 0
JoinValid = (members : List (List ℕ)) → Valid members → length (join members) ≤ 1024 →
    (validity (join_bytes members) ≡ pass) × (records (join_bytes members) ≡ join members)

-- Job 6: "an unused place is an itinerary of no records": any number of them, wherever they are, give back the member's bytes
abbrev pub JoinAlone : Type 0
JoinAlone = (before after : List (List ℕ)) (s : List ℕ) → Each (λ u. u ≡ []) before → Each (λ u. u ≡ []) after → validity s ≡ pass →
    Each (λ x. x < 256) s → join_bytes (before ++ s ∷ after) ≡ s

-- the sheet of a join is the join of the sheets
abbrev pub JoinSheet : Type 0
JoinSheet = (members : List (List ℕ)) (table : List ℕ) → Valid members → length (join members) ≤ 1024 →
    sheet_of (join_bytes members) table ≡ join_bytes (map (λ s. sheet_of s table) members)

-- so members with equal lengths and sheets make benches with equal lengths and sheets
abbrev pub JoinSheetsEqual : Type 0
JoinSheetsEqual = (xs ys : List (List ℕ)) (table : List ℕ) → Valid xs → Valid ys → length (join xs) ≤ 1024 →
    map length xs ≡ map length ys → map (λ s. sheet_of s table) xs ≡ map (λ s. sheet_of s table) ys →
    (length (join_bytes xs) ≡ length (join_bytes ys)) × (sheet_of (join_bytes xs) table ≡ sheet_of (join_bytes ys) table)

-- Job 6: "The secrecy wish is then about two joined benches.": what the call lets through twice and wrote into x and y
abbrev pub JoinSecrecy : Type 0
JoinSecrecy = (policy table : List ℕ) (xs ys : List (List ℕ)) (bx by : List ℕ) →
    let x : List ℕ = join_after xs policy table bx in
    let y : List ℕ = join_after ys policy table by in
    length x ≡ length y →
    join_answer xs policy table bx ≡ done tt → join_answer ys policy table by ≡ done tt →
    verdict_answer x policy table ≡ done Sealed →
    sheet_of x table ≡ sheet_of y table →
    (es : List Event) → Noninterference policy table x y es

-- what Job 7 says of a copy that is done, of n records
pub record CopyKeeps (s : List ℕ) (c n : ℕ) : Type 0 where
  -- the itinerary stays valid, with as many records
  pub valid : validity (copy_after s c) ≡ pass
  pub long : length (copy_after s c) ≡ length s
  -- "Records not gone grow by the number copied."
  pub grows : not_gone (records (copy_after s c)) ≡ not_gone (records s) + n
  -- a table that holds stays so, by any permit, and an accepted one accepted
  pub holds : (permit : Permit) (policy : List ℕ) (T : Table) → holds permit policy (records s) T ≡ true → holds permit policy (records (copy_after s c)) T ≡ true
  pub accepted : (policy table : List ℕ) → check_answer s policy table ≡ done tt → check_answer (copy_after s c) policy table ≡ done tt
  -- "The k-th of them by number goes into the k-th gone record by number", all but its parent as it is
  pub filled : (k : ℕ) → k < n → let o : ℕ = get_or (beneath (records s) c) k 0 in
      at (records (copy_after s c)) (get_or (gones (records s)) k 0) ≡ to (copy_parent (records s) c (parent_of (records s) o)) (at (records s) o)
  -- every other record stays
  pub others : (i : ℕ) → ((k : ℕ) → k < n → i ≢ get_or (gones (records s)) k 0) → at (records (copy_after s c)) i ≡ at (records s) i

-- Job 7: "copies all records beneath it"
abbrev pub CopyKept : Type 0
CopyKept = (s : List ℕ) (c n : ℕ) → copy_answer s c ≡ done n → CopyKeeps s c n

-- a replication is no actor and no partner: a step by it answers 10, and no step with it as its partner is done
abbrev pub ReplicationInert : Type 0
ReplicationInert = (s : List ℕ) (c b : ℕ) → validity s ≡ pass →
    (is_replication (at (records s) c) ≡ true → number (step_answer s c b) ≡ 10)
    × (is_replication (at (records s) b) ≡ true → step_answer s c b ≢ done tt)
