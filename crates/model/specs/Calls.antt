-- Document 01, "Refusal table" and "Order", and the calls that document 02 adds: for every call which refusals it has and in what order, what it returns,
-- and what each lent buffer holds afterwards. A definition named in -ing is a call's sequence of checks.
use Rattle.std.specs.Prelude.{◌*◌, ℕ, eqb, leb, drop, length, take, Bool, ◌&&◌, false, true, List, []}
use Rattle.model.specs.Analysis.{permit_all, holds}
use Rattle.model.specs.Climbing.{enclosure}
use Rattle.model.specs.Copies.{active_replication, beneath, copy, copy_fits}
use Rattle.model.specs.Finite.{over}
use Rattle.model.specs.Joins.{join_bytes, members_check, set_right}
use Rattle.model.specs.Least.{least_table}
use Rattle.model.specs.MoveList.{list_bytes, moves, tally_of}
use Rattle.model.specs.Observer.{sheet_of}
use Rattle.model.specs.Records.{count, encode, records}
use Rattle.model.specs.Refusals.{Answer, Check, ◌▸◌, answer, content, need, pass, refuse}
use Rattle.model.specs.Scripts.{after_list, answers_of, counts_of, not_gone, steps_in, outcomes, script_right}
use Rattle.model.specs.Steps.{Outcome, done-by, outcome, step_bytes, refused-with}
use Rattle.model.specs.Tables.{bits, parts, policy_right, table_right, table_sized, total}
use Rattle.model.specs.Validity.{validity}
use Rattle.model.specs.Verdicts.{exposed, verdict_of}
use Rattle.model.specs.declared.Above.{Above}
use Rattle.model.specs.declared.Counts.{Counts}
use Rattle.model.specs.declared.Screen.{Screen}
use Rattle.model.specs.declared.Tally.{Tally}
use Rattle.model.specs.declared.Verdict.{Verdict}

-- validate: 1 to 6; returns the number of records
unfoldable pub validate_answer : List ℕ → Answer ℕ
validate_answer s = answer (validity s) (count s)

-- what the calls with a policy look for first: 1 to 6, 7
unfoldable pub entry : List ℕ → List ℕ → Check
entry s policy =
    validity s
    ▸ need (policy_right policy) 7 0

-- document 02, Job 2: 1 to 6, 7; "the container and that boundary's record number"
unfoldable pub climb_answer : List ℕ → List ℕ → ℕ → Answer Above
climb_answer s policy i = answer (entry s policy) (enclosure policy (records s) i)

-- sheet: 1 to 6, 8, 14: "no policy and no check whether the table holds"
unfoldable pub showing : List ℕ → List ℕ → List ℕ → Check
showing s table buffer =
    validity s
    ▸ need (table_right table) 8 0
    ▸ need (eqb (length buffer) (length s)) 14 0

-- the sheet returns nothing but that it was done
unfoldable pub sheet_answer : List ℕ → List ℕ → List ℕ → Answer (Unit {0})
sheet_answer s table buffer = answer (showing s table buffer) tt

-- the lent sheet after the call
unfoldable pub sheet_after : List ℕ → List ℕ → List ℕ → List ℕ
sheet_after s table buffer = content (showing s table buffer) (sheet_of s table) buffer

-- "number, record 0" of a step that is refused
unfoldable pub outcome_check : Outcome → Check
outcome_check (refused-with n) = refuse n 0
outcome_check (done-by k) = pass

-- step: 1 to 6, 10, 11, 12
unfoldable pub stepping : List ℕ → ℕ → ℕ → Check
stepping s actor partner =
    validity s
    ▸ outcome_check (outcome permit_all (records s) actor partner)

-- a step returns nothing but that it was done
unfoldable pub step_answer : List ℕ → ℕ → ℕ → Answer (Unit {0})
step_answer s actor partner = answer (stepping s actor partner) tt

-- the lent itinerary after the step
unfoldable pub step_after : List ℕ → ℕ → ℕ → List ℕ
step_after s actor partner = content (validity s) (step_bytes permit_all s actor partner) s

-- script run: 1 to 6, 13; "Inside a run 10 to 12 are answer bytes."
unfoldable pub running : List ℕ → List ℕ → List ℕ → Check
running s script answers =
    validity s
    ▸ need (script_right script (length answers)) 13 0

-- a run returns its counts
unfoldable pub run_answer : List ℕ → List ℕ → List ℕ → Answer Counts
run_answer s script answers = answer (running s script answers) (counts_of (outcomes permit_all s (steps_in script)))

-- the lent itinerary after the run
unfoldable pub run_after : List ℕ → List ℕ → List ℕ → List ℕ
run_after s script answers = content (running s script answers) (after_list permit_all s (steps_in script)) s

-- the lent answers after the run
unfoldable pub run_answers : List ℕ → List ℕ → List ℕ → List ℕ
run_answers s script answers = content (running s script answers) (answers_of permit_all s (steps_in script)) answers

-- document 02, Job 3: 1 to 6, then 15, "a list buffer that is shorter than the list"
unfoldable pub moving : List ℕ → List ℕ → Check
moving s list =
    validity s
    ▸ need (leb (length (list_bytes (moves permit_all (records s)))) (length list)) 15 0

-- the list's call returns the tally: "Beside it stands a tally"
unfoldable pub moves_answer : List ℕ → List ℕ → Answer Tally
moves_answer s list = answer (moving s list) (tally_of permit_all (records s))

-- the lent list after the call: "Bytes of the buffer after the list stay unchanged."
unfoldable pub moves_after : List ℕ → List ℕ → List ℕ
moves_after s list = content (moving s list) (over (list_bytes (moves permit_all (records s))) list) list

-- before a table is held against an itinerary: 1 to 6, 7, 8
unfoldable pub comparing : List ℕ → List ℕ → List ℕ → Check
comparing s policy table =
    entry s policy
    ▸ need (table_right table) 8 0

-- table check: 1 to 6, 7, 8, 9
unfoldable pub checking : List ℕ → List ℕ → List ℕ → Check
checking s policy table =
    comparing s policy table
    ▸ need (holds permit_all policy (records s) (parts (bits table))) 9 0

-- done is 01's "accepted": "when it holds and the check has no other cause to refuse"
unfoldable pub check_answer : List ℕ → List ℕ → List ℕ → Answer (Unit {0})
check_answer s policy table = answer (checking s policy table) tt

-- maker: 1 to 6, 7, 8, where "8 looks at the length only"
unfoldable pub making : List ℕ → List ℕ → List ℕ → Check
making s policy table =
    entry s policy
    ▸ need (table_sized table) 8 0

-- "returns how many bits of all 1,544 bytes are one"
unfoldable pub make_answer : List ℕ → List ℕ → List ℕ → Answer ℕ
make_answer s policy table = answer (making s policy table) (total (least_table permit_all policy (records s)))

-- the lent table after the maker
unfoldable pub make_after : List ℕ → List ℕ → List ℕ → List ℕ
make_after s policy table = content (making s policy table) (least_table permit_all policy (records s)) table

-- verdict: "The verdict runs the check first."
unfoldable pub verdict_answer : List ℕ → List ℕ → List ℕ → Answer Verdict
verdict_answer s policy table = answer (checking s policy table) (verdict_of (parts (bits table)) policy)

-- document 02, Job 1: whether it is exposed, "with the same refusals" as the verdict
unfoldable pub exposed_answer : List ℕ → List ℕ → List ℕ → Answer Bool
exposed_answer s policy table = answer (checking s policy table) (exposed (parts (bits table)) policy)

-- document 02, Job 6: "each member's checks 1 to 6", 16, then the check of the joined bytes, which adds nothing before 7 today:
-- what is joined is valid
unfoldable pub joining : List (List ℕ) → List ℕ → List ℕ → List ℕ → Check
joining members policy table buffer =
    members_check members
    ▸ need (set_right members buffer) 16 0
    ▸ checking (join_bytes members) policy table

-- "The screen should give this answer for the whole set in one call": the check's
unfoldable pub join_answer : List (List ℕ) → List ℕ → List ℕ → List ℕ → Answer (Unit {0})
join_answer members policy table buffer = answer (joining members policy table buffer) tt

-- the lent buffer after the call: "on any refusal the buffer is unchanged"
unfoldable pub join_after : List (List ℕ) → List ℕ → List ℕ → List ℕ → List ℕ
join_after members policy table buffer = content (joining members policy table buffer) (join_bytes members) buffer

-- document 02, Job 7: 1 to 6, "17 a number that is no active copier, and then with 18"
unfoldable pub copying : List ℕ → ℕ → Check
copying s c =
    validity s
    ▸ need (active_replication (records s) c) 17 0
    ▸ need (copy_fits (records s) c) 18 0

-- the copy returns how many records were copied
unfoldable pub copy_answer : List ℕ → ℕ → Answer ℕ
copy_answer s c = answer (copying s c) (length (beneath (records s) c))

-- the lent itinerary after the copy
unfoldable pub copy_after : List ℕ → ℕ → List ℕ
copy_after s c = content (copying s c) (encode (copy c (records s))) s

-- the part, or the empty one
unfoldable pub part_if : Bool → List ℕ → List ℕ
part_if true part = part
part_if false part = []

-- the row request's content (that it is "that very part of the lent table" the call's contract says of its place):
-- "the 16 bytes of a label's row", the empty part "for a label above 63 or a table not 1,544 long"
unfoldable pub row_of : List ℕ → ℕ → List ℕ
row_of table label = part_if (table_sized table && leb label 63) (take 16 (drop (16 * label) table))

-- n for a part that is there, 0 for the empty part
unfoldable pub start_if : Bool → ℕ → ℕ
start_if true n = n
start_if false n = 0

-- where the row request's part starts in the lent table: 16 bytes for each label before it; the empty part at the table's start
unfoldable pub row_start : List ℕ → ℕ → ℕ
row_start table label = start_if (table_sized table && leb label 63) (16 * label)

-- hubscreen: 1 to 6, 7, 13; it "makes the table itself"
unfoldable pub screening : List ℕ → List ℕ → List ℕ → List ℕ → Check
screening s policy script answers =
    entry s policy
    ▸ need (script_right script (length answers)) 13 0

-- what hubscreen shows: verdict and "bits set" of the table made, "ins, outs, opens done, records not gone"
unfoldable pub screen_answer : List ℕ → List ℕ → List ℕ → List ℕ → Answer Screen
screen_answer s policy script answers =
    let table = least_table permit_all policy (records s) in
    answer (screening s policy script answers)
    (record {
      verdict = verdict_of (parts (bits table)) policy;
      ones = total table;
      counts = counts_of (outcomes permit_all s (steps_in script));
      records = not_gone (records (after_list permit_all s (steps_in script)));
    })

-- the lent itinerary after the screen
unfoldable pub screen_after : List ℕ → List ℕ → List ℕ → List ℕ → List ℕ
screen_after s policy script answers = content (screening s policy script answers) (after_list permit_all s (steps_in script)) s

-- the lent answers after the screen
unfoldable pub screen_answers : List ℕ → List ℕ → List ℕ → List ℕ → List ℕ
screen_answers s policy script answers = content (screening s policy script answers) (answers_of permit_all s (steps_in script)) answers
