-- Document 02, Job 7. A copy, its refusals, and noninterference over a list with copies: the hidden part of one bench uses up a gone
-- record that in the other is left for what is shown, so that equal sheets can't be kept. That a copy keeps the itinerary valid and
-- tables accepted would hold of one hung under the replication too; these bytes, and the process that it means, don't.
use Rattle.std.specs.Prelude.{ℕ, true, List, [], ◌∷◌, ◌≢◌, ◌≡◌, refl}
use Rattle.std.proofs.Common.{ap, arith}
use Rattle.examples.specs.Claims.{classes, is_in, rec}
use Rattle.examples.specs.Listed.{all_below, computing}
use Rattle.examples.specs.Published.{means-by}
use Rattle.examples.specs.Tabled.{accepting, formed, judging, showing-alike, table_of}
use Rattle.model.specs.Analysis.{permit_all, holds}
use Rattle.model.specs.Calls.{check_answer, copy_after, copy_answer, copying, step_answer}
use Rattle.model.specs.Copies.{active_replication, beneath, copied, copy, copy_fits, copy_here, copy_parent, gones}
use Rattle.model.specs.Finite.{across, numbers}
use Rattle.model.specs.Noninterference.{Event, Noninterference, after, copying as copying-of}
use Rattle.model.specs.Observer.{sheet}
use Rattle.model.specs.Processes.{Means, Process, Reads, ◌·◌, ◌‖◌, ambient, both, cap, end, nothing, one, read, replication, says-ambient, says-cap, says-replication, times}
use Rattle.model.specs.Records.{at, is_replication, records}
use Rattle.model.specs.Refusals.{done, number, pass, refused}
use Rattle.model.specs.Tables.{parts, place_h, place_i, place_s}
use Rattle.model.specs.Validity.{validity}
use Rattle.model.specs.Verdicts.{verdict_of}
use Rattle.model.specs.declared.Capability.TheVariants.{Out as cap-out}
use Rattle.model.specs.declared.Verdict.TheVariants.{Sealed}
use Rattle.model.proofs.Laws.Secrecy.{noninterference}

-- the definitions that a copy computes by
unfoldable pub computing_copies : ℕ
unfolding computing copy_answer copy_after copying active_replication copy_fits is_replication beneath gones numbers across copy copied copy_here copy_parent
computing_copies = 0

-- ---- one copy

-- in the ambient 2 the replication 3; beneath it the ambient 5 of client 9, and in that the capability 4; 1, 6 and 7 are gone
unfoldable pub washing : List ℕ
washing = rec 0 0 0 0 (rec 1 1 0 0 (rec 5 0 0 2 (rec 3 64 0 5 (1 ∷ 2 ∷ 1 ∷ 0 ∷ 3 ∷ 0 ∷ 9 ∷ 0 ∷ rec 0 0 0 0 (rec 0 0 0 0 [])))))

-- 4 goes into 1 and 5 into 6; 5 is a child of 3, so its copy gets 3's parent, and 4's parent follows
unfoldable pub washed : List ℕ
washed = rec 3 64 0 6 (rec 1 1 0 0 (rec 5 0 0 2 (rec 3 64 0 5 (1 ∷ 2 ∷ 1 ∷ 0 ∷ 3 ∷ 0 ∷ 9 ∷ 0 ∷ 1 ∷ 2 ∷ 1 ∷ 0 ∷ 2 ∷ 0 ∷ 9 ∷ 0 ∷ rec 0 0 0 0 []))))

pub copies-two : copy_answer washing 3 ≡ done 2
unfolding computing_copies washing
copies-two = refl

pub copies-beside : copy_after washing 3 ≡ washed
unfolding computing_copies washing washed
copies-beside = refl

-- n[!(m[out n])]
unfoldable pub before_copy : Process
before_copy = ambient 1 0 · replication · ambient 2 1 · cap cap-out 64 0 · nothing

-- n[m[out n] | !(m[out n])]
unfoldable pub after_copy : Process
after_copy = ambient 1 0 · (ambient 2 1 · cap cap-out 64 0 · nothing ‖ replication · ambient 2 1 · cap cap-out 64 0 · nothing)

read-before : Reads (records washing) 0 before_copy
unfolding computing_copies washing before_copy
read-before = read 2 refl (says-ambient refl refl refl) (read 3 refl (says-replication refl) (read 5 refl (says-ambient refl refl refl) (read 4 refl (says-cap refl refl refl) end)))

read-after : Reads (records washed) 0 after_copy
unfolding computing_copies washed after_copy
read-after = read 2 refl (says-ambient refl refl refl) (both (read 6 refl (says-ambient refl refl refl) (read 1 refl (says-cap refl refl refl) end))
    (read 3 refl (says-replication refl) (read 5 refl (says-ambient refl refl refl) (read 4 refl (says-cap refl refl refl) end))))

-- !P = P | !P, from left to right
pub published-copy : Means (records washing) before_copy × Means (records washed) after_copy
unfolding computing_copies washing washed before_copy after_copy read-before read-after times one
published-copy = (means-by _ read-before refl, means-by _ read-after refl)

-- what stands beneath a replication is inactive, its copy isn't; a replication is no actor and no partner
pub inactive-beneath : number (step_answer washing 4 2) ≡ 11
unfolding computing_copies washing
inactive-beneath = refl

pub active-beside : step_answer washed 1 2 ≡ done tt
unfolding computing_copies washed
active-beside = refl

pub no-actor : number (step_answer washing 3 2) ≡ 10
unfolding computing_copies washing
no-actor = refl

pub no-partner : number (step_answer washed 1 3) ≡ 12
unfolding computing_copies washed
no-partner = refl

-- ---- refusals

-- 17: number 0, over the count, no replication
pub no-replication : (copy_answer washing 0 ≡ refused 17 0) × (copy_answer washing 8 ≡ refused 17 0) × (copy_answer washing 2 ≡ refused 17 0)
unfolding computing_copies washing
no-replication = (refl, refl, refl)

-- a replication beneath another, and with it an ambient; nothing is gone
unfoldable pub nested_washing : List ℕ
nested_washing = rec 5 0 0 0 (rec 5 0 0 1 (rec 1 3 2 2 []))

-- 17: one that isn't active, though there is no room either; 18: the gone records are fewer
pub not-active : copy_answer nested_washing 2 ≡ refused 17 0
unfolding computing_copies nested_washing
not-active = refl

pub no-room : (copy_answer nested_washing 1 ≡ refused 18 0) × (copy_after nested_washing 1 ≡ nested_washing)
unfolding computing_copies nested_washing
no-room = (refl, refl)

-- with nothing beneath nothing is copied, even without room
pub none-copied : copy_answer (rec 5 0 0 0 []) 1 ≡ done 0
unfolding computing_copies
none-copied = refl

-- ---- copies in a list of events

-- below the boundary 1 the high ambient 2, in it the replication 3; in the open the replication 5 with the ambient 6 beneath it
unfoldable pub shown_replication : List ℕ
shown_replication = rec 5 0 0 0 (rec 1 3 2 5 (rec 0 0 0 0 (rec 0 0 0 0 [])))

-- in the first bench the ambient 4 stands beneath 3
unfoldable pub hiding_x : List ℕ
hiding_x = rec 1 1 0 0 (rec 1 2 1 1 (rec 5 0 0 2 (rec 1 4 4 3 shown_replication)))

unfoldable pub hiding_y : List ℕ
hiding_y = rec 1 1 0 0 (rec 1 2 1 1 (rec 5 0 0 2 (rec 0 0 0 0 shown_replication)))

unfoldable pub bits_copied : List ℕ
unfolding computing
bits_copied = place_i 0 1 ∷ place_i 1 2 ∷ place_i 2 4 ∷ place_i 0 3 ∷ place_h 1 0 ∷ place_h 2 1 ∷ place_h 4 4 ∷ place_h 3 2 ∷ place_s 2 ∷ []

abbrev pub table_copied : List ℕ
table_copied = table_of bits_copied

-- a copy by the hidden replication, then one by the shown
unfoldable pub copies : List Event
copies = copying-of 3 ∷ copying-of 5 ∷ []

-- both are done, in both benches: "the hidden part may use up the gone records"
unfoldable pub left_x : List ℕ
left_x = rec 1 1 0 0 (rec 1 2 1 1 (rec 5 0 0 2 (rec 1 4 4 3 (rec 5 0 0 0 (rec 1 3 2 5 (rec 1 4 4 2 (rec 1 3 2 0 [])))))))

unfoldable pub left_y : List ℕ
left_y = rec 1 1 0 0 (rec 1 2 1 1 (rec 5 0 0 2 (rec 1 3 2 0 shown_replication)))

pub after-X : after hiding_x copies ≡ left_x
unfolding computing_copies hiding_x shown_replication copies left_x
after-X = refl

pub after-Y : after hiding_y copies ≡ left_y
unfolding computing_copies hiding_y shown_replication copies left_y
after-Y = refl

small-copied : all_below 12352 bits_copied ≡ true
unfolding computing all_below bits_copied
small-copied = refl

accepted-copied : (s : List ℕ) → validity s ≡ pass → holds permit_all classes (records s) (parts (is_in bits_copied)) ≡ true → check_answer s classes table_copied ≡ done tt
unfolding computing bits_copied formed
accepted-copied = accepting bits_copied small-copied classes refl refl

accepted-X : check_answer hiding_x classes table_copied ≡ done tt
unfolding computing shown_replication hiding_x bits_copied
accepted-X = accepted-copied hiding_x refl refl

accepted-Y : check_answer hiding_y classes table_copied ≡ done tt
unfolding computing shown_replication hiding_y bits_copied
accepted-Y = accepted-copied hiding_y refl refl

sealed : verdict_of (parts (is_in bits_copied)) classes ≡ Sealed
unfolding computing bits_copied
sealed = refl

alike : sheet (records hiding_x) (λ k. is_in bits_copied (place_s k)) ≡ sheet (records hiding_y) (λ k. is_in bits_copied (place_s k))
unfolding computing bits_copied shown_replication hiding_x hiding_y
alike = refl

-- the theorem at this pair
pub witness-copied : Noninterference classes table_copied hiding_x hiding_y copies
unfolding rec hiding_x hiding_y shown_replication
witness-copied = noninterference classes table_copied hiding_x hiding_y refl accepted-X accepted-Y (judging bits_copied small-copied classes hiding_x Sealed accepted-X sealed)
    (showing-alike bits_copied small-copied hiding_x hiding_y alike) copies

-- afterwards the ambient of label 3 shows in record 4 of the second bench alone
pub unlike : sheet (records (after hiding_x copies)) (λ k. is_in bits_copied (place_s k)) ≢ sheet (records (after hiding_y copies)) (λ k. is_in bits_copied (place_s k))
unfolding computing_copies bits_copied left_x left_y shown_replication
unlike e = let u : ◌≡◌ {A = ℕ} 0 1 = ap (λ l. (at l 4).kind) (rw (after-X, after-Y) at e) in absurd (omega arith)
