-- Published reductions as itineraries: example B's step, and source document 003's Example 1,
-- A[p[out A.in B]] | B[open p], in three steps to A[] | B[]. That a reading has each record exactly once is computed.
use Rattle.std.specs.Prelude.{suc, ℕ, eqb, length, not, true, List, [], ◌∷◌, ◌≡◌, refl}
use Rattle.std.proofs.Common.{eqb-true, ne_eqb, ap, arith}
use Rattle.examples.specs.Claims.{itinerary_b, rec}
use Rattle.examples.specs.Listed.{computing}
use Rattle.model.specs.Analysis.{permit_all}
use Rattle.model.specs.Calls.{step_after, step_answer}
use Rattle.model.specs.Finite.{every, unequal}
use Rattle.model.proofs.Laws.Adequacy.{follows-rules}
use Rattle.model.proofs.Laws.Finite.{every-use}
use Rattle.model.proofs.Laws.WellFormed.{alive-in}
use Rattle.model.specs.Noninterference.{Event, after, given, single}
use Rattle.model.specs.Processes.{Chain, Congruent, Means, Process, Reads, Reduces, ◌·◌, ◌‖◌, ambient, both, cap, done_in, end, leaves, nothing, one, read, says-ambient, says-cap, times}
use Rattle.model.specs.Records.{at, records}
use Rattle.model.specs.Refusals.{done}
use Rattle.model.specs.declared.Rec.{Rec}
use Rattle.model.specs.declared.Capability.TheVariants.{In as cap-in, Open as cap-open, Out as cap-out}

-- a reading is the itinerary where a test finds each record that is not gone exactly once
pub means-by : (its : List Rec) {P : Process} (r : Reads its 0 P) → every (suc (length its)) (λ i. unequal (at its i).kind 0) (λ i. eqb (times r i) 1) ≡ true → Means its P
means-by its r e = record {
  reading = r;
  once = λ i l. eqb-true _ 1 (every-use _ _ (suc (length its)) e i (omega (arith, alive-in its i l)) (ap not (ne_eqb _ 0 l)));
}

-- B: n[m[out n]], with n the boundary of name 0
unfoldable pub start_b : Process
start_b = ambient 1 0 · (ambient 2 1 · (cap cap-out 64 0 · nothing ‖ nothing) ‖ nothing)

-- m[] | n[]
unfoldable pub end_b : Process
end_b = ambient 2 1 · (nothing ‖ nothing) ‖ ambient 1 0 · nothing

read_b : Reads (records itinerary_b) 0 start_b
unfolding computing start_b
read_b = read 1 refl (says-ambient refl refl refl) (both (read 2 refl (says-ambient refl refl refl) (both (read 3 refl (says-cap refl refl refl) end) end)) end)

read_b' : Reads (records (step_after itinerary_b 3 1)) 0 end_b
unfolding computing end_b
read_b' = both (read 2 refl (says-ambient refl refl refl) (both end end)) (read 1 refl (says-ambient refl refl refl) end)

-- "Step (3,1)" of B is a reduction by the published rule of out
pub published-B : Means (records itinerary_b) start_b × Reduces permit_all 0 start_b end_b × (step_answer itinerary_b 3 1 ≡ done tt) × Means (records (step_after itinerary_b 3 1)) end_b
unfolding computing start_b end_b read_b read_b' times one
published-B = (means-by _ read_b refl, leaves refl, refl, means-by _ read_b' refl)

-- A is name 1, p is name 2, B is name 3
unfoldable pub packet : List ℕ
packet = rec 1 1 1 0 (rec 1 2 2 1 (rec 3 64 1 2 (rec 2 65 3 3 (rec 1 3 3 0 (rec 4 66 2 5 [])))))

-- p leaves A, enters B, and is opened there
unfoldable pub journey : List Event
journey = single 3 1 ∷ single 4 5 ∷ single 6 2 ∷ []

-- "A[p[out A.in B]] | B[open p]"
unfoldable pub departure : Process
departure = ambient 1 1 · ambient 2 2 · cap cap-out 64 1 · cap cap-in 65 3 · nothing ‖ ambient 3 3 · cap cap-open 66 2 · nothing

-- "A[] | B[]"
unfoldable pub arrival : Process
arrival = ambient 1 1 · nothing ‖ ambient 3 3 · nothing

read-departure : Reads (records packet) 0 departure
unfolding computing packet departure
read-departure = both (read 1 refl (says-ambient refl refl refl) (read 2 refl (says-ambient refl refl refl) (read 3 refl (says-cap refl refl refl) (read 4 refl (says-cap refl refl refl) end))))
    (read 5 refl (says-ambient refl refl refl) (read 6 refl (says-cap refl refl refl) end))

read-arrival : Reads (records (after packet journey)) 0 arrival
unfolding computing packet journey arrival
read-arrival = both (read 1 refl (says-ambient refl refl refl) end) (read 5 refl (says-ambient refl refl refl) end)

-- all three steps are done, and lead from the one process to the other
pub published-journey : Means (records packet) departure × (given packet journey ≡ 0 ∷ 0 ∷ 0 ∷ []) × Means (records (after packet journey)) arrival
unfolding computing packet journey departure arrival read-departure read-arrival times one
published-journey = (means-by _ read-departure refl, refl, means-by _ read-arrival refl)

-- three reductions, to a process congruent to A[] | B[]
pub published-chain : (Q : Process) × Chain permit_all 3 departure Q × Congruent Q arrival
unfolding computing packet journey done_in
published-chain =
    let w = (follows-rules packet 6 refl).chained published-journey.0 journey refl in
    (w.0, w.1, (follows-rules (after packet journey) 6 refl).unique w.2 published-journey.2)
