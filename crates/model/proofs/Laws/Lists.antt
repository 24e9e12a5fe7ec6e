-- A list of steps, run at once or one by one; what a run writes at each place. A copy is no step, so what goes by steps is said of
-- lists without copying.
use Prim.Native.Nat.{◌<◌, suc, zero, ℕ}
use Rattle.std.specs.Prelude.{get_or, length, replicate, take, Bool, ◌≡◌}
use Rattle.std.proofs.Math.ListN.{length-replicate}
use Rattle.std.proofs.Math.Bool.{false, true}
use mathlib.Core.List.{List, [], ◌++◌, ◌∷◌, map}
use Rattle.std.proofs.Common.{true≢false, ◌∙◌, ap₂, sym, arith}
use Rattle.std.proofs.Math.Path.{ap, refl}
use Rattle.model.specs.Analysis.{Permit, permit_all}
use Rattle.model.specs.Calls.{copy_after, outcome_check, run_after, run_answers, running, step_after, step_answer, stepping}
use Rattle.model.proofs.Laws.Done.{list-valid, step-valid}
use Rattle.model.specs.Noninterference.{Event, after, after_event, after_steps, all_steps, copying, given, given_by, kept, script, single, steps_of, without_copying}
use Rattle.model.specs.Records.{records}
use Rattle.model.specs.Refusals.{and_then, answer, content, need, number, pass, refuse}
use Rattle.model.specs.Scripts.{Step, after_list, answers_of, steps_in, outcomes, script_right}
use Rattle.model.specs.Steps.{Outcome, answer_of, done-by, outcome, step_bytes, refused-with}
use Rattle.model.specs.Validity.{validity}

module _ (permit : Permit) where
  pub list-append : (s : List ℕ) (ms ns : List Step) → after_list permit s (ms ++ ns) ≡ after_list permit (after_list permit s ms) ns
  unfolding after_list
  list-append s [] ns = refl
  list-append s (m ∷ ms) ns = list-append (step_bytes permit s m.actor m.partner) ms ns

  outcomes-append : (s : List ℕ) (ms ns : List Step) → outcomes permit s (ms ++ ns) ≡ outcomes permit s ms ++ outcomes permit (after_list permit s ms) ns
  unfolding after_list outcomes
  outcomes-append s [] ns = refl
  outcomes-append s (m ∷ ms) ns = ap (λ l. outcome permit (records s) m.actor m.partner ∷ l) (outcomes-append (step_bytes permit s m.actor m.partner) ms ns)

  map-append : (os ps : List Outcome) → map answer_of (os ++ ps) ≡ map answer_of os ++ map answer_of ps
  map-append [] ps = refl
  map-append (o ∷ os) ps = ap (λ l. answer_of o ∷ l) (map-append os ps)

  pub answers-append : (s : List ℕ) (ms ns : List Step) → answers_of permit s (ms ++ ns) ≡ answers_of permit s ms ++ answers_of permit (after_list permit s ms) ns
  unfolding answers_of
  answers-append s ms ns = ap (map answer_of) (outcomes-append s ms ns) ∙ map-append (outcomes permit s ms) _

  -- the n-th answer is that of the n-th step, in the itinerary just before it
  pub answer_at : (s : List ℕ) (ms : List Step) (n : ℕ) → n < length ms → (m : Step) →
      get_or (answers_of permit s ms) n 0 ≡ answer_of (outcome permit (records (after_list permit s (take n ms))) (get_or ms n m).actor (get_or ms n m).partner)
  unfolding answers_of outcomes after_list
  answer_at s [] n l m = absurd (omega arith)
  answer_at s (o ∷ ms) zero l m = refl
  answer_at s (o ∷ ms) (suc n) l m = answer_at (step_bytes permit s o.actor o.partner) ms n (omega arith) m

-- a call on a valid itinerary does what stands behind its checks
module _ (s : List ℕ) (v : validity s ≡ pass) where
  pub step-after : (c b : ℕ) → step_after s c b ≡ step_bytes permit_all s c b
  unfolding step_after content
  step-after c b = rw (v, content)

  outcome-number : (o : Outcome) → number (answer {A = Unit {0}} (outcome_check o) tt) ≡ answer_of o
  unfolding outcome_check answer answer_of
  outcome-number (refused-with n) = refl
  outcome-number (done-by k) = refl

  pub step-number : (c b : ℕ) → number (step_answer s c b) ≡ answer_of (outcome permit_all (records s) c b)
  unfolding step_answer stepping and_then
  step-number c b = rw (v, and_then) (outcome-number (outcome permit_all (records s) c b))

  run-check : (z : List ℕ) (room : ℕ) → running s z (replicate room 0) ≡ need (script_right z room) 13 0
  unfolding running and_then
  run-check z room = rw (v, and_then, length-replicate {A = ℕ} room 0)

  run-event : (z : List ℕ) (room : ℕ) (t : Bool) → script_right z room ≡ t →
      (run_after s z (replicate room 0) ≡ after_list permit_all s (kept t (steps_in z))) × (kept t (run_answers s z (replicate room 0)) ≡ answers_of permit_all s (kept t (steps_in z)))
  unfolding run_after run_answers content need kept after_list answers_of outcomes
  run-event z room true e = let c : running s z (replicate room 0) ≡ pass = run-check z room ∙ ap (λ x. need x 13 0) e in (rw (c, content), rw (c, content))
  run-event z room false e = let c : running s z (replicate room 0) ≡ refuse 13 0 = run-check z room ∙ ap (λ x. need x 13 0) e in (rw (c, content), refl)

  -- an event that is no copy is its steps in order
  pub event-after : (e : Event) → without_copying (e ∷ []) ≡ true → after_event s e ≡ after_list permit_all s (steps_of e)
  unfolding after_event steps_of after_list without_copying
  event-after (single c b) w = step-after c b
  event-after (script z room) w = (run-event z room (script_right z room) refl).0
  event-after (copying n) w = absurd (true≢false (sym w))

  -- a copy has no answers
  pub event-given : (e : Event) → given_by s e ≡ answers_of permit_all s (steps_of e)
  unfolding given_by steps_of answers_of outcomes
  event-given (single c b) = ap (λ n. n ∷ []) (step-number c b)
  event-given (script z room) = (run-event z room (script_right z room) refl).1
  event-given (copying n) = refl

-- what steps in order and a copy keep, every list of events keeps
module _ (P : List ℕ → Type 0) (valid : (s : List ℕ) → P s → validity s ≡ pass) (by-steps : (ms : List Step) (s : List ℕ) → P s → P (after_list permit_all s ms))
    (by-copy : (s : List ℕ) (c : ℕ) → P s → P (copy_after s c)) where
  event-keeps : (e : Event) (s : List ℕ) → P s → P (after_event s e)
  unfolding after_event without_copying
  event-keeps (single c b) s p = rw (event-after s (valid s p) (single c b) refl) (by-steps (steps_of (single c b)) s p)
  event-keeps (script z room) s p = rw (event-after s (valid s p) (script z room) refl) (by-steps (steps_of (script z room)) s p)
  event-keeps (copying n) s p = by-copy s n p

  pub events-keep : (es : List Event) (s : List ℕ) → P s → P (after s es)
  unfolding after
  events-keep [] s p = p
  events-keep (e ∷ es) s p = events-keep es (after_event s e) (event-keeps e s p)

-- a list without copying has none in its first event, and none behind it
pub first-without : (e : Event) (es : List Event) → without_copying (e ∷ es) ≡ true → without_copying (e ∷ []) ≡ true
unfolding without_copying
first-without (single c b) es w = refl
first-without (script z room) es w = refl
first-without (copying n) es w = w

pub rest-without : (e : Event) (es : List Event) → without_copying (e ∷ es) ≡ true → without_copying es ≡ true
unfolding without_copying
rest-without (single c b) es w = w
rest-without (script z room) es w = w
rest-without (copying n) es w = absurd (true≢false (sym w))

-- a list of events is its steps in order
pub after-steps : (es : List Event) (s : List ℕ) → validity s ≡ pass → without_copying es ≡ true → after s es ≡ after_list permit_all s (all_steps es)
unfolding after all_steps after_list
after-steps [] s v w = refl
after-steps (e ∷ es) s v w =
    ap (λ x. after x es) (event-after s v e (first-without e es w))
    ∙ after-steps es (after_list permit_all s (steps_of e)) (list-valid permit_all (steps_of e) s v) (rest-without e es w)
    ∙ sym (list-append permit_all s (steps_of e) (all_steps es))

pub given-steps : (es : List Event) (s : List ℕ) → validity s ≡ pass → without_copying es ≡ true → given s es ≡ answers_of permit_all s (all_steps es)
unfolding given all_steps answers_of outcomes
given-steps [] s v w = refl
given-steps (e ∷ es) s v w =
    ap₂ (λ x y. x ++ given y es) (event-given s v e) (event-after s v e (first-without e es w))
    ∙ ap (λ x. answers_of permit_all s (steps_of e) ++ x)
    (given-steps es (after_list permit_all s (steps_of e)) (list-valid permit_all (steps_of e) s v) (rest-without e es w))
    ∙ sym (answers-append permit_all s (steps_of e) (all_steps es))

-- single steps by the call
pub single-steps : (ms : List Step) (s : List ℕ) → validity s ≡ pass → after_steps s ms ≡ after_list permit_all s ms
unfolding after_steps after_list
single-steps [] s v = refl
single-steps (m ∷ ms) s v = ap (λ x. after_steps x ms) (step-after s v m.actor m.partner) ∙ single-steps ms (step_bytes permit_all s m.actor m.partner) (step-valid permit_all s m.actor m.partner v)
