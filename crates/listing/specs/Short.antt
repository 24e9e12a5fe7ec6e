-- How long the text is: 1,024 lines of at most 15 bytes for the steps (two fields of five digits, an answer of at most 12),
-- at most 20 for line one and 28 for the last. A refusal's one line has at most 20.
use Rattle.std.specs.Prelude.{◌*◌, ◌≤◌, ℕ, length, Bool, false, true, List, [], ◌∷◌, ◌≡◌, refl}
use Rattle.std.proofs.Common.{length-append, ap, arith}
use Rattle.std.specs.Prelude.{Option, None, Some}
use Rattle.model.specs.Analysis.{Permit, permit_all}
use Rattle.model.specs.Calls.{screen_answer, screen_answers, screening}
use Rattle.model.proofs.Laws.Checks.{answer-done, need-pass, then-pass}
use Rattle.model.specs.Listing.{end_word, listing, refused_word, step_lines}
use Rattle.model.specs.Records.{records}
use Rattle.model.specs.Refusals.{Answer, content, done, pass, refused}
use Rattle.model.specs.Scripts.{Step, answers_of, outcomes, script_right, steps_in}
use Rattle.model.specs.Steps.{answer_of, decide, outcome, outcome_by, step_bytes}
use Rattle.model.specs.Numbers.{label_of}
use Rattle.model.specs.declared.Rec.{Rec}
use Rattle.model.specs.declared.Screen.{Screen}
use Rattle.text_put.specs.Digits.{digits-two}
use Rattle.text_put.specs.Laws.{by-length, by-short, line-few}
use Rattle.listing.specs.Laws.{counts-few, line_first, listing-parts, step-length, verdict-few}
use Rattle.listing.specs.Lines.{shown, step_line}
use Rattle.scripts.specs.Runs.{length-steps, script-of}
use Rattle.model.specs.declared.Capability.{Capability}

-- an answer is 0, 10, 11 or 12
decide-few : (k : Capability) (r f : Bool) → answer_of (decide k r f) ≤ 12
unfolding answer_of decide
decide-few k false f = omega arith
decide-few k true false = omega arith
decide-few k true true = omega arith

by-few : (permit : Permit) (k : Option Capability) (its : List Rec) (c b : ℕ) → answer_of (outcome_by permit k its c b) ≤ 12
unfolding answer_of outcome_by
by-few permit None its c b = omega arith
by-few permit (Some k) its c b = decide-few k _ _

pub answer-few : (permit : Permit) (its : List Rec) (c b : ℕ) → answer_of (outcome permit its c b) ≤ 12
unfolding outcome
answer-few permit its c b = by-few permit _ its c b

-- a step's line
line-short : (x y a : ℕ) → a ≤ 12 → length (step_line x y a) ≤ 15
line-short x y a h = omega (arith, step-length x y a, by-short x 32, by-short y 32, by-length a 10, digits-two a (omega arith))

-- the lines of all steps
lines-short : (s : List ℕ) (ms : List Step) → length (step_lines ms (answers_of permit_all s ms) []) ≤ 15 * length ms
unfolding answers_of outcomes step_lines
lines-short s [] = omega arith
lines-short s (m ∷ ms) =
    let a = answer_of (outcome permit_all (records s) m.actor m.partner) in
    let next = step_bytes permit_all s m.actor m.partner in
    omega (arith, ap length (line_first m ms a (answers_of permit_all next ms)), length-append (step_line m.actor m.partner a) (step_lines ms (answers_of permit_all next ms) []), line-short m.actor m.partner a (answer-few permit_all (records s) m.actor m.partner), lines-short next ms)

-- a screen that is done had a right script, and its steps' lines are short
module _ (s policy z answers : List ℕ) (x : Screen) (d : screen_answer s policy z answers ≡ done x) where
  passes : screening s policy z answers ≡ pass
  unfolding screen_answer
  passes = answer-done (screening s policy z answers) _ x d

  done-script : script_right z (length answers) ≡ true
  unfolding screening
  done-script = need-pass _ 13 0 (then-pass _ _ passes).1

  pub done-short : length (step_lines (steps_in z) (screen_answers s policy z answers) []) ≤ 15360
  unfolding screen_answers content
  done-short = rw (passes, content) (omega (arith, lines-short s (steps_in z), length-steps z, (script-of z (length answers) done-script).few))

-- the text of a screen that is done, and of one that is refused
done_all : (s policy z answers : List ℕ) (x : Screen) → screen_answer s policy z answers ≡ done x → length (listing (done x) (steps_in z) (screen_answers s policy z answers)) ≤ 15408
unfolding end_word
done_all s policy z answers x d =
    let n = label_of x.verdict in
    let l = step_lines (steps_in z) (screen_answers s policy z answers) [] in
    rw (← listing-parts x (steps_in z) (screen_answers s policy z answers))
    (simp length-append (omega (arith, verdict-few x.verdict, line-few n x.ones, done-short s policy z answers x d, counts-few x)))

refused-few : (n r : ℕ) (ms : List Step) (answers : List ℕ) → length (listing (refused n r) ms answers) ≤ 15408
unfolding listing refused_word
refused-few n r ms answers = omega (arith, line-few n r)

-- the whole text
pub shown-short : (s policy z answers : List ℕ) → length (shown s policy z answers) ≤ 15408
unfolding shown
shown-short s policy z answers = go (screen_answer s policy z answers) refl
  where
    go : (a : Answer Screen) → screen_answer s policy z answers ≡ a → length (listing a (steps_in z) (screen_answers s policy z answers)) ≤ 15408
    go (done x) e = done_all s policy z answers x e
    go (refused n r) e = refused-few n r (steps_in z) (screen_answers s policy z answers)

pub shown-fits : (s policy z answers : List ℕ) {n : ℕ} → n ≡ length (shown s policy z answers) → n ≤ 15408
shown-fits s policy z answers e = omega (arith, shown-short s policy z answers)
