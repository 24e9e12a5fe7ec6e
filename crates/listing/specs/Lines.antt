-- The parts that hubscreen's lines are put together of, each without its word.
use Rattle.std.specs.Prelude.{ℕ, List, []}
use Rattle.model.specs.Calls.{screen_answer, screen_answers}
use Rattle.model.specs.Listing.{field, last_field, listing}
use Rattle.model.specs.Scripts.{steps_in}
use Rattle.model.specs.declared.Screen.{Screen}

-- "actor, partner, answer": the line of one step
unfoldable pub step_line : ℕ → ℕ → ℕ → List ℕ
step_line actor partner answer = field actor (field partner (last_field answer []))

-- "ins, outs, opens done, records not gone"
unfoldable pub count_fields : Screen → List ℕ
count_fields x = field x.counts.ins (field x.counts.outs (field x.counts.opens (last_field x.records [])))

-- what hubscreen writes of an itinerary, a policy and a script with room for its answers
unfoldable pub shown : List ℕ → List ℕ → List ℕ → List ℕ → List ℕ
shown s policy script answers = listing (screen_answer s policy script answers) (steps_in script) (screen_answers s policy script answers)
