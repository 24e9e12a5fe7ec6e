-- Document 02, Job 3: "what the hub can do next", by the step's own outcome.
use Rattle.std.specs.Prelude.{◌%◌, ◌/◌, ℕ, eqb, length, List, [], ◌∷◌}
use Rattle.model.specs.Analysis.{Permit}
use Rattle.model.specs.Finite.{joined, summed, tally}
use Rattle.model.specs.Scripts.{Step}
use Rattle.model.specs.Steps.{Outcome, answer_of, done-by, outcome, refused-with}
use Rattle.model.specs.declared.Rec.{Rec}
use Rattle.model.specs.declared.Tally.{Tally}

-- a pair of actor and partner "whose step would be done"
unfoldable pub listed : Outcome → ℕ → ℕ → List Step
listed (refused-with n) c b = []
listed (done-by k) c b = record { actor = c; partner = b } ∷ []

-- the pairs of one actor, by partner
unfoldable pub moves_of : Permit → List Rec → ℕ → List Step
moves_of permit its c = joined 1 (length its) (λ b. listed (outcome permit its c b) c b)

-- "every pair of actor and partner whose step would be done, each once, by actor and then partner"
unfoldable pub moves : Permit → List Rec → List Step
moves permit its = joined 1 (length its) (moves_of permit its)

-- "four bytes each": actor and partner, as a script has them; "Numbers of two bytes are little-endian."
unfoldable pub list_bytes : List Step → List ℕ
list_bytes [] = []
list_bytes (m ∷ ms) = m.actor % 256 ∷ m.actor / 256 ∷ m.partner % 256 ∷ m.partner / 256 ∷ list_bytes ms

-- how many of an actor's pairs would answer x
unfoldable pub answering_of : Permit → List Rec → ℕ → ℕ → ℕ
answering_of permit its x c = tally (λ b. eqb (answer_of (outcome permit its c b)) x) (length its)

-- "how many of all pairs from 1 to the record count would answer" x
unfoldable pub answering : Permit → List Rec → ℕ → ℕ
answering permit its x = summed (answering_of permit its x) (length its)

-- "a tally of how many .. would answer 0, 10, 11 and 12", from how many would answer each number
unfoldable pub tally_by : (ℕ → ℕ) → Tally
tally_by f = record { done = f 0; no_capability = f 10; inactive = f 11; unfit = f 12 }

-- the tally "of all pairs"
unfoldable pub tally_of : Permit → List Rec → Tally
tally_of permit its = tally_by (answering permit its)
