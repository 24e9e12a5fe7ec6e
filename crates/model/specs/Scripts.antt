-- Document 01, "Script run". 01's "script" is a list of bytes z.
use Rattle.std.specs.Prelude.{◌%◌, ◌*◌, ◌+◌, ◌/◌, ℕ, eqb, leb, length, Bool, ◌&&◌, false, true, List, [], ◌∷◌, map}
use Rattle.model.specs.Analysis.{Permit}
use Rattle.model.specs.Finite.{unequal, tabulate, tally}
use Rattle.model.specs.Records.{Capability, at, byte, cap-in, cap-open, cap-out, records, word}
use Rattle.model.specs.Steps.{Outcome, answer_of, done-by, outcome, step_bytes, refused-with}
use Rattle.model.specs.declared.Counts.{Counts}
use Rattle.model.specs.declared.Rec.{Rec}

-- "A step names an actor and a partner", both 01's terms
pub record Step : Type 0 where
  pub actor : ℕ
  pub partner : ℕ

-- "steps of four bytes: actor, partner"
unfoldable pub step_in : List ℕ → ℕ → Step
step_in z k = record { actor = word (byte z (4 * k)) (byte z (4 * k + 1)); partner = word (byte z (4 * k + 2)) (byte z (4 * k + 3)) }

-- the steps of a script, in order
unfoldable pub steps_in : List ℕ → List Step
steps_in z = tabulate 0 (length z / 4) (step_in z)

-- 13: "script length no multiple of 4, over 4,096, or answers not one byte a step"
unfoldable pub script_right : List ℕ → ℕ → Bool
script_right z room = eqb (length z % 4) 0 && (leb (length z) 4096 && eqb room (length z / 4))

-- "The run does each in order": the itinerary after the steps
unfoldable pub after_list : Permit → List ℕ → List Step → List ℕ
after_list permit s [] = s
after_list permit s (m ∷ ms) = after_list permit (step_bytes permit s m.actor m.partner) ms

-- what becomes of each step
unfoldable pub outcomes : Permit → List ℕ → List Step → List Outcome
outcomes permit s [] = []
outcomes permit s (m ∷ ms) = outcome permit (records s) m.actor m.partner ∷ outcomes permit (step_bytes permit s m.actor m.partner) ms

-- "writes one answer byte for each"
unfoldable pub answers_of : Permit → List ℕ → List Step → List ℕ
answers_of permit s ms = map answer_of (outcomes permit s ms)

-- "2 in, 3 out, 4 open"
unfoldable pub kind_of : Capability → ℕ
kind_of cap-in = 2
kind_of cap-out = 3
kind_of cap-open = 4

-- 1 for a step of this kind that was done
unfoldable pub done_by : ℕ → Outcome → ℕ
done_by kind (refused-with n) = 0
done_by kind (done-by k) = elim (eqb kind (kind_of k)) [ true ↦ 1 | false ↦ 0 ]

-- how many steps of a kind were done
unfoldable pub how_many : ℕ → List Outcome → ℕ
how_many kind [] = 0
how_many kind (o ∷ os) = done_by kind o + how_many kind os

-- "It returns how many in, out and open steps were done."
unfoldable pub counts_of : List Outcome → Counts
counts_of os = record { ins = how_many 2 os; outs = how_many 3 os; opens = how_many 4 os }

-- "Records not gone"
unfoldable pub not_gone : List Rec → ℕ
not_gone its = tally (λ i. unequal (at its i).kind 0) (length its)
