-- The tally and the list as they grow: an actor's own, up to an actor, up to a partner.
use Rattle.std.specs.Prelude.{◌+◌, ◌-◌, ◌<◌, ℕ, List, [], ◌∷◌}
use Rattle.model.specs.Analysis.{permit_all}
use Rattle.model.specs.Finite.{joined, summed}
use Rattle.model.specs.MoveList.{answering_of, list_bytes, listed, tally_by}
use Rattle.model.specs.Scripts.{Step}
use Rattle.model.specs.Steps.{outcome}
use Rattle.model.specs.declared.Cause.{Cause}
use Rattle.model.specs.declared.Cause.TheVariants as cause
use Rattle.model.specs.declared.Rec.{Rec}
use Rattle.model.specs.declared.Tally.{Tally}

-- one pair
unfoldable pub pair : ℕ → ℕ → List Step
pair c b = record { actor = c; partner = b } ∷ []

-- the tally of one actor's pairs
unfoldable pub actor_tally : List Rec → ℕ → Tally
actor_tally its c = tally_by (λ x. answering_of permit_all its x c)

-- the tally of the first m actors' pairs
unfoldable pub rows_to : List Rec → ℕ → Tally
rows_to its m = tally_by (λ x. summed (answering_of permit_all its x) m)

-- the tally of n pairs that are all answered alike: with 10 for that cause, else with 11
unfoldable pub all_refused : Cause → ℕ → Tally
all_refused x n = elim x [
  | cause.Actor ↦ record { done = 0; no_capability = n; inactive = 0; unfit = 0 }
  | _ ↦ record { done = 0; no_capability = 0; inactive = n; unfit = 0 }
]

-- two tallies as one
unfoldable pub added : Tally → Tally → Tally
added t r = record { done = t.done + r.done; no_capability = t.no_capability + r.no_capability; inactive = t.inactive + r.inactive; unfit = t.unfit + r.unfit }

-- each sum of theirs is a number of 32 bits
pub record Roomy (t r : Tally) : Type 0 where
  pub done : t.done + r.done < 4294967296
  pub no_capability : t.no_capability + r.no_capability < 4294967296
  pub inactive : t.inactive + r.inactive < 4294967296
  pub unfit : t.unfit + r.unfit < 4294967296

-- the bytes of the lists of pairs that are left behind the first k of n
unfoldable pub left : (ℕ → List Step) → ℕ → ℕ → List ℕ
left f n k = list_bytes (joined (k + 1) (n - k) f)

-- an actor's pair with a partner, if it is listed
unfoldable pub listed_at : List Rec → ℕ → ℕ → List Step
listed_at its c b = listed (outcome permit_all its c b) c b
