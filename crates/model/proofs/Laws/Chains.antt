-- Lists of steps and chains of reductions. A step that is done is one reduction, by `step-reduces`, and one that is refused
-- leaves the records as they are and answers 10 to 12, so not 0: a list of steps is a chain of as many reductions as answers
-- are 0, by induction on the list. The other way `reduction-steps` gives a step for the first reduction of a chain, and the
-- chain's rest starts from the process that this step leaves: by induction on the chain.
use Prim.Native.Nat.{suc, zero, ℕ}
use Rattle.std.specs.Prelude.{replicate, ◌≡◌}
use mathlib.Core.List.{List, [], ◌∷◌}
use Rattle.std.proofs.Math.Path.{ap₂, refl}
use Rattle.std.proofs.Common.{arith}
use Rattle.model.specs.Analysis.{Permit, permit_all}
use Rattle.model.proofs.Laws.Bytes.{valid-wf}
use Rattle.model.proofs.Laws.Done.{step-records, step-valid, refused-number}
use Rattle.model.proofs.Laws.Reductions.{reduction-steps, step-reduces}
use Rattle.model.specs.Processes.{Chain, Means, Process, Reduces, alike, beside, done_in, ended, enters, leaves, opens, reduced, within}
use Rattle.model.specs.Records.{Capability, records}
use Rattle.model.specs.Refusals.{pass}
use Rattle.model.specs.Scripts.{Step, after_list, answers_of, outcomes}
use Rattle.model.specs.Steps.{Outcome, answer_of, done-by, outcome, rewritten, step_bytes, refused-with}
use Rattle.model.specs.Validity.{validity}

-- where all is permitted, the label of the ambient around a reduction plays no part
pub reduces-anywhere : {w v : ℕ} {P Q : Process} → Reduces permit_all w P Q → Reduces permit_all v P Q
reduces-anywhere (within e) = within e
reduces-anywhere (beside e) = beside (reduces-anywhere e)
reduces-anywhere (alike p e q) = alike p (reduces-anywhere e) q
reduces-anywhere (enters u) = enters u
reduces-anywhere (leaves u) = leaves u
reduces-anywhere (opens u) = opens refl

-- a process at the end of a chain that starts at P, one reduction for each answer that is 0, and it is the itinerary's
pub record Chained (permit : Permit) (P : Process) (answers s : List ℕ) : Type 0 where
  pub last : Process
  pub chain : Chain permit (done_in answers) P last
  pub means : Means (records s) last

module _ {permit : Permit} where
  -- by what becomes of the first step; the rest starts from any process that the step leaves
  chain-step : (o : Outcome) (s : List ℕ) (c b : ℕ) → validity s ≡ pass → outcome permit (records s) c b ≡ o → {P : Process} → Means (records s) P →
      (answers t : List ℕ) → ((Q : Process) → Means (records (step_bytes permit s c b)) Q → Chained permit Q answers t) → Chained permit P (answer_of o ∷ answers) t
  unfolding answer_of done_in step_bytes rewritten
  chain-step (refused-with zero) s c b v e m answers t rest = absurd (omega (arith, (refused-number permit (records s) c b zero e).0))
  chain-step (refused-with (suc n)) s c b v e {P} m answers t rest = let w = rest P (rw e m) in record { last = w.last; chain = w.chain; means = w.means }
  chain-step (done-by k) s c b v e m answers t rest =
      let r = step-reduces (valid-wf s v) m k c b e in
      let w = rest r.0 (rw (step-records permit s c b) r.2) in
      record { last = w.last; chain = reduced r.1 w.chain; means = w.means }

  -- a list of steps is a chain of reductions, one for each that is done
  pub chain-list : (ms : List Step) (s : List ℕ) → validity s ≡ pass → {P : Process} → Means (records s) P →
      Chained permit P (answers_of permit s ms) (after_list permit s ms)
  unfolding answers_of outcomes after_list done_in
  chain-list [] s v {P} m = record { last = P; chain = ended; means = m }
  chain-list (x ∷ ms) s v m = chain-step _ s x.actor x.partner v refl m _ _ (λ Q w. chain-list ms _ (step-valid permit s x.actor x.partner v) w)

-- a list of steps, all done, from an itinerary to one that is the process Q
pub record Performs (permit : Permit) (s : List ℕ) (n : ℕ) (Q : Process) : Type 0 where
  pub steps : List Step
  pub answers : answers_of permit s steps ≡ replicate n 0
  pub means : Means (records (after_list permit s steps)) Q

module _ {permit : Permit} where
  -- one step more before the others
  perform : (s : List ℕ) (c b : ℕ) (k : Capability) → outcome permit (records s) c b ≡ done-by k → {n : ℕ} {Q : Process} → Performs permit (step_bytes permit s c b) n Q → Performs permit s (suc n) Q
  unfolding answers_of outcomes after_list answer_of
  perform s c b k e w = record { steps = record { actor = c; partner = b } ∷ w.steps; answers = ap₂ (λ o rest. answer_of o ∷ rest) e w.answers; means = w.means }

  -- a chain of reductions is a list of as many steps, each done
  pub perform-chain : {n : ℕ} {P Q : Process} → Chain permit n P Q → (s : List ℕ) → validity s ≡ pass → Means (records s) P → Performs permit s n Q
  unfolding answers_of outcomes after_list
  perform-chain ended s v m = record { steps = []; answers = refl; means = m }
  perform-chain (reduced e es) s v m =
      let w = reduction-steps (valid-wf s v) m e in
      perform s w.1 w.2 w.0 w.3
      (perform-chain es (step_bytes permit s w.1 w.2) (step-valid permit s w.1 w.2 v) (rw (step-records permit s w.1 w.2) w.4))
