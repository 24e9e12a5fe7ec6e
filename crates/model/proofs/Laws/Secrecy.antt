-- Demand 3, and subject reduction over lists of events, on bytes.
use Rattle.std.specs.Prelude.{◌<◌, ℕ, eqb, leb, get_or, length, take, false, true, ◌≢◌, ◌≡◌}
use Rattle.std.proofs.Common.{eq-eqb, eqb-true, ne_eqb, ◌∙◌, sym, arith}
use mathlib.Core.List.{List, [], ◌∷◌}
use Rattle.std.proofs.Math.Path.{ap, refl}
use Rattle.model.specs.Analysis.{Permit, permit_all}
use Rattle.model.specs.Calls.{check_answer, checking, comparing, entry, sheet_after, showing, verdict_answer}
use Rattle.model.specs.Finite.{every}
use Rattle.model.proofs.Laws.Boundary.{SealedOff, environment-clear, sealed-closed, suspect-guarded}
use Rattle.model.proofs.Laws.Bytes.{records-encode, valid-wf}
use Rattle.model.proofs.Laws.Checks.{all_pass, answer-done, answer-value, passes}
use Rattle.model.proofs.Laws.Copying.{copy-holding, copy-valid}
use Rattle.model.proofs.Laws.Done.{list-valid, outcome-done, step-records, step-valid}
use Rattle.model.proofs.Laws.Holding.{Holds, holds-complete, holds-sound}
use Rattle.model.proofs.Laws.Lists.{after-steps, answer_at, events-keep, given-steps, single-steps}
use Rattle.model.proofs.Laws.Sheet.{by-hidden, sheet-hidden}
use Rattle.model.proofs.Laws.Simulation.{same_outcome, sheet-step}
use Rattle.model.proofs.Laws.SubjectReduction.{move-holds}
use Rattle.model.proofs.Laws.WellFormed.{WellFormed, small}
use Rattle.model.proofs.Laws.Booleans.{and_right}
use Rattle.model.specs.Noninterference.{Demand3, Event, EveryClient, HighGuarded, OnSheet, SuspectsGuarded, after, all_steps, before, given, step_at, without_copying}
use Rattle.model.specs.Observer.{sheet, sheet_of}
use Rattle.model.specs.Records.{at, byte, encode, records}
use Rattle.model.specs.Refusals.{answer, content, done, pass}
use Rattle.model.specs.Scripts.{Step, after_list}
use Rattle.model.specs.Steps.{Outcome, answer_of, done-by, effect, outcome, refused-with, step, step_bytes}
use Rattle.model.specs.Tables.{Table, bits, is_boundary, parts, policy_right, suspects, table_right}
use Rattle.model.specs.Validity.{validity}
use Rattle.model.specs.declared.Rec.{Rec}
use Rattle.model.specs.declared.Verdict.TheVariants.{Sealed}

-- what acceptance says
pub record Accepted (s policy table : List ℕ) : Type 0 where
  pub valid : validity s ≡ pass
  pub policy-right : policy_right policy ≡ true
  pub table-right : table_right table ≡ true
  pub holding : Holds permit_all policy (records s) (parts (bits table))

pub accepted : (s policy table : List ℕ) → check_answer s policy table ≡ done tt → Accepted s policy table
unfolding check_answer checking comparing entry
accepted s policy table h =
    let c = answer-done (checking s policy table) tt tt h in
    record {
      valid = search passes;
      policy-right = search passes;
      table-right = search passes;
      holding = holds-sound permit_all policy (records s) _ (search passes);
    }

pub accept : (s policy table : List ℕ) → Accepted s policy table → check_answer s policy table ≡ done tt
unfolding check_answer checking comparing entry answer
accept s policy table w =
    let c : checking s policy table ≡ pass = search (all_pass, holds-complete permit_all policy (records s) _ w.holding) depth 12 in
    ap (λ c. answer c tt) c

pub policy-low : (policy : List ℕ) → policy_right policy ≡ true → is_boundary policy 0 ≡ false
unfolding policy_right is_boundary
policy-low policy h = ne_eqb (byte policy 0) 2 (λ e. omega (arith, eqb-true (byte policy 0) 0 (and_right (every 64 (λ k. true) (λ k. leb (byte policy k) 2)) _ (and_right (eqb (length policy) 64) _ h))))

-- the records of a sheet's bytes
pub sheet-records : (s table : List ℕ) → records (sheet_of s table) ≡ sheet (records s) (suspects table)
unfolding sheet_of
sheet-records s table = records-encode _

-- steps on records, in order
unfoldable pub walk : Permit → List Rec → List Step → List Rec
walk permit its [] = its
walk permit its (m ∷ ms) = walk permit (step permit its m.actor m.partner) ms

-- a step, done or refused, keeps a table that holds
pub step-holds : {permit : Permit} {policy : List ℕ} {its : List Rec} {T : Table} → WellFormed its → Holds permit policy its T → (c b : ℕ) → Holds permit policy (step permit its c b) T
unfolding step effect
step-holds {permit} {policy} {its} {T} wf holds c b = go (outcome permit its c b) refl
  where
    go : (o : Outcome) → outcome permit its c b ≡ o → Holds permit policy (effect o its c b) T
    go (refused-with n) e = holds
    go (done-by k) e = move-holds wf holds c b k (outcome-done k e)

-- a valid itinerary for which the table holds
pub record Guarding (permit : Permit) (policy : List ℕ) (T : Table) (s : List ℕ) : Type 0 where
  pub valid : validity s ≡ pass
  pub holding : Holds permit policy (records s) T

module _ {permit : Permit} {policy : List ℕ} {T : Table} where
  pub guarding-step : (s : List ℕ) → Guarding permit policy T s → (c b : ℕ) → Guarding permit policy T (step_bytes permit s c b)
  guarding-step s w c b = record {
    valid = step-valid permit s c b w.valid;
    holding = rw (step-records permit s c b) (step-holds (valid-wf s w.valid) w.holding c b);
  }

  pub guarding-list : (ms : List Step) (s : List ℕ) → Guarding permit policy T s → Guarding permit policy T (after_list permit s ms)
  unfolding after_list
  guarding-list [] s w = w
  guarding-list (m ∷ ms) s w = guarding-list ms _ (guarding-step s w m.actor m.partner)

  module _ (clear : T.S 0 ≡ false) where
    -- the sheet after steps is the steps of the sheet
    pub sheet-walk : (ms : List Step) (s : List ℕ) → Guarding permit policy T s → sheet (records (after_list permit s ms)) T.S ≡ walk permit (sheet (records s) T.S) ms
    unfolding after_list walk
    sheet-walk [] s w = refl
    sheet-walk (m ∷ ms) s w =
        sheet-walk ms _ (guarding-step s w m.actor m.partner)
        ∙ ap (λ l. walk permit l ms) (ap (λ l. sheet l T.S) (step-records permit s m.actor m.partner) ∙ sheet-step (valid-wf s w.valid) w.holding clear m.actor m.partner)

    -- the outcome of a step whose actor stands on the sheet is the one on the sheet
    pub outcome-shown : (s : List ℕ) → Guarding permit policy T s → (c b : ℕ) → (at (sheet (records s) T.S) c).kind ≢ 0 → outcome permit (sheet (records s) T.S) c b ≡ outcome permit (records s) c b
    outcome-shown s w c b n = let wf = valid-wf s w.valid in
        by-hidden wf T.S c (λ h. absurd (n (ap (λ r. r.kind) (sheet-hidden (records s) T.S c h)))) (same_outcome wf w.holding clear c b)

    -- two itineraries with equal sheets, after the same steps
    module _ (x y : List ℕ) (wx : Guarding permit policy T x) (wy : Guarding permit policy T y) (same : sheet (records x) T.S ≡ sheet (records y) T.S) where
      pub sheets-same : (ms : List Step) → sheet (records (after_list permit x ms)) T.S ≡ sheet (records (after_list permit y ms)) T.S
      sheets-same ms = sheet-walk ms x wx ∙ ap (λ l. walk permit l ms) same ∙ sym (sheet-walk ms y wy)

      pub outcomes-same : (ms : List Step) (c b : ℕ) → (at (sheet (records (after_list permit x ms)) T.S) c).kind ≢ 0 →
          outcome permit (records (after_list permit x ms)) c b ≡ outcome permit (records (after_list permit y ms)) c b
      outcomes-same ms c b n =
          sym (outcome-shown (after_list permit x ms) (guarding-list ms x wx) c b n)
          ∙ ap (λ l. outcome permit l c b) (sheets-same ms)
          ∙ outcome-shown (after_list permit y ms) (guarding-list ms y wy) c b (rw (sheets-same ms) at n)

-- subject reduction: an itinerary stays valid, and an accepted table accepted, after every list of events, copying included
pub valid-after : (es : List Event) (s : List ℕ) → validity s ≡ pass → validity (after s es) ≡ pass
valid-after = events-keep (λ s. validity s ≡ pass) (λ s v. v) (list-valid permit_all) copy-valid

guarding-after : {policy : List ℕ} {T : Table} (es : List Event) (s : List ℕ) → Guarding permit_all policy T s → Guarding permit_all policy T (after s es)
guarding-after {policy} {T} = events-keep (Guarding permit_all policy T) (λ s w. w.valid) guarding-list
    (λ s c w. record { valid = copy-valid s c w.valid; holding = copy-holding s c w.valid w.holding })

pub accepted-after : (es : List Event) (s policy table : List ℕ) → check_answer s policy table ≡ done tt → check_answer (after s es) policy table ≡ done tt
accepted-after es s policy table h =
    let w = accepted s policy table h in
    let k = guarding-after es s (record { valid = w.valid; holding = w.holding }) in
    accept _ policy table (record { valid = k.valid; policy-right = w.policy-right; table-right = w.table-right; holding = k.holding })

-- "and so every high one": under an accepted table a high label is suspect
pub high-guarded : (policy table s : List ℕ) → check_answer s policy table ≡ done tt → SuspectsGuarded policy table s → HighGuarded policy s
high-guarded policy table s h w i e q =
    let a = accepted s policy table h in
    w i e (a.holding.high _ (small (valid-wf s a.valid) i e) q)

-- demand 3
pub noninterference : Demand3
unfolding sheet_of before step_at verdict_answer
noninterference policy table x y size hx hy v same es = record {
  guarded = guard x ax;
  guarded' = guard y ay;
  high = high-guarded policy table (after x es) (accepted-after es x policy table hx) (guard x ax);
  high' = high-guarded policy table (after y es) (accepted-after es y policy table hy) (guard y ay);
  sheets = sheets-after;
  answers = answers-after;
}
  where
    T : Table
    T = parts (bits table)

    ax : Accepted x policy table
    ax = accepted x policy table hx

    ay : Accepted y policy table
    ay = accepted y policy table hy

    z : SealedOff T policy
    z = sealed-closed T policy (answer-value (checking x policy table) _ Sealed v)

    clear : T.S 0 ≡ false
    clear = environment-clear z

    sx : Guarding permit_all policy T x
    sx = record { valid = ax.valid; holding = ax.holding }

    sy : Guarding permit_all policy T y
    sy = record { valid = ay.valid; holding = ay.holding }

    guard : (s : List ℕ) → Accepted s policy table → SuspectsGuarded policy table (after s es)
    guard s a i e h =
        let w = accepted (after s es) policy table (accepted-after es s policy table (accept s policy table a)) in
        let g = suspect-guarded z (policy-low policy a.policy-right) (valid-wf (after s es) w.valid) w.holding i e h in
        (g.0, (g.1, g.2))

    same' : sheet (records x) T.S ≡ sheet (records y) T.S
    same' = sym (sheet-records x table) ∙ ap records same ∙ sheet-records y table

    sheets-at : (ms : List Step) → sheet_of (after_list permit_all x ms) table ≡ sheet_of (after_list permit_all y ms) table
    sheets-at ms = ap encode (sheets-same clear x y sx sy same' ms)

    sheets-after : without_copying es ≡ true → sheet_of (after x es) table ≡ sheet_of (after y es) table
    sheets-after w = ap (λ s. sheet_of s table) (after-steps es x ax.valid w) ∙ sheets-at (all_steps es) ∙ sym (ap (λ s. sheet_of s table) (after-steps es y ay.valid w))

    answers-after : without_copying es ≡ true → (n : ℕ) → n < length (all_steps es) → OnSheet table (before x es n) (step_at es n).actor → get_or (given x es) n 0 ≡ get_or (given y es) n 0
    answers-after w n l on =
        let ms = all_steps es in
        ap (λ a. get_or a n 0) (given-steps es x ax.valid w) ∙ answer_at permit_all x (all_steps es) n l _
        ∙ ap answer_of (outcomes-same clear x y sx sy same' (take n (all_steps es)) _ _ (λ k. on (shown k)))
        ∙ sym (ap (λ a. get_or a n 0) (given-steps es y ay.valid w) ∙ answer_at permit_all y (all_steps es) n l _)
      where
        shown : (at (sheet (records (after_list permit_all x (take n (all_steps es)))) T.S) (step_at es n).actor).kind ≡ 0 → (at (records (sheet_of (before x es n) table)) (step_at es n).actor).kind ≡ 0
        shown k = ap (λ s. (at (records (sheet_of s table)) (step_at es n).actor).kind) (single-steps (take n (all_steps es)) x ax.valid) ∙ ap (λ l. (at l (step_at es n).actor).kind) (sheet-records _ table) ∙ k

-- demand 3 is for every policy, so for that of each client
pub every-client : EveryClient
every-client x [] w = tt
every-client x (c ∷ cs) w = (λ y l a. noninterference c.policy c.table x y l w.0.accepted a w.0.sealed, every-client x cs w.1)

-- the sheet call writes the sheet that demand 3 speaks of
pub sheet-written : (s policy table buffer : List ℕ) → check_answer s policy table ≡ done tt → length buffer ≡ length s → sheet_after s table buffer ≡ sheet_of s table
unfolding sheet_after showing content
sheet-written s policy table buffer h e =
    let a = accepted s policy table h in
    let c : showing s table buffer ≡ pass = search (all_pass, eq-eqb _ _ e) depth 12 in
    rw (c, content)
