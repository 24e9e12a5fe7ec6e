-- Mobile Ambients as published, in source document 003's syntax with its Tables 1 and 2, row by row, for what documents 01 and 02
-- keep of them: no restriction; a name is a number, and ambients and capabilities bear labels. Of replication the congruence has
-- that !P ≡ !Q where P ≡ Q; its two laws are left out: with !P ≡ P | !P an itinerary would mean processes of any size, and with
-- !0 ≡ 0 one with a record more or less. The first, from left to right, is what a copy does (`unfolded`).
-- Then which process an itinerary is, and demand 2's "Steps follow the published rules of Mobile Ambients."
-- It is proved in Laws/Adequacy.
use Rattle.std.specs.Prelude.{◌+◌, suc, zero, ℕ, eqb, replicate, false, true, List, [], ◌∷◌, ◌≢◌, ◌≡◌}
use Rattle.std.specs.Prelude.{Some}
use Rattle.model.specs.Analysis.{Permit, permit_all}
use Rattle.model.specs.Calls.{copy_after, copy_answer, step_after, step_answer, validate_answer}
use Rattle.model.specs.Finite.{one_if}
use Rattle.model.specs.Noninterference.{Event, after, given, without_copying}
use Rattle.model.specs.Records.{Capability, at, cap-in, cap-open, cap-out, capability, is_ambient, is_replication, parent_of, records}
use Rattle.model.specs.Refusals.{done}
use Rattle.model.specs.declared.Rec.{Rec}

infixr 70 ◌·◌
infixr 60 ◌‖◌
-- what stands before a process: the ambient n of n[P], the capability M of M.P, each with its label, and the ! of !P
pub data Head : Type 0 where
  ambient : (label name : ℕ) → Head
  -- "in n", "out n", "open n"
  cap : (k : Capability) (label name : ℕ) → Head
  -- "replication: any number of occurrences of P"
  replication : Head

-- 003's grammar of processes
pub data Process : Type 0 where
  -- 0, "the inactive process"
  nothing : Process
  -- P | Q, "two concurrent processes"
  ◌‖◌ : Process → Process → Process
  -- n[P], "an ambient named n containing P", M.P, "a capability M followed by P", and !P
  ◌·◌ : Head → Process → Process

-- Table 1, the structural congruence P ≡ Q
pub data Congruent : Process → Process → Type 0 where
  -- P ≡ P
  reflexive : {P : Process} → Congruent P P
  -- P ≡ Q ∧ Q ≡ R ⇒ P ≡ R
  transitive : {P Q R : Process} → Congruent P Q → Congruent Q R → Congruent P R
  -- P ≡ Q ⇒ Q ≡ P
  symmetric : {P Q : Process} → Congruent P Q → Congruent Q P
  -- P ≡ Q ⇒ P | R ≡ Q | R
  parallel : {P Q R : Process} → Congruent P Q → Congruent (P ‖ R) (Q ‖ R)
  -- P ≡ Q ⇒ n[P] ≡ n[Q], P ≡ Q ⇒ M.P ≡ M.Q and P ≡ Q ⇒ !P ≡ !Q
  inside : {h : Head} {P Q : Process} → Congruent P Q → Congruent (h · P) (h · Q)
  -- P | Q ≡ Q | P
  commutes : {P Q : Process} → Congruent (P ‖ Q) (Q ‖ P)
  -- (P | Q) | R ≡ P | (Q | R)
  associates : {P Q R : Process} → Congruent ((P ‖ Q) ‖ R) (P ‖ (Q ‖ R))
  -- P | 0 ≡ P
  unit : {P : Process} → Congruent (P ‖ nothing) P

-- Table 2, the transition relation P → Q, in an ambient of label w, 0 in none. The permit is asked with the label of the
-- ambient that holds the capability and with the partner's; where all is permitted (`permit_all`) w plays no part
-- (`reduces-anywhere`).
pub data Reduces (permit : Permit) : ℕ → Process → Process → Type 0 where
  -- P → Q ⇒ n[P] → n[Q]
  within : {w l n : ℕ} {P Q : Process} → Reduces permit l P Q → Reduces permit w (ambient l n · P) (ambient l n · Q)
  -- P → Q ⇒ P | R → Q | R
  beside : {w : ℕ} {P Q R : Process} → Reduces permit w P Q → Reduces permit w (P ‖ R) (Q ‖ R)
  -- P ≡ P' ∧ P' → Q' ∧ Q' ≡ Q ⇒ P → Q
  alike : {w : ℕ} {P P' Q' Q : Process} → Congruent P P' → Reduces permit w P' Q' → Congruent Q' Q → Reduces permit w P Q
  -- m[in n.P | Q] | n[R] → n[m[P | Q] | R]
  enters : {w a b t m n : ℕ} {P Q R : Process} → permit cap-in a b ≡ true →
      Reduces permit w (ambient a m · (cap cap-in t n · P ‖ Q) ‖ ambient b n · R) (ambient b n · (ambient a m · (P ‖ Q) ‖ R))
  -- n[m[out n.P | Q] | R] → m[P | Q] | n[R]
  leaves : {w a b t m n : ℕ} {P Q R : Process} → permit cap-out a b ≡ true →
      Reduces permit w (ambient b n · (ambient a m · (cap cap-out t n · P ‖ Q) ‖ R)) (ambient a m · (P ‖ Q) ‖ ambient b n · R)
  -- open n.P | n[Q] → P | Q
  opens : {w b t n : ℕ} {P Q : Process} → permit cap-open w b ≡ true →
      Reduces permit w (cap cap-open t n · P ‖ ambient b n · Q) (P ‖ Q)

-- n reductions one after another
pub data Chain (permit : Permit) : ℕ → Process → Process → Type 0 where
  ended : {P : Process} → Chain permit 0 P P
  reduced : {n : ℕ} {P Q R : Process} → Reduces permit 0 P Q → Chain permit n Q R → Chain permit (suc n) P R

-- a record is an ambient or a capability with its label and name, or a replication
pub data Says (r : Rec) : Head → Type 0 where
  says-ambient : {l n : ℕ} → is_ambient r ≡ true → r.label ≡ l → r.name ≡ n → Says r (ambient l n)
  says-cap : {k : Capability} {l n : ℕ} → capability r.kind ≡ Some k → r.label ≡ l → r.name ≡ n → Says r (cap k l n)
  says-replication : is_replication r ≡ true → Says r replication

-- P is read from records whose parent is q: "Children of one parent stand in parallel; a capability's children are what
-- follows it."
pub data Reads (its : List Rec) : ℕ → Process → Type 0 where
  end : {q : ℕ} → Reads its q nothing
  both : {q : ℕ} {P Q : Process} → Reads its q P → Reads its q Q → Reads its q (P ‖ Q)
  read : {q : ℕ} {h : Head} {P : Process} (i : ℕ) → parent_of its i ≡ q → Says (at its i) h → Reads its i P → Reads its q (h · P)

-- the law !P ≡ P | !P from left to right, once, for the ! that is read from record c: what becomes of the process that is read
unfoldable pub unfolded : {its : List Rec} (c : ℕ) {q : ℕ} {P : Process} → Reads its q P → Process
unfolded c end = nothing
unfolded c (both r t) = unfolded c r ‖ unfolded c t
unfolded c (read {h = h} {P = P} i p s r) = elim (eqb i c) [ true ↦ P ‖ h · P | false ↦ h · unfolded c r ]

-- 1 where two numbers are one, else 0
unfoldable pub one : ℕ → ℕ → ℕ
one i j = one_if (eqb i j)

-- how often record j is read
unfoldable pub times : {its : List Rec} {q : ℕ} {P : Process} → Reads its q P → ℕ → ℕ
times end j = 0
times (both r t) j = times r j + times t j
times (read i p s r) j = one i j + times r j

-- the itinerary is the process P: P is read from the environment down, each record that is not gone exactly once
pub record Means (its : List Rec) (P : Process) : Type 0 where
  pub reading : Reads its 0 P
  pub once : (i : ℕ) → (at its i).kind ≢ 0 → times reading i ≡ 1

-- how many steps were done, by their answers: "0 where done"
unfoldable pub done_in : List ℕ → ℕ
done_in [] = 0
done_in (zero ∷ rest) = suc (done_in rest)
done_in (suc n ∷ rest) = done_in rest

-- a valid itinerary is a process, one up to congruence, and the steps that are done are its reductions
pub record FollowsRules (s : List ℕ) : Type 0 where
  pub process : (P : Process) × Means (records s) P
  pub unique : {P Q : Process} → Means (records s) P → Means (records s) Q → Congruent P Q
  pub closed : {P Q : Process} → Means (records s) P → Congruent P Q → Means (records s) Q
  -- a step that is done is a reduction
  pub sound : {P : Process} → Means (records s) P → (c b : ℕ) → step_answer s c b ≡ done tt →
      (Q : Process) × Reduces permit_all 0 P Q × Means (records (step_after s c b)) Q
  -- a reduction is a step that is done
  pub complete : {P Q : Process} → Means (records s) P → Reduces permit_all 0 P Q →
      (c : ℕ) × (b : ℕ) × (step_answer s c b ≡ done tt) × Means (records (step_after s c b)) Q
  -- a list of events, singly or in scripts, without copying, is a chain of reductions, one for each step that was done
  pub chained : {P : Process} → Means (records s) P → (es : List Event) → without_copying es ≡ true →
      (Q : Process) × Chain permit_all (done_in (given s es)) P Q × Means (records (after s es)) Q
  -- a chain of reductions is a list of as many steps, each done
  pub listed : {P Q : Process} {n : ℕ} → Means (records s) P → Chain permit_all n P Q →
      (es : List Event) × (without_copying es ≡ true) × (given s es ≡ replicate n 0) × Means (records (after s es)) Q
  -- document 02, Job 7: a copy that is done unfolds that replication once, beside it
  pub copied : {P : Process} → (m : Means (records s) P) → (c n : ℕ) → copy_answer s c ≡ done n →
      Says (at (records s) c) replication × Means (records (copy_after s c)) (unfolded c m.reading)

-- demand 2: "Steps follow the published rules of Mobile Ambients."
abbrev pub Demand2Steps : Type 0
Demand2Steps = (s : List ℕ) (n : ℕ) → validate_answer s ≡ done n → FollowsRules s
