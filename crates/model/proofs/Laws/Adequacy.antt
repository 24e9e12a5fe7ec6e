-- "Steps follow the published rules of Mobile Ambients." A well-formed itinerary is a process: each record, after all that
-- stands above it, is put under its parent unless it is there already (`ensure`, by its depth), and so all of them up to the
-- last (`listed`). It is one up to congruence: two readings of all records have the same counts (`equals`), and one is taken
-- out of the other record by record, brought to the front each time (`part`), until nothing is left. Then Laws/Reductions,
-- Laws/Chains and Laws/Unfolding, said of the calls.
use Prim.Native.Nat.{◌+◌, ◌≤◌, suc, zero, ℕ}
use Rattle.std.proofs.Common.{leb-true, ◌∙◌}
use Rattle.std.specs.Prelude.{length, List, [], ◌∷◌, ◌≢◌, true, ◌≡◌, refl}
use Rattle.std.proofs.Math.Path.{ap, sym}
use Rattle.std.proofs.Math.Decide.{dec_le, ℕ_discrete}
use native.Mathlib.Omega.{arith}
use Rattle.model.specs.Analysis.{permit_all}
use Rattle.model.specs.Calls.{outcome_check, step_after, step_answer, stepping, validate_answer}
use Rattle.model.proofs.Laws.Bytes.{valid-wf}
use Rattle.model.proofs.Laws.Checks.{answer-done, then-pass}
use Rattle.model.proofs.Laws.Done.{step-records}
use Rattle.model.proofs.Laws.Forest.{Depth, root, under}
use Rattle.model.proofs.Laws.Chains.{Chained, chain-list, perform-chain}
use Rattle.model.proofs.Laws.Lists.{after-steps, given-steps, step-after}
use Rattle.model.specs.Noninterference.{Event, after, all_steps, given, single, steps_of, without_copying}
use Rattle.model.specs.Scripts.{Step, after_list, answers_of}
use Rattle.model.proofs.Laws.Readings.{Downward, Front, Once, Whole, beneath, climbs, conform, focus, front-inner, one-le, one-other, one-self, read-alive, whole-downward}
use Rattle.model.proofs.Laws.Reductions.{means-whole, reduction-steps, step-reduces}
use Rattle.model.proofs.Laws.Unfolding.{call-copied}
use Rattle.model.proofs.Laws.Updates.{at-root}
use Rattle.model.proofs.Laws.WellFormed.{Alive, WellFormed, alive-in, alive-pos}
use Rattle.model.specs.Validity.{kind_right, shape, validity}
use Rattle.model.proofs.Laws.Booleans.{and_left}
use Rattle.model.specs.Processes.{Chain, Congruent, Demand2Steps, Head, Means, Process, Reads, Says, ◌·◌, ◌‖◌, ambient, associates, both, cap, commutes, done_in, end, inside, nothing, one, parallel, read, reflexive, replication, says-ambient, says-cap, says-replication, symmetric, times, transitive, unit}
use Rattle.model.specs.Records.{Capability, at, cap-in, cap-open, cap-out, capability, count, is_ambient, is_replication, parent_of, records}
use Rattle.model.specs.Refusals.{and_then, answer, done, pass}
use Rattle.model.specs.Steps.{Outcome, done-by, outcome, step, refused-with}
use Rattle.model.specs.declared.Rec.{Rec}

-- a record of a well-formed itinerary says a head
says_some : (r : Rec) (n : ℕ) → r.kind ≡ n → shape r ≡ true → n ≢ 0 → (h : Head) × Says r h
unfolding shape kind_right is_ambient is_replication capability
says_some r zero e s z = absurd (z refl)
says_some r (suc zero) e s z = (ambient r.label r.name, says-ambient (rw e) refl refl)
says_some r (suc (suc zero)) e s z = (cap cap-in r.label r.name, says-cap (ap capability e) refl refl)
says_some r (suc (suc (suc zero))) e s z = (cap cap-out r.label r.name, says-cap (ap capability e) refl refl)
says_some r (suc (suc (suc (suc zero)))) e s z = (cap cap-open r.label r.name, says-cap (ap capability e) refl refl)
says_some r (suc (suc (suc (suc (suc zero))))) e s z = (replication, says-replication (rw e))
says_some r (suc (suc (suc (suc (suc (suc n)))))) e s z = absurd (omega (arith, leb-true r.kind 5 (and_left _ _ s)))

-- some process read from q, each record j as often as N says
record Grown (its : List Rec) (q : ℕ) (N : ℕ → ℕ) : Type 0 where
  P : Process
  reads : Reads its q P
  counts : (j : ℕ) → times reads j ≡ N j

module _ {its : List Rec} (x : ℕ) {h : Head} (s : Says (at its x) h) where
  put : {q : ℕ} {P : Process} → parent_of its x ≡ q → (r : Reads its q P) → Grown its q (λ j. one x j + times r j)
  unfolding times
  put {P = P} e r = record { P = h · nothing ‖ P; reads = both (read x e s end) r; counts = λ j. omega arith }

  -- record x is put in under its parent t, which is q or read
  insert : {q t : ℕ} {P : Process} → parent_of its x ≡ t → (r : Reads its q P) → 1 ≤ one q t + times r t → Grown its q (λ j. one x j + times r j)
  unfolding times
  insert {q} {t} e end l = go (ℕ_discrete q t)
    where
      go : Dec (q ≡ t) → Grown its q (λ j. one x j + 0)
      go (yes u) = put (e ∙ sym u) end
      go (no u) = absurd (omega (arith, one-other q t u))
  insert {q} {t} e (both {P = P} {Q = Q} r v) l = go (dec_le 1 (one q t + times r t)) (insert e r) (insert e v)
    where
      go : Dec (1 ≤ one q t + times r t) → (1 ≤ one q t + times r t → Grown its q (λ j. one x j + times r j)) →
          (1 ≤ one q t + times v t → Grown its q (λ j. one x j + times v j)) → Grown its q (λ j. one x j + (times r j + times v j))
      go (yes m) f g = let k = f m in record { P = k.P ‖ Q; reads = both k.reads v; counts = λ j. omega (arith, k.counts j) }
      go (no m) f g = let k = g (omega arith) in record { P = P ‖ k.P; reads = both r k.reads; counts = λ j. omega (arith, k.counts j) }
  insert {q} {t} e (read {h = h'} i p u r) l = go (ℕ_discrete q t) (insert e r)
    where
      go : Dec (q ≡ t) → (1 ≤ one i t + times r t → Grown its i (λ j. one x j + times r j)) → Grown its q (λ j. one x j + (one i j + times r j))
      go (yes w) f = put (e ∙ sym w) (read i p u r)
      go (no w) f = let k = f (omega (arith, one-other q t w)) in record { P = h' · k.P; reads = read i p u k.reads; counts = λ j. omega (arith, k.counts j) }

-- no record twice, all that N has, and record j
record Spread (its : List Rec) (N : ℕ → ℕ) (j : ℕ) : Type 0 where
  P : Process
  reads : Reads its 0 P
  small : (i : ℕ) → times reads i ≤ 1
  more : (i : ℕ) → N i ≤ times reads i
  has : 1 ≤ one 0 j + times reads j

-- no record twice, and all records up to m that are not gone
record Listed (its : List Rec) (m : ℕ) : Type 0 where
  P : Process
  reads : Reads its 0 P
  small : (i : ℕ) → times reads i ≤ 1
  has : (j : ℕ) → j ≤ m → Alive its j → 1 ≤ times reads j

module _ {its : List Rec} (wf : WellFormed its) where
  -- record j is put in, after all that stands above it
  ensure : {j d : ℕ} {P : Process} → Depth (parent_of its) j d → (j ≢ 0 → Alive its j) → (r : Reads its 0 P) → ((i : ℕ) → times r i ≤ 1) → Spread its (times r) j
  ensure {P = P} root a r s = record { P = P; reads = r; small = s; more = λ i. omega arith; has = omega (arith, one-self 0) }
  ensure (under {i = i} z d) a r s = go (ensure d (wf.parents i) r s)
    where
      go : Spread its (times r) (parent_of its i) → Spread its (times r) i
      go w = by (dec_le 1 (times w.reads i))
        where
          by : Dec (1 ≤ times w.reads i) → Spread its (times r) i
          by (yes m) = record { P = w.P; reads = w.reads; small = w.small; more = w.more; has = omega arith }
          by (no m) =
              let v = insert i (says_some (at its i) _ refl (wf.shaped i) (a z)).1 refl w.reads w.has in
              record { P = v.P; reads = v.reads; small = λ k. few k (ℕ_discrete i k) (v.counts k); more = λ k. omega (arith, w.more k, v.counts k); has = omega (arith, v.counts i, one-self i) }
            where
              few : (k : ℕ) → Dec (i ≡ k) → {n : ℕ} → n ≡ one i k + times w.reads k → n ≤ 1
              few k (yes e) q = omega (arith, q, one-le i k, ap (times w.reads) e)
              few k (no e) q = omega (arith, q, one-other i k e, w.small k)

  listed : (m : ℕ) → Listed its m
  unfolding times
  listed zero = record { P = nothing; reads = end; small = λ i. omega arith; has = λ j l a. absurd (alive-pos its j a (omega arith)) }
  listed (suc m) = go (listed m) (ℕ_discrete (at its (suc m)).kind 0)
    where
      go : Listed its m → Dec ((at its (suc m)).kind ≡ 0) → Listed its (suc m)
      go w (yes e) = record { P = w.P; reads = w.reads; small = w.small; has = λ j l a. has j l a (ℕ_discrete j (suc m)) }
        where
          has : (j : ℕ) → j ≤ suc m → Alive its j → Dec (j ≡ suc m) → 1 ≤ times w.reads j
          has j l a (yes u) = absurd (a (ap (λ x. (at its x).kind) u ∙ e))
          has j l a (no u) = w.has j (omega arith) a
      go w (no a) = let v = ensure (wf.reach (suc m)).1 (λ _. a) w.reads w.small in
          record { P = v.P; reads = v.reads; small = v.small; has = λ j l b. has j l b (ℕ_discrete j (suc m)) (v.more j) v.has (λ e. ap (times v.reads) e) }
        where
          has : (j : ℕ) → j ≤ suc m → Alive its j → Dec (j ≡ suc m) → {n o : ℕ} → times w.reads j ≤ n → 1 ≤ one 0 (suc m) + o → (j ≡ suc m → n ≡ o) → 1 ≤ n
          has j l b (yes u) x y f = omega (arith, f u, one-other 0 (suc m) (λ e. omega arith))
          has j l b (no u) x y f = omega (arith, w.has j (omega arith) b)

  -- every well-formed itinerary is a process
  pub means-some : (P : Process) × Means its P
  means-some = let w = listed (length its) in
      (w.P, record { reading = w.reads; once = λ i a. omega (arith, w.small i, w.has i (alive-in its i a) a) })

  -- what is read under i is among all that stands under i
  covers : {i j d : ℕ} {A : Process} {N : ℕ → ℕ} → Depth (parent_of its) j d → (r : Reads its i A) → Whole its i N → 1 ≤ times r j → 1 ≤ N j
  covers root r w l = absurd (read-alive r 0 l (ap (λ x. x.kind) (at-root its)))
  covers {i} {N = N} (under {i = j} z d) r w l = go (dec_le 1 (times r (parent_of its j))) (covers d r w)
    where
      go : Dec (1 ≤ times r (parent_of its j)) → (1 ≤ times r (parent_of its j) → 1 ≤ N (parent_of its j)) → 1 ≤ N j
      go (yes m) f = w.full j (read-alive r j l) (omega (arith, f m))
      go (no m) f = w.full j (read-alive r j l) (omega (arith, climbs r j l))

  equals : {i : ℕ} {A B : Process} (r : Reads its i A) (t : Reads its i B) → Whole its i (times r) → Whole its i (times t) → (j : ℕ) → times r j ≡ times t j
  equals r t v w j = go (dec_le 1 (times r j)) (dec_le 1 (times t j))
    where
      go : Dec (1 ≤ times r j) → Dec (1 ≤ times t j) → times r j ≡ times t j
      go (yes a) (yes b) = omega (arith, v.once j, w.once j)
      go (yes a) (no b) = absurd (b (covers (wf.reach j).1 r w a))
      go (no a) (yes b) = absurd (a (covers (wf.reach j).1 t v b))
      go (no a) (no b) = omega arith

-- P is part of Q, and B is the rest
record Part (its : List Rec) (q : ℕ) (M N : ℕ → ℕ) (P Q : Process) : Type 0 where
  B : Process
  shown : Congruent Q (P ‖ B)
  rest : Reads its q B
  counts : (j : ℕ) → N j ≡ M j + times rest j

module _ {its : List Rec} where
  empty : {q : ℕ} {P : Process} (r : Reads its q P) → ((j : ℕ) → times r j ≡ 0) → Congruent P nothing
  unfolding times
  empty end z = reflexive
  empty (both r t) z = transitive (parallel (empty r (λ j. omega (arith, z j)))) (transitive commutes (transitive unit (empty t (λ j. omega (arith, z j)))))
  empty (read i p s r) z = absurd (omega (arith, z i, one-self i))

  exact : {q : ℕ} {M N : ℕ → ℕ} {P Q : Process} → Part its q M N P Q → ((j : ℕ) → M j ≡ N j) → Congruent Q P
  exact w e = transitive w.shown (transitive (beneath (empty w.rest (λ j. omega (arith, w.counts j, e j)))) unit)

  downward-part : {q : ℕ} {P Q : Process} (r : Reads its q P) (t : Reads its q Q) {N : ℕ → ℕ} → ((j : ℕ) → N j ≡ times r j + times t j) → Once q N → Downward its N → Downward its (times r)
  downward-part r t n o c j l m = go (dec_le 1 (times t j))
    where
      k : ℕ
      k = parent_of its j

      go : Dec (1 ≤ times t j) → 1 ≤ times r j
      go (yes u) = absurd (omega (arith, climbs t j u, n k, o k))
      go (no u) = omega (arith, n j, c j l (omega (arith, n k)))

-- each reading from q that has all the records of r has P as a part
abbrev Divides : (its : List Rec) (q : ℕ) (P : Process) → Reads its q P → Type 0
Divides its q P r = (Q : Process) (t : Reads its q Q) → Once q (times t) → Downward its (times t) → Downward its (times r) → ((j : ℕ) → times r j ≤ times t j) →
    Part its q (times r) (times t) P Q

module _ {its : List Rec} {q : ℕ} {P R : Process} (r : Reads its q P) (u : Reads its q R) where
  part-next : Divides its q R u → (Q : Process) (t : Reads its q Q) → Once q (times t) → Downward its (times t) → Downward its (times (both r u)) → ((j : ℕ) → times (both r u) j ≤ times t j) →
      Part its q (times r) (times t) P Q → Part its q (times (both r u)) (times t) (P ‖ R) Q
  unfolding times
  part-next f Q t o c d n v = go (f v.B v.rest (λ j. omega (arith, o j, v.counts j)) (downward-part v.rest r (λ j. omega (arith, v.counts j)) o c)
      (downward-part u r (λ j. omega arith) (λ j. omega (arith, o j, n j)) d) (λ j. omega (arith, n j, v.counts j)))
    where
      go : Part its q (times u) (times v.rest) R v.B → Part its q (times (both r u)) (times t) (P ‖ R) Q
      go w = record {
        B = w.B;
        shown = transitive v.shown (transitive (beneath w.shown) (symmetric associates));
        rest = w.rest;
        counts = λ j. omega (arith, v.counts j, w.counts j);
      }

  part-both : Divides its q P r → Divides its q R u → Divides its q (P ‖ R) (both r u)
  unfolding times
  part-both f g Q t o c d n = part-next g Q t o c d n (f Q t o c (downward-part r u (λ j. refl) (λ j. omega (arith, o j, n j)) d) (λ j. omega (arith, n j)))

module _ {its : List Rec} (wf : WellFormed its) where
  part-front : {q i : ℕ} {h : Head} {A Q : Process} {N : ℕ → ℕ} (r : Reads its i A) → Whole its i (times r) → Divides its i A r → (f : Front its q Q N i h) → Whole its i (times f.inner) →
      Part its q (λ j. one i j + times r j) N (h · A) Q
  part-front r v g f w =
      let e = equals wf r f.inner v w in
      record {
        B = f.B;
        shown = transitive f.shown (parallel (inside (exact (g f.A f.inner w.once (whole-downward w) (whole-downward v) (λ j. omega (arith, e j))) e)));
        rest = f.rest;
        counts = λ j. omega (arith, f.counts j, e j);
      }

  part-read : {q i : ℕ} {h : Head} {A : Process} (p : parent_of its i ≡ q) (s : Says (at its i) h) (r : Reads its i A) → Divides its i A r → Divides its q (h · A) (read i p s r)
  unfolding times
  part-read {q} {i} {h} {A} p s r g Q t o c d n = go (focus t i s o (omega (arith, n i, one-self i)) p)
    where
      x : Front its q (h · A) (λ j. one i j + times r j) i h
      x = record { A = A; B = nothing; shown = symmetric unit; inner = r; rest = end; counts = λ j. omega arith }

      go : Front its q Q (times t) i h → Part its q (λ j. one i j + times r j) (times t) (h · A) Q
      go f = part-front r (front-inner (λ j. omega (arith, o j, n j)) d x p) g f (front-inner o c f p)

  part : {q : ℕ} {P : Process} (r : Reads its q P) → Divides its q P r
  unfolding times
  part end Q t o c d n = record { B = Q; shown = transitive (symmetric unit) commutes; rest = t; counts = λ j. omega arith }
  part (both r u) Q t o c d n = part-both r u (part r) (part u) Q t o c d n
  part (read i p s r) Q t o c d n = part-read p s r (part r) Q t o c d n

  -- the process of an itinerary is one up to congruence
  pub means-unique : {P Q : Process} → Means its P → Means its Q → Congruent P Q
  means-unique m n =
      let v = means-whole m in
      let w = means-whole n in
      let e = equals wf n.reading m.reading w v in
      exact (part n.reading _ m.reading v.once (whole-downward v) (whole-downward w) (λ j. omega (arith, e j))) e

pub means-alike : {its : List Rec} {P Q : Process} → Means its P → Congruent P Q → Means its Q
means-alike m e = let w = (conform e).0 0 m.reading in record { reading = w.reads; once = λ i l. w.counts i ∙ m.once i l }

outcome-pass : (o : Outcome) → outcome_check o ≡ pass → (k : Capability) × (o ≡ done-by k)
unfolding outcome_check
outcome-pass (refused-with n) e = let u : ◌≡◌ {A = ℕ} 0 1 = cc in absurd (omega arith)
outcome-pass (done-by k) e = (k, refl)

-- the call on a valid itinerary
module _ (s : List ℕ) (v : validity s ≡ pass) (c b : ℕ) where
  pub call-done : step_answer s c b ≡ done tt → (k : Capability) × (outcome permit_all (records s) c b ≡ done-by k)
  unfolding step_answer stepping
  call-done e = outcome-pass _ (then-pass _ _ (answer-done (stepping s c b) tt tt e)).1

  pub done-call : (k : Capability) → outcome permit_all (records s) c b ≡ done-by k → step_answer s c b ≡ done tt
  unfolding step_answer stepping outcome_check and_then answer
  done-call k e = rw (v, e)

  call-records : records (step_after s c b) ≡ step permit_all (records s) c b
  call-records = ap records (step-after s v c b) ∙ step-records permit_all s c b

-- the chain of a list of events is that of its steps
by-calls : (es : List Event) (s : List ℕ) → validity s ≡ pass → without_copying es ≡ true → {P : Process} → Chained permit_all P (answers_of permit_all s (all_steps es)) (after_list permit_all s (all_steps es)) →
    (Q : Process) × Chain permit_all (done_in (given s es)) P Q × Means (records (after s es)) Q
by-calls es s v o w = (w.last, rw (given-steps es s v o) w.chain, rw (after-steps es s v o) w.means)

-- steps, each an event of its own
singly : List Step → List Event
singly [] = []
singly (m ∷ ms) = single m.actor m.partner ∷ singly ms

steps-singly : (ms : List Step) → all_steps (singly ms) ≡ ms
unfolding all_steps steps_of singly
steps-singly [] = refl
steps-singly (m ∷ ms) = ap (λ l. m ∷ l) (steps-singly ms)

singly-without : (ms : List Step) → without_copying (singly ms) ≡ true
unfolding without_copying singly
singly-without [] = refl
singly-without (m ∷ ms) = singly-without ms

after-singly : (ms : List Step) (s : List ℕ) → validity s ≡ pass → after s (singly ms) ≡ after_list permit_all s ms
after-singly ms s v = after-steps (singly ms) s v (singly-without ms) ∙ ap (after_list permit_all s) (steps-singly ms)

given-singly : (ms : List Step) (s : List ℕ) → validity s ≡ pass → given s (singly ms) ≡ answers_of permit_all s ms
given-singly ms s v = given-steps (singly ms) s v (singly-without ms) ∙ ap (answers_of permit_all s) (steps-singly ms)

-- "Steps follow the published rules of Mobile Ambients."
pub follows-rules : Demand2Steps
unfolding validate_answer
follows-rules s n a =
    let v = answer-done (validity s) (count s) n a in
    let wf = valid-wf s v in
    record {
      process = means-some wf;
      unique = means-unique wf;
      closed = means-alike;
      sound = λ m c b e. let k = call-done s v c b e in rw (call-records s v c b) (step-reduces wf m k.0 c b k.1);
      complete = λ m x. let w = reduction-steps wf m x in (w.1, w.2, done-call s v w.1 w.2 w.0 w.3, rw (call-records s v w.1 w.2) w.4);
      chained = λ m es o. by-calls es s v o (chain-list (all_steps es) s v m);
      listed = λ m ms. let w = perform-chain ms s v m in (singly w.steps, singly-without w.steps, given-singly w.steps s v ∙ w.answers, rw (after-singly w.steps s v) w.means);
      copied = call-copied s;
    }
