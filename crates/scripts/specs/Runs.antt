-- Laws of a script run, step by step.
use Rattle.std.specs.Prelude.{◌%◌, ◌*◌, ◌+◌, ◌/◌, ◌<◌, ◌≤◌, suc, ℕ, eqb, leb, drop, length, set, take, Bool, false, true, List, [], ◌++◌, ◌∷◌, ◌≡◌, refl}
use Rattle.std.proofs.Common.{eqb-true, leb-true, drop_of_length-le, length-append, length-drop, drop-cons, length-take-le, take_all, take-suc, append_assoc, append-nil, ◌∙◌, zero-add}
use Rattle.std.proofs.lemmas.List.{set_at}
use Rattle.std.proofs.Math.Path.{ap, sym}
use native.Mathlib.Omega.{arith}
use Rattle.model.specs.Analysis.{permit_all}
use Rattle.model.proofs.Laws.Done.{list-valid}
use Rattle.model.proofs.Laws.Finite.{get_d_tabulate, length-tabulate}
use Rattle.model.proofs.Laws.Lists.{answers-append, list-append}
use Rattle.model.proofs.Laws.Booleans.{and_left, and_right}
use Rattle.model.specs.Records.{byte, records, word}
use Rattle.model.specs.Refusals.{pass}
use Rattle.model.specs.Scripts.{Step, after_list, answers_of, counts_of, done_by, how_many, kind_of, step_in, steps_in, outcomes, script_right}
use Rattle.model.specs.Steps.{Outcome, answer_of, done-by, outcome, refused-with, step_bytes}
use Rattle.model.specs.Validity.{validity}
use Rattle.model.specs.declared.Counts.{Counts}
use Rattle.scripts.specs.Counted.{counted}
use Rattle.model.specs.declared.Capability.TheVariants.{In as cap-in, Open as cap-open, Out as cap-out}

-- what script_right says
pub record Script (z : List ℕ) (room : ℕ) : Type 0 where
  pub whole : length z % 4 ≡ 0
  pub few : length z ≤ 4096
  pub places : room ≡ length z / 4

pub script-of : (z : List ℕ) (room : ℕ) → script_right z room ≡ true → Script z room
unfolding script_right
script-of z room h =
    let g = and_right (eqb (length z % 4) 0) _ h in
    record { whole = eqb-true _ _ (and_left _ _ h); few = leb-true _ _ (and_left _ _ g); places = eqb-true _ _ (and_right (leb (length z) 4096) _ g) }

pub length-steps : (z : List ℕ) → length (steps_in z) ≡ length z / 4
unfolding steps_in
length-steps z = length-tabulate (step_in z) 0 (length z / 4)

-- the first k steps, and one more
pub next-step : (z : List ℕ) (k : ℕ) → k < length z / 4 → take (k + 1) (steps_in z) ≡ take k (steps_in z) ++ (step_in z k ∷ [])
unfolding steps_in
next-step z k l =
    let e : k + 1 ≡ suc k = omega arith in
    ap (λ j. take j (steps_in z)) e ∙ take-suc (steps_in z) k (step_in z 0) (omega (arith, length-steps z)) ∙ ap (λ m. take k (steps_in z) ++ (m ∷ [])) (get_d_tabulate (step_in z) 0 (length z / 4) k (step_in z 0) l ∙ ap (step_in z) (zero-add k))

-- the counts after one step, by what became of it
module _ (c : Counts) where
  same : (x : ℕ) → x ≡ x + 0
  same x = omega arith

  pub counted-refused : {o : Outcome} {n : ℕ} → o ≡ refused-with n → c ≡ counted c o
  unfolding counted done_by
  counted-refused e = rw e (λ i. record { ins = same c.ins i; outs = same c.outs i; opens = same c.opens i })

  pub counted-in : {o : Outcome} → o ≡ done-by cap-in → ◌≡◌ {A = Counts} (record { ins = c.ins + 1; outs = c.outs; opens = c.opens }) (counted c o)
  unfolding counted done_by kind_of
  counted-in e = rw e (λ i. record { ins = c.ins + 1; outs = same c.outs i; opens = same c.opens i })

  pub counted-out : {o : Outcome} → o ≡ done-by cap-out → ◌≡◌ {A = Counts} (record { ins = c.ins; outs = c.outs + 1; opens = c.opens }) (counted c o)
  unfolding counted done_by kind_of
  counted-out e = rw e (λ i. record { ins = same c.ins i; outs = c.outs + 1; opens = same c.opens i })

  pub counted-open : {o : Outcome} → o ≡ done-by cap-open → ◌≡◌ {A = Counts} (record { ins = c.ins; outs = c.outs; opens = c.opens + 1 }) (counted c o)
  unfolding counted done_by kind_of
  counted-open e = rw e (λ i. record { ins = same c.ins i; outs = same c.outs i; opens = c.opens + 1 })

-- one step more at the end
many-next : (kind : ℕ) (s : List ℕ) (ms : List Step) (m : Step) →
    how_many kind (outcomes permit_all s (ms ++ (m ∷ []))) ≡ how_many kind (outcomes permit_all s ms) + done_by kind (outcome permit_all (records (after_list permit_all s ms)) m.actor m.partner)
unfolding outcomes how_many after_list
many-next kind s [] m = omega arith
many-next kind s (o ∷ ms) m = omega (arith, many-next kind (step_bytes permit_all s o.actor o.partner) ms m)

module _ (s : List ℕ) (ms : List Step) (m : Step) (t : List ℕ) (e : t ≡ after_list permit_all s ms) where
  after_next : step_bytes permit_all t m.actor m.partner ≡ after_list permit_all s (ms ++ (m ∷ []))
  unfolding after_list
  after_next = ap (λ x. step_bytes permit_all x m.actor m.partner) e ∙ sym (list-append permit_all s ms (m ∷ []))

  answers_next : answers_of permit_all s ms ++ (answer_of (outcome permit_all (records t) m.actor m.partner) ∷ []) ≡ answers_of permit_all s (ms ++ (m ∷ []))
  unfolding answers_of outcomes
  answers_next = ap (λ x. answers_of permit_all s ms ++ (answer_of (outcome permit_all (records x) m.actor m.partner) ∷ [])) e ∙ sym (answers-append permit_all s ms (m ∷ []))

  done_next : (kind : ℕ) → how_many kind (outcomes permit_all s ms) + done_by kind (outcome permit_all (records t) m.actor m.partner) ≡ how_many kind (outcomes permit_all s (ms ++ (m ∷ [])))
  done_next kind =
      ap (λ x. how_many kind (outcomes permit_all s ms) + done_by kind (outcome permit_all (records x) m.actor m.partner)) e
      ∙ sym (many-next kind s ms m)

  counts-next : counted (counts_of (outcomes permit_all s ms)) (outcome permit_all (records t) m.actor m.partner) ≡ counts_of (outcomes permit_all s (ms ++ (m ∷ [])))
  unfolding counted counts_of
  counts-next = λ i. record { ins = done_next 2 i; outs = done_next 3 i; opens = done_next 4 i }

done-le : (kind : ℕ) (o : Outcome) → done_by kind o ≤ 1
unfolding done_by
done-le kind (refused-with n) = omega arith
done-le kind (done-by k) = go (eqb kind (kind_of k))
  where
    go : (b : Bool) → elim b [ true ↦ 1 | false ↦ 0 ] ≤ 1
    go true = omega arith
    go false = omega arith

many-le : (kind : ℕ) (s : List ℕ) (ms : List Step) → how_many kind (outcomes permit_all s ms) ≤ length ms
unfolding how_many outcomes
many-le kind s [] = omega arith
many-le kind s (m ∷ ms) = omega (arith, done-le kind (outcome permit_all (records s) m.actor m.partner), many-le kind (step_bytes permit_all s m.actor m.partner) ms)

answers-length : (s : List ℕ) (ms : List Step) → length (answers_of permit_all s ms) ≡ length ms
unfolding answers_of outcomes
answers-length s [] = refl
answers-length s (m ∷ ms) = ap suc (answers-length (step_bytes permit_all s m.actor m.partner) ms)

fill-next : (a d : List ℕ) (k v : ℕ) → length a ≡ k → k < length d → set (a ++ drop k d) k v ≡ (a ++ (v ∷ [])) ++ drop (k + 1) d
fill-next a d k v e l =
    let z : suc k ≡ k + 1 = omega arith in
    ap (λ x. set (a ++ x) k v) (drop-cons d k 0 l) ∙ set_at a _ (drop (suc k) d) v k e ∙ ap (λ j. a ++ (v ∷ drop j d)) z ∙ sym (append_assoc a (v ∷ []) (drop (k + 1) d))

-- what the run has after k steps: s and d are the itinerary and the answers at the start, z the script
pub record Running (s z d : List ℕ) (k : ℕ) (it ans : List ℕ) (c : Counts) : Type 0 where
  pub bytes : it ≡ after_list permit_all s (take k (steps_in z))
  pub long : length it ≡ length s
  pub answers : ans ≡ answers_of permit_all s (take k (steps_in z)) ++ drop k d
  pub counts : c ≡ counts_of (outcomes permit_all s (take k (steps_in z)))

pub running-start : (s z d : List ℕ) → Running s z d 0 s d (record { ins = 0; outs = 0; opens = 0 })
unfolding after_list answers_of outcomes counts_of how_many
running-start s z d = record { bytes = refl; long = refl; answers = refl; counts = refl }

module _ {s z d : List ℕ} {k : ℕ} {it ans : List ℕ} {c : Counts} (w : Running s z d k it ans c) (l : k ≤ length z / 4) (room : length d ≡ length z / 4) where
  length-first : length (take k (steps_in z)) ≡ k
  length-first = length-take-le k (steps_in z) (omega (arith, length-steps z))

  pub running-room : length ans ≡ length d
  running-room = ap length w.answers ∙ length-append (answers_of permit_all s (take k (steps_in z))) (drop k d) ∙ omega (arith, answers-length s (take k (steps_in z)), length-first, length-drop k d)

  pub running-few : (c.ins ≤ k) × (c.outs ≤ k) × (c.opens ≤ k)
  unfolding counts_of
  running-few =
      (rw (ap (λ x. x.ins) w.counts) (few 2), rw (ap (λ x. x.outs) w.counts) (few 3), rw (ap (λ x. x.opens) w.counts) (few 4))
    where
      few : (kind : ℕ) → how_many kind (outcomes permit_all s (take k (steps_in z))) ≤ k
      few kind = omega (arith, many-le kind s (take k (steps_in z)), length-first)

  pub running-valid : validity s ≡ pass → validity it ≡ pass
  running-valid v = ap validity w.bytes ∙ list-valid permit_all (take k (steps_in z)) s v

  pub running-end : length z / 4 ≤ k → (c ≡ counts_of (outcomes permit_all s (steps_in z))) × (it ≡ after_list permit_all s (steps_in z)) × (ans ≡ answers_of permit_all s (steps_in z))
  running-end m =
      let e = take_all k (steps_in z) (omega (arith, length-steps z)) in (
        w.counts ∙ ap (λ x. counts_of (outcomes permit_all s x)) e,
        w.bytes ∙ ap (after_list permit_all s) e,
        w.answers ∙ ap (λ x. answers_of permit_all s x ++ drop k d) e ∙ ap (λ x. answers_of permit_all s (steps_in z) ++ x) (let f : length d ≤ k = omega arith in drop_of_length-le d f) ∙ append-nil (answers_of permit_all s (steps_in z)),
      )

module _ {s z d : List ℕ} {k : ℕ} {it ans : List ℕ} {c : Counts} (w : Running s z d k it ans c) (l : k < length z / 4) (room : length d ≡ length z / 4)
    {actor partner : ℕ} {o : Outcome} (ea : actor ≡ word (byte z (4 * k)) (byte z (4 * k + 1)))
    (ep : partner ≡ word (byte z (4 * k + 2)) (byte z (4 * k + 2 + 1))) (eo : o ≡ outcome permit_all (records it) actor partner) where
  m : Step
  m = step_in z k

  is-actor : actor ≡ m.actor
  unfolding step_in m
  is-actor = ea

  is-partner : partner ≡ m.partner
  unfolding step_in m
  is-partner = let e : 4 * k + 2 + 1 ≡ 4 * k + 3 = omega arith in ep ∙ ap (λ j. word (byte z (4 * k + 2)) (byte z j)) e

  is-outcome : o ≡ outcome permit_all (records it) m.actor m.partner
  is-outcome = eo ∙ ap (λ x. outcome permit_all (records it) x partner) is-actor ∙ ap (λ x. outcome permit_all (records it) m.actor x) is-partner

  more : take (k + 1) (steps_in z) ≡ take k (steps_in z) ++ (m ∷ [])
  unfolding m
  more = next-step z k l

  pub running-next : (it' : List ℕ) (n : ℕ) (c' : Counts) → it' ≡ step_bytes permit_all it actor partner → length it' ≡ length it → n ≡ answer_of o → c' ≡ counted c o → Running s z d (k + 1) it' (set ans k n) c'
  running-next it' n c' e f h g = record {
    bytes = e ∙ ap (λ x. step_bytes permit_all it x partner) is-actor ∙ ap (λ x. step_bytes permit_all it m.actor x) is-partner ∙ after_next s (take k (steps_in z)) m it w.bytes ∙ ap (after_list permit_all s) (sym more);
    long = f ∙ w.long;
    answers =
        ap (λ x. set x k n) w.answers
        ∙ fill-next (answers_of permit_all s (take k (steps_in z))) d k n (answers-length s (take k (steps_in z)) ∙ length-take-le k (steps_in z) (omega (arith, length-steps z))) (omega arith)
        ∙ ap (λ x. (answers_of permit_all s (take k (steps_in z)) ++ (x ∷ [])) ++ drop (k + 1) d) (h ∙ ap answer_of is-outcome)
        ∙ ap (λ x. x ++ drop (k + 1) d) (answers_next s (take k (steps_in z)) m it w.bytes ∙ ap (answers_of permit_all s) (sym more));
    counts =
        g ∙ ap (λ x. counted x o) w.counts ∙ ap (counted (counts_of (outcomes permit_all s (take k (steps_in z))))) is-outcome
        ∙ counts-next s (take k (steps_in z)) m it w.bytes ∙ ap (λ x. counts_of (outcomes permit_all s x)) (sym more);
  }
