-- What is promised of a copy, on bytes: besides what Laws/Copying has, how many records stand after it, and which. Each record beneath the
-- replication fills another gone one, so they grow by as many. And a replication is no actor and no partner.
use Rattle.std.specs.Prelude.{◌+◌, ◌<◌, ◌≤◌, ℕ, eqb, get_or, length, Bool, ◌||◌, false, not, true, List, [], ◌∷◌, ◌≢◌, ◌≡◌, refl}
use Rattle.std.proofs.Common.{eq-eqb, eqb-true, ne_eqb, ◌∙◌, ap, sym, arith}
use Rattle.std.proofs.Math.Decide.{ℕ_discrete}
use Rattle.model.specs.Analysis.{permit_all}
use Rattle.model.specs.Calls.{copy_after, copy_answer, copying, step_answer}
use Rattle.model.specs.Copies.{beneath, copy, copy_parent, gones}
use Rattle.model.specs.Finite.{across, tally}
use Rattle.model.specs.Records.{at, capability, count, encode, is_ambient, is_replication, parent_of, records}
use Rattle.model.specs.Refusals.{content, done, number, pass}
use Rattle.model.specs.Requests.{CopyKept, ReplicationInert}
use Rattle.model.specs.Scripts.{not_gone}
use Rattle.model.specs.Steps.{Outcome, answer_of, done-by, outcome, outcome_by, refused-with, to}
use Rattle.model.specs.Validity.{validity}
use Rattle.model.specs.declared.Rec.{Rec}
use Rattle.model.proofs.Laws.Bytes.{length-encode, length-records, records-encode, size-whole, valid-passed, valid-wf}
use Rattle.model.proofs.Laws.Checks.{answer-done, answer-value}
use Rattle.model.proofs.Laws.Conservation.{not_gone-tally, there as stands}
use Rattle.model.proofs.Laws.Copying.{Copied, Copyable, beneath-alive, copied-at, copy-holding, copy-length, copy-valid, copying-passes, filled, gone-member, gones-distinct, origin-filled, remains}
use Rattle.model.proofs.Laws.Done.{outcome-done, refused-number}
use Rattle.model.proofs.Laws.Forest.{mark, tally-mark, tally-same}
use Rattle.model.proofs.Laws.Holding.{holds-complete, holds-sound}
use Rattle.model.proofs.Laws.Lists.{step-number}
use Rattle.model.proofs.Laws.Numbers.{Distinct, Member, across-first, across-kth, across-next, across-place, across-use, here, member-get, more, there}
use Rattle.model.proofs.Laws.Secrecy.{accept, accepted}
use Rattle.model.proofs.Laws.WellFormed.{WellFormed, alive-pos}

-- how many pass a test or are filled, where os go to the places gs
module _ (A : ℕ → Bool) (n : ℕ) where
  fills : List ℕ → List ℕ → ℕ → Bool
  fills gs os i = not (eqb (across gs os i) 0) || A i

  fill-none : (gs : List ℕ) → tally (fills gs []) n ≡ tally A n
  unfolding fills across
  fill-none [] = refl
  fill-none (g ∷ gs) = refl

  -- each goes to another place
  fill-tally : (gs os : List ℕ) → Distinct gs → ((g : ℕ) → Member g gs → (g ≢ 0) × (g ≤ n) × (A g ≡ false)) → ((o : ℕ) → Member o os → o ≢ 0) → length os ≤ length gs →
      tally (fills gs os) n ≡ tally A n + length os
  unfolding fills mark
  fill-tally gs [] d free pos l = omega (arith, fill-none gs)
  fill-tally [] (o ∷ os) d free pos l = absurd (omega arith)
  fill-tally (g ∷ gs) (o ∷ os) (more f d) free pos l =
      let w = free g here in
      let ih = fill-tally gs os d (λ h m. free h (there m)) (λ h m. pos h (there m)) (omega arith) in
      tally-same _ _ n (λ i _. each i (ℕ_discrete i g)) ∙ tally-mark (fills gs os) g n w.0 w.1 (not-yet w.2) ∙ omega arith
    where
      not-yet : A g ≡ false → fills gs os g ≡ false
      not-yet e = go (ℕ_discrete (across gs os g) 0)
        where
          go : Dec (across gs os g ≡ 0) → (not (eqb (across gs os g) 0) || A g) ≡ false
          go (yes q) = rw (eq-eqb _ 0 q, e)
          go (no q) = absurd (f (across-use gs os g q).0)

      each : (i : ℕ) → Dec (i ≡ g) → fills (g ∷ gs) (o ∷ os) i ≡ mark g (fills gs os) i
      each i (yes q) = rw (across-first g o gs os i q, eq-eqb i g q, ne_eqb o 0 (pos o here))
      each i (no q) = rw (across-next g o gs os i q, ne_eqb i g q)

module _ {its : List Rec} (wf : WellFormed its) (c : ℕ) (can : Copyable its c) where
  -- "Records not gone grow by the number copied."
  pub copy-not_gone : not_gone (copy c its) ≡ not_gone its + length (beneath its c)
  unfolding stands fills
  copy-not_gone =
      not_gone-tally (copy c its) ∙ ap (tally (stands (copy c its))) (copy-length its c)
      ∙ tally-same _ _ (length its) (λ i _. each i (copied-at wf c can i))
      ∙ fill-tally (stands its) (length its) (gones its) (beneath its c) (gones-distinct its)
      (λ g m. let w = gone-member wf c can m in (w.1, w.2, ap not (eq-eqb _ 0 w.0))) (λ o m. alive-pos its o (beneath-alive wf c can m)) can.room
      ∙ ap (λ k. k + length (beneath its c)) (sym (not_gone-tally its))
    where
      each : (i : ℕ) → Copied its c i → stands (copy c its) i ≡ fills (stands its) (length its) (gones its) (beneath its c) i
      each i (remains e _ q) = rw (q, eq-eqb _ 0 e)
      each i (filled e k m q) = rw (ne_eqb _ 0 e) (ap not (ap (λ r. eqb r.kind 0) q ∙ ne_eqb _ 0 (beneath-alive wf c can m)))

  -- "The k-th of them by number goes into the k-th gone record by number"
  pub copy-filled : (k : ℕ) → k < length (beneath its c) → let o : ℕ = get_or (beneath its c) k 0 in at (copy c its) (get_or (gones its) k 0) ≡ to (copy_parent its c (parent_of its o)) (at its o)
  copy-filled k l = go (copied-at wf c can (get_or (gones its) k 0))
    where
      o : ℕ
      o = get_or (beneath its c) k 0

      room : length (beneath its c) ≤ length (gones its)
      room = can.room

      e : across (gones its) (beneath its c) (get_or (gones its) k 0) ≡ o
      e = across-kth (gones its) (beneath its c) (gones-distinct its) k (omega arith) l

      z : o ≢ 0
      z = alive-pos its o (beneath-alive wf c can (member-get (beneath its c) k l))

      go : Copied its c (get_or (gones its) k 0) → at (copy c its) (get_or (gones its) k 0) ≡ to (copy_parent its c (parent_of its o)) (at its o)
      go (remains q _ _) = absurd (z (sym e ∙ q))
      go (filled n _ _ q) = q ∙ ap (λ j. to (copy_parent its c (parent_of its j)) (at its j)) (origin-filled its c _ n ∙ e)

  -- every other record stays
  pub copy-others : (i : ℕ) → ((k : ℕ) → k < length (beneath its c) → i ≢ get_or (gones its) k 0) → at (copy c its) i ≡ at its i
  copy-others i f = go (copied-at wf c can i)
    where
      go : Copied its c i → at (copy c its) i ≡ at its i
      go (remains _ _ q) = q
      go (filled n _ _ _) = let w = across-place (gones its) (beneath its c) i n in absurd (f w.0 w.2 (sym w.3))

pub copy-kept : CopyKept
unfolding copy_answer copy_after content count
copy-kept s c n h = record {
  valid = copy-valid s c v;
  long = rw bytes (omega (arith, length-encode (copy c (records s)), copy-length (records s) c, length-records s, size-whole s (valid-passed s v).size));
  grows = rw (recs, many) (copy-not_gone wf c can);
  holds = λ permit policy T t. holds-complete permit policy _ T (copy-holding s c v (holds-sound permit policy (records s) T t));
  accepted = λ policy table t. let w = accepted s policy table t in
      accept _ policy table (record { valid = copy-valid s c v; policy-right = w.policy-right; table-right = w.table-right; holding = copy-holding s c v w.holding });
  filled = λ k l. rw recs (copy-filled wf c can k (rw many at l));
  others = λ i f. rw recs (copy-others wf c can i (rw many at f));
}
  where
    p : copying s c ≡ pass
    p = answer-done (copying s c) _ n h

    v : validity s ≡ pass
    v = (copying-passes s c p).0

    can : Copyable (records s) c
    can = (copying-passes s c p).1

    wf : WellFormed (records s)
    wf = valid-wf s v

    bytes : copy_after s c ≡ encode (copy c (records s))
    bytes = rw (p, content)

    recs : records (copy_after s c) ≡ copy c (records s)
    recs = ap records bytes ∙ records-encode (copy c (records s))

    many : n ≡ length (beneath (records s) c)
    many = sym (answer-value (copying s c) _ n h)

-- a replication is no capability and no ambient
pub replication-inert : ReplicationInert
unfolding is_replication is_ambient outcome outcome_by capability answer_of
replication-inert s c b v = (actor, partner)
  where
    actor : is_replication (at (records s) c) ≡ true → number (step_answer s c b) ≡ 10
    actor r =
        let k : (at (records s) c).kind ≡ 5 = eqb-true _ _ r in
        step-number s v c b ∙ ap (λ o. answer_of (outcome_by permit_all (capability o) (records s) c b)) k

    no-partner : is_replication (at (records s) b) ≡ true → (o : Outcome) → outcome permit_all (records s) c b ≡ o → answer_of o ≢ 0
    no-partner r (refused-with n) e z = omega (arith, z, (refused-number permit_all (records s) c b n e).0)
    no-partner r (done-by k) e z =
        let five : (at (records s) b).kind ≡ 5 = eqb-true _ _ r in
        let one : (at (records s) b).kind ≡ 1 = eqb-true _ _ (outcome-done k e).amb in
        omega arith

    partner : is_replication (at (records s) b) ≡ true → step_answer s c b ≢ done tt
    partner r e = no-partner r (outcome permit_all (records s) c b) refl (sym (step-number s v c b) ∙ ap number e)
