-- Every reduction is a step that is done, on records and for any permit (`found`): by induction on the reduction; at its axiom the
-- reading names the actor and the partner, and on the way down every record is an ambient, so the actor is active.
use Rattle.std.specs.Prelude.{ℕ, List, ◌≢◌, ◌≡◌}
use borrow.Author.Tests.{eq-eqb, ne_eqb}
use Rattle.std.proofs.Math.Bool.{true}
use Rattle.std.proofs.Common.{◌∙◌, ap, arith}
use Rattle.std.proofs.Math.Path.{refl, subst, sym}
use Rattle.model.specs.Analysis.{Permit}
use Rattle.model.specs.Climbing.{ambients, ambients_only, view}
use Rattle.model.proofs.Laws.Containers.{ambient-and, ambients-here}
use Rattle.model.proofs.Laws.Done.{Done, amb-alive}
use Rattle.model.proofs.Laws.Moves.{After, after-alike, after-beside, after_same, after-within, enters-after, leaves_after, opens-after, turned}
use Rattle.model.proofs.Laws.Readings.{Once, ambient-said, conform, differ, one-self, cap-said}
use Rattle.model.proofs.Laws.Views.{view-on}
use Rattle.model.proofs.Laws.WellFormed.{WellFormed, alive-pos}
use Rattle.model.specs.Processes.{Process, Reads, Reduces, Says, alike, ambient, beside, both, enters, leaves, opens, cap, read, times, within}
use Rattle.model.specs.Records.{Capability, at, cap-in, cap-open, cap-out, is_ambient, parent_of}
use Rattle.model.specs.Steps.{move, ready, stands}
use Rattle.model.specs.declared.Rec.{Rec}

-- a step that is done, and what it leaves
pub record Found (permit : Permit) (its : List Rec) (q : ℕ) (N : ℕ → ℕ) (Q : Process) : Type 0 where
  pub k : Capability
  pub c : ℕ
  pub b : ℕ
  pub done : Done permit k its c b
  pub left : After its (move k its c b) q N Q

module _ {its : List Rec} (wf : WellFormed its) where
  ambients-down : (a : ℕ) {q : ℕ} → is_ambient (at its a) ≡ true → parent_of its a ≡ q → ambients its q ≡ true → ambients its a ≡ true
  ambients-down a h e u = view-on ambients_only wf a (alive-pos its a (amb-alive its a h)) ∙ ambient-and _ _ h ∙ ap (view ambients_only its) e ∙ u

  pub ambients-up : (i : ℕ) → i ≢ 0 → ambients its i ≡ true → ambients its (parent_of its i) ≡ true
  ambients-up i z h = sym (view-on ambients_only wf i z ∙ ambient-and _ _ (ambients-here wf i z h)) ∙ h

module _ {permit : Permit} {its : List Rec} (wf : WellFormed its) where
  module _ (b c : ℕ) {q a l t m : ℕ} (pb : parent_of its b ≡ q) (pc : parent_of its c ≡ a) (sb : Says (at its b) (ambient l m)) where
    done-of : (k : Capability) → Says (at its c) (cap k t m) → ready k its a ≡ true → stands k its a b ≡ true → permit k (at its a).label l ≡ true → Done permit k its c b
    done-of k sc r s w =
        record {
          cap = (cap-said sc).0;
          is_ready = subst (λ x. ready k its x ≡ true) (sym pc) r;
          amb = (ambient-said sb).0;
          name = (ambient-said sb).2 ∙ sym (cap-said sc).2;
          stand = subst (λ x. stands k its x b ≡ true) (sym pc) s;
          right = subst (λ x. permit k (at its x).label (at its b).label ≡ true) (sym pc) (rw (ambient-said sb).1 w);
        }

    enters-done : Says (at its c) (cap cap-in t m) → b ≢ a → parent_of its a ≡ q → {lₐ n : ℕ} → Says (at its a) (ambient lₐ n) → ambients its q ≡ true → permit cap-in lₐ l ≡ true → Done permit cap-in its c b
    unfolding ready stands
    enters-done sc ba pa sa u w =
        let h = ambient-said sa in
        done-of cap-in sc (rw (h.0, ambients-down wf a h.0 pa u)) (rw (ne_eqb b a ba, eq-eqb _ _ (pb ∙ sym pa))) (rw h.1 w)

    leaves-done : Says (at its c) (cap cap-out t m) → parent_of its a ≡ b → {lₐ n : ℕ} → Says (at its a) (ambient lₐ n) → ambients its q ≡ true → permit cap-out lₐ l ≡ true → Done permit cap-out its c b
    unfolding ready stands
    leaves-done sc pa sa u w =
        let h = ambient-said sa in
        done-of cap-out sc (rw (h.0, ambients-down wf a h.0 pa (ambients-down wf b (ambient-said sb).0 pb u))) (eq-eqb _ _ (sym pa)) (rw h.1 w)

    opens-done : Says (at its c) (cap cap-open t m) → q ≡ a → {lₐ : ℕ} → (at its a).label ≡ lₐ → ambients its a ≡ true → permit cap-open lₐ l ≡ true → Done permit cap-open its c b
    unfolding ready stands
    opens-done sc qa h u w = done-of cap-open sc u (eq-eqb _ _ (pb ∙ qa)) (rw h w)

  -- every reduction is a step that is done
  pub found : {w : ℕ} {P Q : Process} → Reduces permit w P Q → (q : ℕ) (r : Reads its q P) → Once q (times r) → (at its q).label ≡ w → ambients its q ≡ true → Found permit its q (times r) Q
  unfolding move times
  found (enters w) q (both (read a pa sa (both (read c pc sc rP) rQ)) (read b pb sb rR)) o l u = record {
    k = cap-in;
    c = c;
    b = b;
    done = enters-done b c pb pc sb sc (differ b a (omega (arith, o a, one-self a))) pa sa u w;
    left = after_same (ap (λ x. turned its x c b) (sym pc)) (enters-after a b c sa sb sc pc rP rQ rR pa pb o);
  }
  found (leaves w) q (read b pb sb (both (read a pa sa (both (read c pc sc rP) rQ)) rR)) o l u = record {
    k = cap-out;
    c = c;
    b = b;
    done = leaves-done b c pb pc sb sc pa sa u w;
    left = after_same (ap (λ x. turned its x c (parent_of its b)) (sym pc)) (leaves_after a b c sa sb sc pc rP rQ rR pa pb o);
  }
  found (opens w) q (both (read c pc sc rP) (read b pb sb rQ)) o l u = record {
    k = cap-open;
    c = c;
    b = b;
    done = opens-done b c pb pc sb sc refl l u w;
    left = opens-after b c sb sc rP rQ pc pb o;
  }
  found (within e) q (read j p s r) o l u =
      let w = found e j r (λ i. omega (arith, o i)) (ambient-said s).1 (ambients-down wf j (ambient-said s).0 p u) in
      record { k = w.k; c = w.c; b = w.b; done = w.done; left = after-within p s r o w.left }
  found (beside e) q (both r t) o l u =
      let w = found e q r (λ i. omega (arith, o i)) l u in
      record { k = w.k; c = w.c; b = w.b; done = w.done; left = after-beside r t o w.left }
  found (alike e f g) q r o l u =
      let v = (conform e).0 q r in
      let w = found f q v.reads (λ i. omega (arith, o i, v.counts i)) l u in
      record { k = w.k; c = w.c; b = w.b; done = w.done; left = after-alike v.counts w.left g }
