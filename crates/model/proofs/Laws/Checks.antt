-- The laws of checks in sequence: what they let through, what a call answers by them, and what its buffers keep. The code
-- holds what a sequence of checks found as a Result, and goes on by `?`: `passed` and `refused-by` say what that tells of
-- the sequence; what a sequence that passed says is found by `search passes`, and that one passes by `search all_pass`.
use Prim.Native.Nat.{◌+◌, ◌-◌, ◌<◌, ◌≤◌, suc, zero, ℕ}
use Rattle.std.proofs.Common.{eqb-true, ◌∙◌}
use Rattle.std.specs.Prelude.{length, Bool, false, true, List, ◌≡◌, Result, Ok, Err}
use Rattle.std.proofs.Math.Path.{ap, refl, sym}
use Rattle.std.proofs.Math.Decide.{ℕ_discrete}
use native.Mathlib.Omega.{arith}
use Rattle.model.proofs.Laws.Booleans.{and_left}
use Rattle.model.specs.Numbers.{answer_as, check_as, number_of, refusal}
use Rattle.model.specs.Refusals.{Check, and_then, answer, content, done, each_of, need, pass, refuse, refused}
use Rattle.model.specs.Tables.{policy_right, table_right, table_sized}
use Rattle.model.specs.declared.Refusal.{Refusal}

pub then-pass : (a b : Check) → and_then a b ≡ pass → (a ≡ pass) × (b ≡ pass)
unfolding and_then
then-pass pass b h = (refl, h)
then-pass (refuse n r) b h = let u : ◌≡◌ {A = ℕ} 0 1 = cc in absurd (omega arith)

-- a check in a sequence that passed
pub then-left : (a b : Check) → and_then a b ≡ pass → a ≡ pass
then-left a b h = (then-pass a b h).0

pub then-right : (a b : Check) → and_then a b ≡ pass → b ≡ pass
then-right a b h = (then-pass a b h).1

pub then-make : {a b : Check} → a ≡ pass → b ≡ pass → and_then a b ≡ pass
unfolding and_then
then-make p q = rw (p, and_then) q

pub need-pass : (b : Bool) (n r : ℕ) → need b n r ≡ pass → b ≡ true
unfolding need
need-pass true n r h = refl
need-pass false n r h = let u : ◌≡◌ {A = ℕ} 0 1 = cc in absurd (omega arith)

pub need-make : {b : Bool} (n r : ℕ) → b ≡ true → need b n r ≡ pass
unfolding need
need-make n r e = rw e

pub need-refuse : {b : Bool} (n i : ℕ) → b ≡ false → need b n i ≡ refuse n i
unfolding need
need-refuse n i e = rw e

-- a sequence of checks that all pass
pub ruleset all_pass = (then-make, need-make)

pub then-refuse : {a : Check} {n i : ℕ} (b : Check) → a ≡ refuse n i → and_then a b ≡ refuse n i
unfolding and_then
then-refuse b e = rw (e, and_then)

pub then_next : {a : Check} (b : Check) → a ≡ pass → and_then a b ≡ b
unfolding and_then
then_next b e = rw (e, and_then)

module _ (check : ℕ → Check) where
  pub each-pass : (i n : ℕ) → each_of check i n ≡ pass → (j : ℕ) → i ≤ j → j < i + n → check j ≡ pass
  unfolding each_of
  each-pass i zero h j l m = absurd (omega arith)
  each-pass i (suc n) h j l m = go (ℕ_discrete j i) (then-pass (check i) _ h) (λ h' l'. each-pass (suc i) n h' j l' (omega arith))
    where
      go : Dec (j ≡ i) → (check i ≡ pass) × (each_of check (suc i) n ≡ pass) → (each_of check (suc i) n ≡ pass → suc i ≤ j → check j ≡ pass) → check j ≡ pass
      go (yes e) w ih = rw e w.0
      go (no e) w ih = ih w.1 (omega arith)

  pub each-make : (i n : ℕ) → ((j : ℕ) → i ≤ j → j < i + n → check j ≡ pass) → each_of check i n ≡ pass
  unfolding each_of
  each-make i zero h = refl
  each-make i (suc n) h = then-make (h i (omega arith) (omega arith)) (each-make (suc i) n (λ j l m. h j (omega arith) (omega arith)))

-- a pass over the records 1 to n, i of them passed: what is left decides
module _ (check : ℕ → Check) where
  abbrev pub Rest : ℕ → ℕ → Check
  Rest n i = each_of check (i + 1) (n - i)

  pub rest-start : (n : ℕ) → each_of check 1 n ≡ Rest n 0
  rest-start n = let e : n ≡ n - 0 = omega arith in ap (each_of check 1) e

  opened : (n i : ℕ) → i < n → Rest n i ≡ and_then (check (i + 1)) (Rest n (i + 1))
  unfolding each_of
  opened n i l =
      let e : n - i ≡ suc (n - (i + 1)) = omega arith in
      let f : suc (i + 1) ≡ i + 1 + 1 = omega arith in
      ap (each_of check (i + 1)) e ∙ ap (λ j. and_then (check (i + 1)) (each_of check j (n - (i + 1)))) f

  pub rest-next : (n i : ℕ) → i < n → check (i + 1) ≡ pass → Rest n i ≡ Rest n (i + 1)
  unfolding and_then
  rest-next n i l e = opened n i l ∙ ap (λ a. and_then a (Rest n (i + 1))) e

  pub rest-refuse : (n i k j : ℕ) → i < n → check (i + 1) ≡ refuse k j → Rest n i ≡ refuse k j
  unfolding and_then
  rest-refuse n i k j l e = opened n i l ∙ ap (λ a. and_then a (Rest n (i + 1))) e

  pub rest_end : (n i : ℕ) → n ≤ i → Rest n i ≡ pass
  unfolding each_of
  rest_end n i l = let e : n - i ≡ 0 = omega arith in ap (each_of check (i + 1)) e

-- a call is done exactly where its checks pass
pub answer-done : {A : Type 0} (c : Check) (x y : A) → answer c x ≡ done y → c ≡ pass
unfolding answer
answer-done pass x y h = refl
answer-done (refuse n r) x y h = let u : ◌≡◌ {A = ℕ} 0 1 = cc in absurd (omega arith)

pub answer-value : {A : Type 0} (c : Check) (x y : A) → answer c x ≡ done y → x ≡ y
unfolding answer
answer-value pass x y h = cc
answer-value (refuse n r) x y h = let u : ◌≡◌ {A = ℕ} 0 1 = cc in absurd (omega arith)

pub answer-pass : {A : Type 0} {c : Check} (x : A) → c ≡ pass → answer c x ≡ done x
unfolding answer
answer-pass x e = rw (e, answer)

pub answer-refuse : {A : Type 0} {c : Check} {n i : ℕ} (x : A) → c ≡ refuse n i → answer c x ≡ refused n i
unfolding answer
answer-refuse x e = rw (e, answer)

pub answer-refused : {A : Type 0} {n i : ℕ} (c : Check) (x : A) → answer c x ≡ refused n i → c ≡ refuse n i
unfolding answer
answer-refused pass x h = let u : ◌≡◌ {A = ℕ} 0 1 = cc in absurd (omega arith)
answer-refused (refuse n i) x h = cc

-- the two answers of a call: refused, and done
pub refuse-answer : {A : Type 0} {c : Check} (x : A) (r : Refusal) → c ≡ refuse (number_of r.cause) r.«record» → refusal r ≡ answer c x
unfolding refusal
refuse-answer x r e = sym (answer-refuse x e)

pub done-answer : {A : Type 0} {c : Check} {x : A} (y : A) → c ≡ pass → x ≡ y → done x ≡ answer c y
done-answer y e q = ap done q ∙ sym (answer-pass y e)

pub content-kept : {A : Type 0} {c : Check} {n i : ℕ} (x y : A) → c ≡ refuse n i → y ≡ content c x y
unfolding content
content-kept x y e = sym (rw (e, content))

pub content-new : {A : Type 0} {c : Check} (x y : A) → c ≡ pass → x ≡ content c x y
unfolding content
content-new x y e = sym (rw (e, content))

-- ---- checks as a value

pub need-true : {b : Bool} (n r : ℕ) → b ≡ true → pass ≡ need b n r
unfolding need
need-true n r e = sym (rw e)

pub need-false : {b : Bool} (n r : ℕ) → b ≡ false → refuse n r ≡ need b n r
unfolding need
need-false n r e = sym (rw e)

-- what the value says of the check it stands for
module _ {A : Type 0} (v : Result A Refusal) (k : Check) (h : check_as v ≡ k) where
  pub passed : {x : A} → v ≡ Ok x → k ≡ pass
  unfolding check_as
  passed e = sym h ∙ ap check_as e

  pub refused-by : {r : Refusal} → v ≡ Err r → k ≡ refuse (number_of r.cause) r.«record»
  unfolding check_as
  refused-by e = sym h ∙ ap check_as e

-- what an answer says of the check behind it
module _ {A : Type 0} (v : Result A Refusal) (k : Check) (x : A) (h : answer_as v ≡ answer k x) where
  pub answered-done : {y : A} → v ≡ Ok y → k ≡ pass
  unfolding answer_as
  answered-done {y} e = answer-done k x y (sym h ∙ ap answer_as e)

  pub answered-refused : {r : Refusal} → v ≡ Err r → k ≡ refuse (number_of r.cause) r.«record»
  unfolding answer_as refusal
  answered-refused e = answer-refused k x (sym h ∙ ap answer_as e)

-- ---- what a check that passed says

-- a policy that 7 lets through is 64 bytes long
pub policy-length : (policy : List ℕ) → policy_right policy ≡ true → length policy ≡ 64
unfolding policy_right
policy-length policy h = eqb-true _ _ (and_left _ _ h)

-- a table that 8 lets through is 1,544 bytes long
pub table-length : (table : List ℕ) → table_right table ≡ true → length table ≡ 1544
unfolding table_right table_sized
table-length table h = eqb-true _ _ (and_left _ _ h)

pub sized-length : (table : List ℕ) → table_sized table ≡ true → length table ≡ 1544
unfolding table_sized
sized-length table h = eqb-true _ _ h

-- what follows from a check that passed, at any place of the sequence
pub ruleset passes = (then-left, then-right, need-pass, eqb-true, policy-length, table-length, sized-length)
