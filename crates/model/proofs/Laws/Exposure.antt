-- Job 1: the exposure call answers what the verdict call's answer says. Both are behind the same checks, and some label of R is
-- high exactly where there is a lowest such one, which is where the verdict is exposed.
use Rattle.std.specs.Prelude.{ℕ, Bool, ◌&&◌, false, true, List, ◌≡◌, refl}
use Rattle.std.proofs.Common.{true≢false, ◌∙◌, ap, sym, arith}
use Rattle.std.specs.Prelude.{Option, None, Some}
use Rattle.model.specs.Calls.{checking, exposed_answer, verdict_answer}
use Rattle.model.specs.Finite.{lowest, some_of}
use Rattle.model.proofs.Laws.Booleans.{and_left, and-make, and_right}
use Rattle.model.proofs.Laws.Finite.{lowest-none, lowest-some, some_of-make, some_of-use}
use Rattle.model.specs.Refusals.{Check, answer, pass, read_off, refuse}
use Rattle.model.specs.Requests.{ExposedAsVerdict, is_exposed}
use Rattle.model.specs.Tables.{Table, bits, is_high, parts}
use Rattle.model.specs.Verdicts.{exposed, in_r, verdict_by, verdict_of}

-- what is read off an answer is read off what a call that passes its checks returns
pub read-answer : {A B : Type 0} (f : A → B) (c : Check) (x : A) → answer c (f x) ≡ read_off f (answer c x)
unfolding answer read_off
read-answer f pass x = refl
read-answer f (refuse n r) x = refl

-- some number has both where there is a lowest one that has
some-lowest : (t f : ℕ → Bool) (both : Option ℕ) → some_of 64 t f ≡ is_exposed (verdict_by (lowest (λ k. t k && f k) 0 64) both)
unfolding is_exposed verdict_by
some-lowest t f both = go (lowest (λ k. t k && f k) 0 64) refl both
  where
    none_has : lowest (λ k. t k && f k) 0 64 ≡ None → (b : Bool) → some_of 64 t f ≡ b → b ≡ false
    none_has e true h = let w = some_of-use t f 64 h in absurd (true≢false (sym (and-make w.2 w.3) ∙ lowest-none (λ k. t k && f k) 0 64 e w.0 (omega arith) (omega (arith, w.1))))
    none_has e false h = refl

    go : (o : Option ℕ) → lowest (λ k. t k && f k) 0 64 ≡ o → (p : Option ℕ) → some_of 64 t f ≡ is_exposed (verdict_by o p)
    go (Some k) e p = let w = lowest-some (λ j. t j && f j) 0 64 k e in some_of-make t f 64 k (omega (arith, w.1)) (and_left _ _ w.2) (and_right (t k) _ w.2)
    go None e (Some k) = none_has e _ refl
    go None e None = none_has e _ refl

pub exposed-is : (T : Table) (policy : List ℕ) → exposed T policy ≡ is_exposed (verdict_of T policy)
unfolding exposed verdict_of
exposed-is T policy = some-lowest (in_r T policy) (is_high policy) _

pub exposed-as-verdict : ExposedAsVerdict
unfolding exposed_answer verdict_answer
exposed-as-verdict s policy table = ap (answer (checking s policy table)) (exposed-is (parts (bits table)) policy) ∙ read-answer is_exposed (checking s policy table) _
