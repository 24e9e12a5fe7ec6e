-- The laws of the bounded loops, in both directions.
use Prim.Native.Nat.{◌+◌, ◌<◌, ◌≤◌, suc, zero, ℕ}
use Rattle.std.specs.Prelude.{get_or, length, replicate, Bool}
use Rattle.std.proofs.Math.Bool.{false, true}
use Rattle.std.proofs.Common.{true≢false, ◌∙◌, add-suc, add-zero}
use Rattle.std.specs.Prelude.{None, Some}
use Rattle.std.proofs.Math.Path.{◌≡◌, ap, refl, sym}
use Rattle.std.proofs.Math.Decide.{ℕ_discrete}
use Rattle.std.proofs.Math.Nat.{suc-add}
use native.Mathlib.Omega.{arith}
use Rattle.model.specs.Finite.{every, lowest, some_of, tabulate}

module _ (t f : ℕ → Bool) where
  pub every-skip : (n : ℕ) → t n ≡ false → every (suc n) t f ≡ every n t f
  unfolding every
  every-skip n e = rw (e, every)

  pub every_take : (n : ℕ) → t n ≡ true → f n ≡ true → every (suc n) t f ≡ every n t f
  unfolding every
  every_take n e g = rw (e, every) (rw g)

  pub every-fail : (n : ℕ) → t n ≡ true → f n ≡ false → every (suc n) t f ≡ false
  unfolding every
  every-fail n e g = rw (e, every) (rw g)

  every-step : (n : ℕ) → every (suc n) t f ≡ true → (t n ≡ true → f n ≡ true) × (every n t f ≡ true)
  every-step n h = go (t n) (f n) refl refl
    where
      go : (a b : Bool) → t n ≡ a → f n ≡ b → (t n ≡ true → f n ≡ true) × (every n t f ≡ true)
      go false b e g = (λ u. absurd (true≢false (sym u ∙ e)), sym (every-skip n e) ∙ h)
      go true true e g = (λ _. g, sym (every_take n e g) ∙ h)
      go true false e g = absurd (true≢false (sym h ∙ every-fail n e g))

  pub every-use : (n : ℕ) → every n t f ≡ true → (x : ℕ) → x < n → t x ≡ true → f x ≡ true
  every-use zero h x l e = absurd (omega arith)
  every-use (suc n) h x l e = go (ℕ_discrete x n) (every-step n h) (λ h' l'. every-use n h' x l' e)
    where
      go : Dec (x ≡ n) → (t n ≡ true → f n ≡ true) × (every n t f ≡ true) → (every n t f ≡ true → x < n → f x ≡ true) → f x ≡ true
      go (yes q) w ih = rw q (w.0 (rw q at e))
      go (no q) w ih = ih w.1 (omega arith)

  pub every-make : (n : ℕ) → ((x : ℕ) → x < n → t x ≡ true → f x ≡ true) → every n t f ≡ true
  unfolding every
  every-make zero h = refl
  every-make (suc n) h = go (t n) refl (every-make n (λ x l. h x (omega arith)))
    where
      go : (a : Bool) → t n ≡ a → every n t f ≡ true → every (suc n) t f ≡ true
      go false e ih = every-skip n e ∙ ih
      go true e ih = every_take n e (h n (omega arith) e) ∙ ih

module _ (f : ℕ → Bool) where
  lowest_step : (i n : ℕ) → lowest f i (suc n) ≡ None → (f i ≡ false) × (lowest f (suc i) n ≡ None)
  unfolding lowest
  lowest_step i n h = go (f i) refl
    where
      go : (t : Bool) → f i ≡ t → (f i ≡ false) × (lowest f (suc i) n ≡ None)
      go true e = let w : lowest f i (suc n) ≡ Some i = rw (e, lowest) in let u : ◌≡◌ {A = ℕ} 0 1 = cc in absurd (omega arith)
      go false e = (e, (let w : lowest f i (suc n) ≡ lowest f (suc i) n = rw (e, lowest) in sym w ∙ h))

  pub lowest-none : (i n : ℕ) → lowest f i n ≡ None → (j : ℕ) → i ≤ j → j < i + n → f j ≡ false
  lowest-none i zero h j l m = absurd (omega arith)
  lowest-none i (suc n) h j l m = go (ℕ_discrete j i) (lowest_step i n h) (λ h' l'. lowest-none (suc i) n h' j l' (omega arith))
    where
      go : Dec (j ≡ i) → (f i ≡ false) × (lowest f (suc i) n ≡ None) → (lowest f (suc i) n ≡ None → suc i ≤ j → f j ≡ false) → f j ≡ false
      go (yes e) w ih = rw e w.0
      go (no e) w ih = ih w.1 (omega arith)

module _ {A : Type 0} (f : ℕ → A) where
  pub length-tabulate : (i n : ℕ) → length (tabulate i n f) ≡ n
  unfolding tabulate
  length-tabulate i zero = refl
  length-tabulate i (suc n) = ap suc (length-tabulate (suc i) n)

  pub get_d_tabulate : (i n j : ℕ) (d : A) → j < n → get_or (tabulate i n f) j d ≡ f (i + j)
  unfolding tabulate
  get_d_tabulate i zero j d h = absurd (omega arith)
  get_d_tabulate i (suc n) zero d h = rw (add-zero i)
  get_d_tabulate i (suc n) (suc j) d h = get_d_tabulate (suc i) n j d (omega arith) ∙ rw (add-suc i j, suc-add i j)

module _ (t f : ℕ → Bool) where
  some_of-skip : (n : ℕ) → t n ≡ false → some_of (suc n) t f ≡ some_of n t f
  unfolding some_of
  some_of-skip n e = rw (e, some_of)

  some_of-miss : (n : ℕ) → t n ≡ true → f n ≡ false → some_of (suc n) t f ≡ some_of n t f
  unfolding some_of
  some_of-miss n e g = rw (e, some_of) (rw g)

  some_of-hit : (n : ℕ) → t n ≡ true → f n ≡ true → some_of (suc n) t f ≡ true
  unfolding some_of
  some_of-hit n e g = rw (e, some_of) (rw g)

  pub some_of-make : (n x : ℕ) → x < n → t x ≡ true → f x ≡ true → some_of n t f ≡ true
  some_of-make zero x l e g = absurd (omega arith)
  some_of-make (suc n) x l e g = go (ℕ_discrete x n) (λ l'. some_of-make n x l' e g)
    where
      rest : some_of n t f ≡ true → (a b : Bool) → t n ≡ a → f n ≡ b → some_of (suc n) t f ≡ true
      rest ih false b p q = some_of-skip n p ∙ ih
      rest ih true true p q = some_of-hit n p q
      rest ih true false p q = some_of-miss n p q ∙ ih

      go : Dec (x ≡ n) → (x < n → some_of n t f ≡ true) → some_of (suc n) t f ≡ true
      go (yes q) ih = some_of-hit n (rw q at e) (rw q at g)
      go (no q) ih = rest (ih (omega arith)) (t n) (f n) refl refl

pub lowest-nothing : (f : ℕ → Bool) (i n : ℕ) → ((j : ℕ) → i ≤ j → j < i + n → f j ≡ false) → lowest f i n ≡ None
unfolding lowest
lowest-nothing f i zero h = refl
lowest-nothing f i (suc n) h = let e = h i (omega arith) (omega arith) in rw (e, lowest) (lowest-nothing f (suc i) n (λ j l m. h j (omega arith) (omega arith)))

module _ (t f : ℕ → Bool) where
  pub some_of-use : (n : ℕ) → some_of n t f ≡ true → (x : ℕ) × (x < n) × (t x ≡ true) × (f x ≡ true)
  unfolding some_of
  some_of-use zero h = absurd (true≢false (sym h))
  some_of-use (suc n) h = go (t n) (f n) refl refl (some_of-use n)
    where
      up : (x : ℕ) × (x < n) × (t x ≡ true) × (f x ≡ true) → (x : ℕ) × (x < suc n) × (t x ≡ true) × (f x ≡ true)
      up w = (w.0, omega (arith, w.1), w.2, w.3)

      go : (a b : Bool) → t n ≡ a → f n ≡ b → (some_of n t f ≡ true → (x : ℕ) × (x < n) × (t x ≡ true) × (f x ≡ true)) → (x : ℕ) × (x < suc n) × (t x ≡ true) × (f x ≡ true)
      go false b p q ih = up (ih (sym (some_of-skip t f n p) ∙ h))
      go true true p q ih = (n, omega arith, p, q)
      go true false p q ih = up (ih (sym (some_of-miss t f n p q) ∙ h))

module _ (f : ℕ → Bool) where
  -- what the lowest number is
  pub lowest-some : (i n k : ℕ) → lowest f i n ≡ Some k → (i ≤ k) × (k < i + n) × (f k ≡ true) × ((j : ℕ) → i ≤ j → j < k → f j ≡ false)
  unfolding lowest
  lowest-some i zero k h = let u : ◌≡◌ {A = ℕ} 0 1 = cc in absurd (omega arith)
  lowest-some i (suc n) k h = go (f i) refl (lowest-some (suc i) n k)
    where
      go : (t : Bool) → f i ≡ t → (lowest f (suc i) n ≡ Some k → (suc i ≤ k) × (k < suc i + n) × (f k ≡ true) × ((j : ℕ) → suc i ≤ j → j < k → f j ≡ false)) →
          (i ≤ k) × (k < i + suc n) × (f k ≡ true) × ((j : ℕ) → i ≤ j → j < k → f j ≡ false)
      go true e ih =
          let w : lowest f i (suc n) ≡ Some i = rw (e, lowest) in
          let u : i ≡ k = cc in
          (omega arith, omega arith, ap f (sym u) ∙ e, λ j l m. absurd (omega arith))
      go false e ih =
          let w : lowest f i (suc n) ≡ lowest f (suc i) n = rw (e, lowest) in
          let v = ih (sym w ∙ h) in
          (omega (arith, v.0), omega (arith, v.1), v.2, λ j l m. at-start j (ℕ_discrete j i) l m v)
        where
          at-start : (j : ℕ) → Dec (j ≡ i) → i ≤ j → j < k → (suc i ≤ k) × (k < suc i + n) × (f k ≡ true) × ((j : ℕ) → suc i ≤ j → j < k → f j ≡ false) → f j ≡ false
          at-start j (yes q) l m v = ap f q ∙ e
          at-start j (no q) l m v = v.3 j (omega arith) m

  pub lowest-make : (i n k : ℕ) → i ≤ k → k < i + n → f k ≡ true → ((j : ℕ) → i ≤ j → j < k → f j ≡ false) → lowest f i n ≡ Some k
  unfolding lowest
  lowest-make i zero k l m e h = absurd (omega arith)
  lowest-make i (suc n) k l m e h = go (ℕ_discrete i k) (lowest-make (suc i) n k)
    where
      go : Dec (i ≡ k) → (suc i ≤ k → k < suc i + n → f k ≡ true → ((j : ℕ) → suc i ≤ j → j < k → f j ≡ false) → lowest f (suc i) n ≡ Some k) → lowest f i (suc n) ≡ Some k
      go (yes q) ih = let w : f i ≡ true = ap f q ∙ e in rw (w, lowest) (ap Some q)
      go (no q) ih = rw (h i (omega arith) (omega arith), lowest) (ih (omega arith) (omega arith) e (λ j a b. h j (omega arith) b))

-- copies of a alone are found, past the end too where a is what stands for nothing
pub replicated : {A : Type 0} (a : A) (n j : ℕ) → get_or (replicate n a) j a ≡ a
replicated a zero j = refl
replicated a (suc n) zero = refl
replicated a (suc n) (suc j) = replicated a n j
