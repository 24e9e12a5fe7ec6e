-- The bits of a list of words as one set of numbers, and what `xs[i] |= v` does to it.
use Rattle.std.specs.Prelude.{◌%◌, ◌*◌, ◌+◌, ◌/◌, ◌<◌, ◌^◌, ℕ, eqb, get_or, length, set, ◌||◌, true, List, ◌⊎◌, ◌≡◌, refl}
use Rattle.std.specs.Int.Bits.{bit_and, bit_or}
use Rattle.std.proofs.Common.{get_or-set_other, get_or-set_same, ⊎_elim, ◌∙◌, ap, ap₂, subst, sym, eq-or-lt_of_le, le_of_suc-le-suc, add-one, arith}
use Rattle.std.proofs.Math.Decide.{dec_lt, ℕ_discrete}
use Rattle.model.proofs.Laws.Bit.{and-bit, high_bit, one_shl, or-bit, pow-bit}
use Rattle.model.proofs.Laws.Booleans.{and_left, and-make, and_right, never, or_cases, or_left, or_right}
use Rattle.model.specs.Tables.{bit_at, test_bit}
use Rattle.tables.specs.Grow.{Grown, Inside, Set}
use Rattle.model.specs.Finite.{every}
use Rattle.model.proofs.Laws.Finite.{every-use}

-- a word has no bits past its own
pub below_64 : (x k : ℕ) → x < 2 ^ 64 → test_bit x k ≡ true → k < 64
below_64 x k h t = go (dec_lt k 64)
  where
    go : Dec (k < 64) → k < 64
    go (yes l) = l
    go (no d) = never _ t (high_bit x k 64 h (omega arith))

-- the last of some numbers, or one before it
pub last_or : (x n : ℕ) → x < n + 1 → (x ≡ n) ⊎ (x < n)
last_or x n l = eq-or-lt_of_le (le_of_suc-le-suc (subst (λ (y : ℕ). x < y) (add-one n) l))

-- the words of 64 bits as a set
abbrev pub Bits : List ℕ → Set
Bits w = bit_at 64 w

-- `xs[i] |= v`
abbrev pub or_at : List ℕ → ℕ → ℕ → List ℕ
or_at xs i v = set xs i (bit_or (get_or xs i 0) v)

-- word i of the set has v's bits
unfoldable pub WordHas : ℕ → ℕ → ℕ → Set → Type 0
WordHas m i v u = (j : ℕ) → j / m ≡ i → test_bit v (j % m) ≡ true → u j ≡ true

-- the bits after `xs[i] |= v`, by the word that a bit lies in
here : (m : ℕ) (xs : List ℕ) (i v j : ℕ) → i < length xs → j / m ≡ i →
    test_bit (get_or (or_at xs i v) (j / m) 0) (j % m) ≡ (test_bit (get_or xs (j / m) 0) (j % m) || test_bit v (j % m))
here m xs i v j h e =
    ap (λ (x : ℕ). test_bit (get_or (or_at xs i v) x 0) (j % m)) e
    ∙ ap (λ (x : ℕ). test_bit x (j % m)) (get_or-set_same xs i (bit_or (get_or xs i 0) v) 0 h)
    ∙ or-bit (get_or xs i 0) v (j % m)
    ∙ ap (λ (x : ℕ). test_bit (get_or xs x 0) (j % m) || test_bit v (j % m)) (sym e)

pub or_word : (m : ℕ) (xs : List ℕ) (i v : ℕ) → i < length xs → Grown (WordHas m i v) (WordHas m i v) (bit_at m xs) (bit_at m (or_at xs i v))
unfolding bit_at WordHas
or_word m xs i v h = record {
  keeps = λ j t. keep j (ℕ_discrete (j / m) i) t;
  inside = λ u s c j t. ins u s c j (ℕ_discrete (j / m) i) t;
  done = λ b j e t. b j (here m xs i v j h e ∙ or_right (test_bit (get_or xs (j / m) 0) (j % m)) (test_bit v (j % m)) t);
}
  where
    keep : (j : ℕ) → Dec (j / m ≡ i) → bit_at m xs j ≡ true → bit_at m (or_at xs i v) j ≡ true
    keep j (yes e) t = here m xs i v j h e ∙ or_left (test_bit (get_or xs (j / m) 0) (j % m)) (test_bit v (j % m)) t
    keep j (no d) t = ap (λ (x : ℕ). test_bit x (j % m)) (get_or-set_other xs i (j / m) (bit_or (get_or xs i 0) v) 0 d) ∙ t

    ins : (u : Set) → Inside (bit_at m xs) u → WordHas m i v u → (j : ℕ) → Dec (j / m ≡ i) → bit_at m (or_at xs i v) j ≡ true → u j ≡ true
    ins u s c j (yes e) t = or_cases (test_bit (get_or xs (j / m) 0) (j % m)) (test_bit v (j % m)) (sym (here m xs i v j h e) ∙ t) (s j) (c j e)
    ins u s c j (no d) t = s j (sym (ap (λ (x : ℕ). test_bit x (j % m)) (get_or-set_other xs i (j / m) (bit_or (get_or xs i 0) v) 0 d)) ∙ t)

-- and the word has v's bits then
pub or-has : (m : ℕ) (xs : List ℕ) (i v : ℕ) → i < length xs → WordHas m i v (bit_at m (or_at xs i v))
unfolding bit_at WordHas
or-has m xs i v h j e t = here m xs i v j h e ∙ or_right (test_bit (get_or xs (j / m) 0) (j % m)) (test_bit v (j % m)) t

-- a bit of the set lies in its word
pub at-word : (w : List ℕ) (i k j : ℕ) → k < 64 → j ≡ 64 * i + k → Bits w j ≡ test_bit (get_or w i 0) k
unfolding bit_at
at-word w i k j h e =
    let q : j / 64 ≡ i = omega arith in
    let r : j % 64 ≡ k = omega arith in
    ap₂ (λ (x y : ℕ). test_bit (get_or w x 0) y) q r

-- word i of a set, by the places in it
pub word-make : (i v : ℕ) (u : Set) → ((x : ℕ) → test_bit v x ≡ true → x < 64 → u (64 * i + x) ≡ true) → WordHas 64 i v u
unfolding WordHas
word-make i v u f j e t = let m : j ≡ 64 * i + j % 64 = omega arith in ap u m ∙ f (j % 64) t (omega arith)

pub word-use : (i v : ℕ) (u : Set) → WordHas 64 i v u → (x : ℕ) → test_bit v x ≡ true → x < 64 → u (64 * i + x) ≡ true
unfolding WordHas
word-use i v u f x t h = let r : (64 * i + x) % 64 ≡ x = omega arith in f (64 * i + x) (omega arith) (ap (test_bit v) r ∙ t)

-- `1 << p` has bit p alone
pub one_bit : (p x : ℕ) → p < 64 → test_bit ((1 * 2 ^ p) % 2 ^ 64) x ≡ eqb x p
one_bit p x h = ap (λ (y : ℕ). test_bit y x) (one_shl p 64 h) ∙ pow-bit p x

-- the bits of an `&`
module _ (r c x : ℕ) where
  pub and_in : test_bit r x ≡ true → test_bit c x ≡ true → test_bit (bit_and r c) x ≡ true
  and_in s t = and-bit r c x ∙ and-make s t

  pub and_l : test_bit (bit_and r c) x ≡ true → test_bit r x ≡ true
  and_l t = and_left (test_bit r x) (test_bit c x) (sym (and-bit r c x) ∙ t)

  pub and_r : test_bit (bit_and r c) x ≡ true → test_bit c x ≡ true
  and_r t = and_right (test_bit r x) (test_bit c x) (sym (and-bit r c x) ∙ t)

-- the bits of an `|`
pub or_some : (a b x : ℕ) → (test_bit a x ≡ true) ⊎ (test_bit b x ≡ true) → test_bit (bit_or a b) x ≡ true
or_some a b x s = or-bit a b x ∙ ⊎_elim (λ t. or_left (test_bit a x) (test_bit b x) t) (λ t. or_right (test_bit a x) (test_bit b x) t) s

-- a word of ones
pub all-bits : (k : ℕ) → k < 64 → test_bit 18446744073709551615 k ≡ true
unfolding test_bit every
all-bits k h = every-use (λ k. true) (λ k. test_bit 18446744073709551615 k) 64 refl k h refl
