-- Sets of numbers as bytes and as one number, and the least set that passes a test.
use Prim.Native.Nat.{◌%◌, ◌*◌, ◌+◌, ◌/◌, ◌<◌, ◌^◌, ◌≤◌, suc, zero, ℕ}
use Rattle.std.proofs.Common.{eq-eqb, ne_eqb, ext_get_or, ◌∙◌, ap₂, add-suc, add-zero, suc-add, zero-add}
use Rattle.std.specs.Prelude.{eqb, length, Bool, false, true, List, ◌≡◌, refl}
use Rattle.std.proofs.Math.ListN.{get_or-eq_default}
use Rattle.std.proofs.Math.Path.{ap, sym}
use Rattle.std.proofs.Math.Decide.{dec_lt}
use Rattle.std.proofs.Math.Nat.{pow-suc}
use native.Mathlib.Omega.{arith}
use Rattle.model.specs.Finite.{one_if}
use Rattle.model.proofs.Laws.Bit.{bits-ext, half-bit, high_bit, lowest-bit}
use Rattle.model.proofs.Laws.Finite.{every-make, every-use, get_d_tabulate, length-tabulate}
use Rattle.model.proofs.Laws.Forest.{one_if-le}
use Rattle.model.specs.Least.{bytes, least, numeral}
use Rattle.model.specs.Records.{byte}
use Rattle.model.specs.Tables.{bit_at, bits, test_bit}

-- each element of the list has at most m bits
abbrev pub Narrow : ℕ → List ℕ → Type 0
Narrow m xs = (i : ℕ) → byte xs i < 2 ^ m

one_if-is : (b : Bool) (w : ℕ) → w ≡ one_if b → eqb w 1 ≡ b
unfolding one_if
one_if-is true w e = eq-eqb w 1 e
one_if-is false w e = ne_eqb w 1 (λ u. omega arith)

module _ (u : ℕ → Bool) where
  pub numeral-lt : (j n : ℕ) → numeral u j n < 2 ^ n
  unfolding numeral
  numeral-lt j zero = omega arith
  numeral-lt j (suc n) = omega (arith, numeral-lt (suc j) n, one_if-le (u j), pow-suc 2 n)

  pub numeral-bit : (j n k : ℕ) → k < n → test_bit (numeral u j n) k ≡ u (j + k)
  unfolding numeral
  numeral-bit j zero k l = absurd (omega arith)
  numeral-bit j (suc n) zero l =
      let e : (one_if (u j) + 2 * numeral u (suc j) n) % 2 ≡ one_if (u j) = omega (arith, one_if-le (u j)) in
      lowest-bit (one_if (u j) + 2 * numeral u (suc j) n) ∙ one_if-is (u j) _ e ∙ ap u (sym (add-zero j))
  numeral-bit j (suc n) (suc k) l =
      let e : (one_if (u j) + 2 * numeral u (suc j) n) / 2 ≡ numeral u (suc j) n = omega (arith, one_if-le (u j)) in
      sym (half-bit (one_if (u j) + 2 * numeral u (suc j) n) k)
      ∙ ap (λ v. test_bit v k) e
      ∙ numeral-bit (suc j) n k (omega arith) ∙ ap u (suc-add j k ∙ sym (add-suc j k))

  pub length-bytes : (n : ℕ) → length (bytes n u) ≡ n
  unfolding bytes
  length-bytes n = length-tabulate _ 0 n

  pub byte-bytes : (n i : ℕ) → i < n → byte (bytes n u) i ≡ numeral u (8 * i) 8
  unfolding bytes
  byte-bytes n i l = get_d_tabulate (λ k. numeral u (8 * k) 8) 0 n i 0 l ∙ ap (λ k. numeral u (8 * k) 8) (zero-add i)

  -- the bytes of a set have its bits
  pub bits-bytes : (n j : ℕ) → j < 8 * n → bits (bytes n u) j ≡ u j
  unfolding bit_at
  bits-bytes n j l =
      let e : 8 * (j / 8) + j % 8 ≡ j = omega arith in
      ap (λ v. test_bit v (j % 8)) (byte-bytes n (j / 8) (omega arith)) ∙ numeral-bit (8 * (j / 8)) 8 (j % 8) (omega arith) ∙ ap u e

  pub bytes-narrow : (n : ℕ) → Narrow 8 (bytes n u)
  bytes-narrow n i = go (dec_lt i n)
    where
      go : Dec (i < n) → byte (bytes n u) i < 2 ^ 8
      go (yes l) = rw (byte-bytes n i l) (numeral-lt (8 * i) 8)
      go (no l) = rw (get_or-eq_default (bytes n u) 0 {n = i} (omega (arith, length-bytes n))) (omega arith)

numeral-same : (u v : ℕ → Bool) (j n : ℕ) → ((k : ℕ) → j ≤ k → k < j + n → u k ≡ v k) → numeral u j n ≡ numeral v j n
unfolding numeral
numeral-same u v j zero h = refl
numeral-same u v j (suc n) h = rw (h j (omega arith) (omega arith), numeral-same u v (suc j) n (λ k l m. h k (omega arith) (omega arith)))

pub bytes_same : (n : ℕ) (u v : ℕ → Bool) → ((j : ℕ) → j < 8 * n → u j ≡ v j) → bytes n u ≡ bytes n v
bytes_same n u v h = ext_get_or 0 _ _ (length-bytes u n ∙ sym (length-bytes v n))
    (λ i l. let m : i < n = omega (arith, length-bytes u n) in
    byte-bytes u n i m ∙ numeral-same u v (8 * i) 8 (λ k a b. h k (omega arith)) ∙ sym (byte-bytes v n i m))

-- a list of bytes is the bytes of its bits
pub bytes_bits : (n : ℕ) (t : List ℕ) → length t ≡ n → Narrow 8 t → t ≡ bytes n (bits t)
unfolding bit_at
bytes_bits n t e h = ext_get_or 0 _ _ (e ∙ sym (length-bytes (bits t) n))
    (λ i l. let m : i < n = omega arith in
    bits-ext 8 (byte t i) (numeral (bits t) (8 * i) 8) (h i) (numeral-lt (bits t) (8 * i) 8) (λ k. each i k (dec_lt k 8))
    ∙ sym (byte-bytes (bits t) n i m))
  where
    each : (i k : ℕ) → Dec (k < 8) → test_bit (byte t i) k ≡ test_bit (numeral (bits t) (8 * i) 8) k
    each i k (yes l) =
        let q : (8 * i + k) / 8 ≡ i = omega arith in
        let r : (8 * i + k) % 8 ≡ k = omega arith in
        sym (numeral-bit (bits t) (8 * i) 8 k l ∙ ap₂ (λ a b. test_bit (byte t a) b) q r)
    each i k (no l) = high_bit (byte t i) k 8 (h i) (omega arith) ∙ sym (high_bit (numeral (bits t) (8 * i) 8) k 8 (numeral-lt (bits t) (8 * i) 8) (omega arith))

-- ---- a set of numbers below n as the bits of one number
pub numeral-set : (u : ℕ → Bool) (n j : ℕ) → j < n → test_bit (numeral u 0 n) j ≡ u j
numeral-set u n j l = numeral-bit u 0 n j l ∙ ap u (zero-add j)

module _ (n : ℕ) (test : (ℕ → Bool) → Bool) where
  -- the least set lies inside each that passes
  pub least-inside : (c : ℕ) → c < 2 ^ n → test (test_bit c) ≡ true → (j : ℕ) → least n test j ≡ true → test_bit c j ≡ true
  unfolding least
  least-inside c l p j h = every-use (λ d. test (test_bit d)) (λ d. test_bit d j) (2 ^ n) h c l p

  -- and has what each that passes has
  pub least-has : (j : ℕ) → ((c : ℕ) → c < 2 ^ n → test (test_bit c) ≡ true → test_bit c j ≡ true) → least n test j ≡ true
  unfolding least
  least-has j h = every-make (λ d. test (test_bit d)) (λ d. test_bit d j) (2 ^ n) h
