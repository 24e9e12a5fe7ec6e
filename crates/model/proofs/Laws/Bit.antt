-- A number's binary digits as truth values, and the laws of `|`, `&` and `<<` on them. Assumes nothing.
use Rattle.std.specs.Prelude.{◌%◌, ◌*◌, ◌+◌, ◌/◌, ◌<◌, ◌^◌, ◌≤◌, suc, zero, ℕ, eqb, Bool, ◌&&◌, ◌||◌, false, true, ◌≡◌, refl}
use Rattle.std.proofs.Common.{zero-le, pow_mono, shl_exact, shr-shr, true≢false, ◌∙◌, ap, sym, div-one, le_of_suc-le-suc, le_refl, le_trans, mod-lt, mul-div_cancel, not-suc-le-zero, one-mul, pow-suc, zero-lt-suc, arith}
use Rattle.std.proofs.Math.Arith.{lt-one}
use Rattle.std.proofs.lemmas.Nat.{and_mod, and_shr, or_lt, or_mod, or_shr}
use Rattle.std.specs.Int.Bits.{bit_and, bit_or}
use Rattle.std.specs.Int.Count.{ones, ones_step}
use Rattle.std.proofs.Math.Dec.{eqb-suc-suc, eqb-suc-zero, eqb-zero-suc}
use Rattle.std.proofs.Math.Nat.{div-div-eq-div-mul, div-eq_of_lt, mul-mod_left, pow-succ', zero-div}
use Rattle.model.specs.Tables.{test_bit}

-- a one_if is 0 or 1
data Digit : ℕ → Type 0 where
  d0 : Digit 0
  d1 : Digit 1

digit_lt : (n : ℕ) → n < 2 → Digit n
digit_lt zero h = d0
digit_lt (suc zero) h = d1
digit_lt (suc (suc n)) h = absurd (not-suc-le-zero (le_of_suc-le-suc (le_of_suc-le-suc h)))

digit-of : (n : ℕ) → Digit (n % 2)
digit-of n = digit_lt (n % 2) (mod-lt n (zero-lt-suc 1))

or-digit : {x y : ℕ} → Digit x → Digit y → eqb (bit_or x y) 1 ≡ (eqb x 1 || eqb y 1)
or-digit d0 d0 = refl
or-digit d0 d1 = refl
or-digit d1 d0 = refl
or-digit d1 d1 = refl

and-digit : {x y : ℕ} → Digit x → Digit y → eqb (bit_and x y) 1 ≡ (eqb x 1 && eqb y 1)
and-digit d0 d0 = refl
and-digit d0 d1 = refl
and-digit d1 d0 = refl
and-digit d1 d1 = refl

pub or-bit : (a b k : ℕ) → test_bit (bit_or a b) k ≡ (test_bit a k || test_bit b k)
unfolding test_bit
or-bit a b k =
    ap (λ (x : ℕ). eqb (x % 2) 1) (or_shr a b k)
    ∙ ap (λ (x : ℕ). eqb x 1) (or_mod (a / 2 ^ k) (b / 2 ^ k) 1)
    ∙ or-digit (digit-of (a / 2 ^ k)) (digit-of (b / 2 ^ k))

pub and-bit : (a b k : ℕ) → test_bit (bit_and a b) k ≡ (test_bit a k && test_bit b k)
unfolding test_bit
and-bit a b k =
    ap (λ (x : ℕ). eqb (x % 2) 1) (and_shr a b k)
    ∙ ap (λ (x : ℕ). eqb x 1) (and_mod (a / 2 ^ k) (b / 2 ^ k) 1)
    ∙ and-digit (digit-of (a / 2 ^ k)) (digit-of (b / 2 ^ k))

pub zero_bit : (k : ℕ) → test_bit 0 k ≡ false
unfolding test_bit
zero_bit k = ap (λ (x : ℕ). eqb (x % 2) 1) (zero-div (2 ^ k))

-- bits past a number's length are 0
pub high_bit : (x k w : ℕ) → x < 2 ^ w → w ≤ k → test_bit x k ≡ false
unfolding test_bit
high_bit x k w h l = ap (λ (y : ℕ). eqb (y % 2) 1) (div-eq_of_lt (le_trans h (pow_mono l)))

-- bit k of x / 2 ^ j is bit j + k of x
pub shr-bit : (x j k : ℕ) → test_bit (x / 2 ^ j) k ≡ test_bit x (j + k)
unfolding test_bit
shr-bit x j k = ap (λ (y : ℕ). eqb (y % 2) 1) (shr-shr x j k)

-- two numbers with the same bits are equal
pub half-bit : (x k : ℕ) → test_bit (x / 2) k ≡ test_bit x (suc k)
unfolding test_bit
half-bit x k = ap (λ (y : ℕ). eqb (y % 2) 1) (div-div-eq-div-mul x 2 (2 ^ k) ∙ ap (λ (y : ℕ). x / y) (sym (pow-succ' 2 k)))

low_digit : {x y : ℕ} → Digit x → Digit y → eqb x 1 ≡ eqb y 1 → x ≡ y
low_digit d0 d0 e = refl
low_digit d0 d1 e = absurd (true≢false (sym e))
low_digit d1 d0 e = absurd (true≢false e)
low_digit d1 d1 e = refl

pub lowest-bit : (x : ℕ) → test_bit x 0 ≡ eqb (x % 2) 1
unfolding test_bit
lowest-bit x = ap (λ (y : ℕ). eqb (y % 2) 1) (div-one x)

half_lt : {x : ℕ} (n : ℕ) → x < 2 ^ suc n → x / 2 < 2 ^ n
half_lt {x} n h = omega (arith, pow-suc 2 n)

pub bits-ext : (n x y : ℕ) → x < 2 ^ n → y < 2 ^ n → ((k : ℕ) → test_bit x k ≡ test_bit y k) → x ≡ y
bits-ext zero x y hx hy e = lt-one hx ∙ sym (lt-one hy)
bits-ext (suc n) x y hx hy e =
    let h : x / 2 ≡ y / 2 = bits-ext n (x / 2) (y / 2) (half_lt n hx) (half_lt n hy) (λ k. half-bit x k ∙ e (suc k) ∙ sym (half-bit y k)) in
    let l : x % 2 ≡ y % 2 = low_digit (digit-of x) (digit-of y) (sym (lowest-bit x) ∙ e 0 ∙ lowest-bit y) in
    omega arith

-- a power of two has one bit
pub pow-bit : (i k : ℕ) → test_bit (2 ^ i) k ≡ eqb k i
pow-bit zero zero = lowest-bit 1
pow-bit zero (suc k) = sym (half-bit 1 k) ∙ zero_bit k ∙ sym (eqb-suc-zero k)
pow-bit (suc i) zero = lowest-bit (2 ^ suc i) ∙ ap (λ (x : ℕ). eqb x 1) (ap (λ (x : ℕ). x % 2) (pow-suc 2 i) ∙ mul-mod_left (2 ^ i) 2) ∙ sym (eqb-zero-suc i)
pow-bit (suc i) (suc k) =
    sym (half-bit (2 ^ suc i) k) ∙ ap (λ (x : ℕ). test_bit x k) (ap (λ (x : ℕ). x / 2) (pow-suc 2 i) ∙ mul-div_cancel (2 ^ i) (zero-lt-suc 1))
    ∙ pow-bit i k ∙ sym (eqb-suc-suc k i)

-- where x's bits are among y's, x has no more of them, and is y where it has as many
pub record Fewer (x y : ℕ) : Type 0 where
  pub le : ones x ≤ ones y
  pub all : ones y ≤ ones x → x ≡ y

digits_le : {x y : ℕ} → Digit x → Digit y → (eqb x 1 ≡ true → eqb y 1 ≡ true) → x ≤ y
digits_le d0 q f = zero-le
digits_le d1 d0 f = absurd (true≢false (sym (f refl)))
digits_le d1 d1 f = le_refl 1

pub fewer : (n x y : ℕ) → x < 2 ^ n → y < 2 ^ n → ((k : ℕ) → test_bit x k ≡ true → test_bit y k ≡ true) → Fewer x y
fewer zero x y hx hy f =
    let e : x ≡ y = lt-one hx ∙ sym (lt-one hy) in
    record { le = rw e (le_refl (ones y)); all = λ _. e }
fewer (suc n) x y hx hy f =
    let r : Fewer (x / 2) (y / 2) = fewer n (x / 2) (y / 2) (half_lt n hx) (half_lt n hy) (λ k t. half-bit y k ∙ f (suc k) (sym (half-bit x k) ∙ t)) in
    let l : x % 2 ≤ y % 2 = digits_le (digit-of x) (digit-of y) (λ t. sym (lowest-bit y) ∙ f 0 (lowest-bit x ∙ t)) in
    let sx : ones x ≡ x % 2 + ones (x / 2) = ones_step x in
    let sy : ones y ≡ y % 2 + ones (y / 2) = ones_step y in
    let g : ones (x / 2) ≤ ones (y / 2) = r.le in
    record {
      le = omega arith;
      all = λ h. let e : x / 2 ≡ y / 2 = r.all (omega arith) in omega arith;
    }

-- `1 << k` at w bits
pub one_shl : (k w : ℕ) → k < w → (1 * 2 ^ k) % 2 ^ w ≡ 2 ^ k
one_shl k w h = shl_exact 1 k w (le_refl 2) (omega arith) ∙ one-mul (2 ^ k)

-- x's bits are among y's exactly where x | y is y
pub or_same : (x y : ℕ) → bit_or x y ≡ y → (k : ℕ) → test_bit x k ≡ true → test_bit y k ≡ true
or_same x y e k t = sym (ap (λ z. test_bit z k) e) ∙ or-bit x y k ∙ ap (λ b. b || test_bit y k) t

or-absorbs : (a b : Bool) → (a ≡ true → b ≡ true) → (a || b) ≡ b
or-absorbs true b f = sym (f refl)
or-absorbs false b f = refl

pub same_or : (n x y : ℕ) → x < 2 ^ n → y < 2 ^ n → ((k : ℕ) → test_bit x k ≡ true → test_bit y k ≡ true) → bit_or x y ≡ y
same_or n x y hx hy f = bits-ext n (bit_or x y) y (or_lt n x y hx hy) hy (λ k. or-bit x y k ∙ or-absorbs (test_bit x k) (test_bit y k) (f k))
