-- The lowest set bit of a number: `trailing_zeros`, and `x & (x - 1)`, which clears it; a bit cleared by `^`.
use Rattle.std.specs.Prelude.{◌%◌, ◌*◌, ◌+◌, ◌-◌, ◌/◌, ◌<◌, ◌^◌, ◌≤◌, suc, zero, ℕ, eqb, false, true, ◌≡◌, refl}
use Rattle.std.proofs.Common.{suc-le-suc, eq-eqb, pow_pos, true≢false, ◌∙◌, ap, subst, sym, le_refl, pow-suc, zero-lt-suc, arith}
use Rattle.std.proofs.Math.Arith.{lt-one}
use Rattle.std.specs.Int.Bits.{bit_and, bit_xor, xor_add_and, xor_zero_r}
use Rattle.std.proofs.lemmas.Nat.{xor_mod, xor_shr}
use Rattle.std.specs.Int.Count.{count_trailing_zeros, under}
use Rattle.std.proofs.Math.Decide.{dec_lt}
use Rattle.model.proofs.Laws.Bit.{and-bit, half-bit, high_bit, lowest-bit, pow-bit}
use Rattle.model.proofs.Laws.Booleans.{and-make}
use Rattle.model.specs.Tables.{test_bit}

-- k is the lowest of the n bits of x that is one, and x - 1 has the others that are
pub record Lowest (x k n : ℕ) : Type 0 where
  pub below : k < n
  pub bit : test_bit x k ≡ true
  pub kept : (j : ℕ) → (j ≡ k → ⊥) → test_bit x j ≡ true → test_bit (x - 1) j ≡ true

odd-or : {A : Type 0} (x : ℕ) → (x % 2 ≡ 1 → A) → (x % 2 ≡ 0 → A) → A
odd-or {A} x f g = go (x % 2) refl
  where
    go : (d : ℕ) → x % 2 ≡ d → A
    go zero e = g e
    go (suc zero) e = f e
    go (suc (suc d)) e = absurd (let h : x % 2 < 2 = omega arith in omega arith)

pub lowest-one : (n x : ℕ) → x < 2 ^ n → (x ≡ 0 → ⊥) → Lowest x (count_trailing_zeros n x) n
unfolding count_trailing_zeros
lowest-one zero x h d = absurd (d (lt-one h))
lowest-one (suc n) x h d =
    odd-or x (λ e. subst (λ (k : ℕ). Lowest x k (suc n)) (sym (ap (λ (r : ℕ). under r (count_trailing_zeros n (x / 2))) e)) (odd e))
    (λ e. subst (λ (k : ℕ). Lowest x k (suc n)) (sym (ap (λ (r : ℕ). under r (count_trailing_zeros n (x / 2))) e))
    (even e (lowest-one n (x / 2) (let p = pow-suc 2 n in omega arith) (λ z. d (omega arith)))))
  where
    odd : x % 2 ≡ 1 → Lowest x 0 (suc n)
    odd e =
        let q : (x - 1) / 2 ≡ x / 2 = omega arith in
        record { below = zero-lt-suc n; bit = lowest-bit x ∙ ap (λ (y : ℕ). eqb y 1) e; kept = λ j. kept j q }
      where
        kept : (j : ℕ) → (x - 1) / 2 ≡ x / 2 → (j ≡ 0 → ⊥) → test_bit x j ≡ true → test_bit (x - 1) j ≡ true
        kept zero q f t = absurd (f refl)
        kept (suc j) q f t = sym (half-bit (x - 1) j) ∙ ap (λ (y : ℕ). test_bit y j) q ∙ half-bit x j ∙ t

    even : x % 2 ≡ 0 → Lowest (x / 2) (count_trailing_zeros n (x / 2)) n → Lowest x (suc (count_trailing_zeros n (x / 2))) (suc n)
    even e ih =
        let q : (x - 1) / 2 ≡ x / 2 - 1 = omega arith in
        record { below = suc-le-suc ih.below; bit = sym (half-bit x (count_trailing_zeros n (x / 2))) ∙ ih.bit; kept = λ j. kept j q }
      where
        kept : (j : ℕ) → (x - 1) / 2 ≡ x / 2 - 1 → (j ≡ suc (count_trailing_zeros n (x / 2)) → ⊥) → test_bit x j ≡ true → test_bit (x - 1) j ≡ true
        kept zero q f t = absurd (true≢false (sym t ∙ lowest-bit x ∙ ap (λ (y : ℕ). eqb y 1) e))
        kept (suc j) q f t = sym (half-bit (x - 1) j) ∙ ap (λ (y : ℕ). test_bit y j) q ∙ ih.kept j (λ z. f (ap suc z)) (half-bit x j ∙ t)

-- `x ^ (1 << k)`, where bit k is one, clears that bit

pub xor-other : (a b k : ℕ) → test_bit b k ≡ false → test_bit (bit_xor a b) k ≡ test_bit a k
unfolding test_bit
xor-other a b k d =
    let z : b / 2 ^ k % 2 ≡ 0 = odd-or (b / 2 ^ k) (λ e. absurd (true≢false (sym (eq-eqb (b / 2 ^ k % 2) 1 e) ∙ d))) (λ e. e) in
    ap (λ (x : ℕ). eqb (x % 2) 1) (xor_shr a b k)
    ∙ ap (λ (x : ℕ). eqb x 1) (xor_mod (a / 2 ^ k) (b / 2 ^ k) 1 ∙ ap (bit_xor (a / 2 ^ k % 2)) z ∙ xor_zero_r (a / 2 ^ k % 2))

pub xor-less : (x k : ℕ) → test_bit x k ≡ true → bit_xor x (2 ^ k) < x
xor-less x k t =
    let s : bit_xor x (2 ^ k) + bit_and x (2 ^ k) * 2 ≡ x + 2 ^ k = xor_add_and x (2 ^ k) in
    let p : 0 < 2 ^ k = pow_pos k in
    let g : 2 ^ k ≤ bit_and x (2 ^ k) = go (dec_lt (bit_and x (2 ^ k)) (2 ^ k)) in
    omega arith
  where
    go : Dec (bit_and x (2 ^ k) < 2 ^ k) → 2 ^ k ≤ bit_and x (2 ^ k)
    go (yes l) = absurd (true≢false (sym (and-bit x (2 ^ k) k ∙ and-make t (pow-bit k k ∙ eq-eqb k k refl)) ∙ high_bit (bit_and x (2 ^ k)) k k l (le_refl k)))
    go (no l) = omega arith
