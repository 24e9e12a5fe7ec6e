-- The digits of a number: how many there are, and one digit more.
use Rattle.std.specs.Prelude.{◌%◌, ◌+◌, ◌/◌, ◌<◌, ◌≤◌, suc, zero, ℕ, length, [], ◌++◌, ◌∷◌, ◌≡◌}
use Rattle.std.proofs.Common.{le-leb, length-append, ◌∙◌, ap, sym, arith}
use Rattle.std.proofs.lemmas.Bool.{lt-leb}
use Rattle.std.proofs.Math.Decide.{dec_le}
use Rattle.model.specs.Listing.{digits_in}

-- the digits of a number, by whether there is more than one
pub digits_low : (k n : ℕ) → n ≤ 9 → digits_in (suc k) n ≡ (48 + n) ∷ []
unfolding digits_in
digits_low k n h = rw (le-leb n 9 h, digits_in)

pub digits-high : (k n : ℕ) → 9 < n → digits_in (suc k) n ≡ digits_in k (n / 10) ++ ((48 + n % 10) ∷ [])
unfolding digits_in
digits-high k n h = rw (lt-leb n 9 h, digits_in)

pub digits_1 : (n : ℕ) → n ≤ 9 → digits_in 5 n ≡ (48 + n) ∷ []
digits_1 n h = digits_low 4 n h

-- no more than are asked for
pub digits-few : (k n : ℕ) → length (digits_in k n) ≤ k
unfolding digits_in
digits-few zero n = omega arith
digits-few (suc k) n = go (dec_le n 9) (digits-few k (n / 10))
  where
    go : Dec (n ≤ 9) → length (digits_in k (n / 10)) ≤ k → length (digits_in (suc k) n) ≤ suc k
    go (yes l) ih = rw (digits_low k n l) (omega arith)
    go (no l) ih = rw (digits-high k n (omega arith), length-append) (omega arith)

-- where there is room for one digit more, the digits are the same
wider_by : (k n : ℕ) → Dec (n ≤ 9) → (9 < n → digits_in k (n / 10) ≡ digits_in (suc k) (n / 10)) → digits_in (suc k) n ≡ digits_in (suc (suc k)) n
wider_by k n (yes l) e = digits_low k n l ∙ sym (digits_low (suc k) n l)
wider_by k n (no l) e = digits-high k n (omega arith) ∙ ap (λ x. x ++ ((48 + n % 10) ∷ [])) (e (omega arith)) ∙ sym (digits-high (suc k) n (omega arith))

wider-1 : (n : ℕ) → n ≤ 9 → digits_in 1 n ≡ digits_in 2 n
wider-1 n h = wider_by 0 n (yes h) (λ l. absurd (omega arith))

wider-2 : (n : ℕ) → n ≤ 99 → digits_in 2 n ≡ digits_in 3 n
wider-2 n h = wider_by 1 n (dec_le n 9) (λ l. wider-1 (n / 10) (omega arith))

wider-3 : (n : ℕ) → n ≤ 999 → digits_in 3 n ≡ digits_in 4 n
wider-3 n h = wider_by 2 n (dec_le n 9) (λ l. wider-2 (n / 10) (omega arith))

wider-4 : (n : ℕ) → n ≤ 9999 → digits_in 4 n ≡ digits_in 5 n
wider-4 n h = wider_by 3 n (dec_le n 9) (λ l. wider-3 (n / 10) (omega arith))

pub digits-next : (n : ℕ) → 9 < n → n < 65536 → digits_in 5 n ≡ digits_in 5 (n / 10) ++ ((48 + n % 10) ∷ [])
digits-next n l h = digits-high 4 n l ∙ ap (λ x. x ++ ((48 + n % 10) ∷ [])) (wider-4 (n / 10) (omega arith))

-- a number below a thousand has at most three, and one below a hundred at most two
pub digits-three : (n : ℕ) → n ≤ 999 → length (digits_in 5 n) ≤ 3
digits-three n h = rw (sym (wider-3 n h ∙ wider-4 n (omega arith))) (digits-few 3 n)

pub digits-two : (n : ℕ) → n ≤ 99 → length (digits_in 5 n) ≤ 2
digits-two n h = go (dec_le n 9)
  where
    go : Dec (n ≤ 9) → length (digits_in 5 n) ≤ 2
    go (yes l) = rw (digits_1 n l) (omega arith)
    go (no l) = rw (digits-high 4 n (omega arith), length-append, digits_low 3 (n / 10) (omega arith)) (omega arith)
