-- Numbers in a line: what is written is read back, and what is read is what stands there, with at most three digits.
use Rattle.std.specs.Prelude.{◌%◌, ◌*◌, ◌+◌, ◌-◌, ◌/◌, ◌<◌, ◌≤◌, ℕ, leb, drop, length, Bool, false, true, List, [], ◌++◌, ◌∷◌, ◌≢◌, ◌≡◌, refl}
use Rattle.std.proofs.Common.{le-leb, leb-true, ne_eqb, drop-cons, ◌∙◌, ap, sym, subst, arith}
use Rattle.std.proofs.Math.ListN.{get_or-eq_default}
use Rattle.std.proofs.Math.Seq.{get_or-append_seam}
use Rattle.std.specs.Prelude.{Option, None, Some, Result, Ok, Err}
use Rattle.std.proofs.Math.Decide.{dec_le, dec_lt, ℕ_discrete}
use Rattle.model.proofs.Laws.Booleans.{and_left, and_right}
use Rattle.model.specs.Listing.{digits_in}
use Rattle.model.specs.Records.{byte}
use Rattle.text_put.specs.Digits.{digits_1, digits-high, digits_low}
use Rattle.text_form.specs.Reading.{demand, digit, digits_cause, number_alone, number_read, numeral, numeral_of}
use Rattle.text_form.specs.declared.Cause.{Cause}
use Rattle.text_form.specs.declared.Decimal.{Decimal}

-- what is demanded, and what is next
pub demand-good : {A : Type 0} (b : Bool) (given : Cause) (next : Result A Cause) {x : A} → demand b given next ≡ Ok x → (b ≡ true) × (next ≡ Ok x)
unfolding demand
demand-good true given next e = (refl, e)
demand-good false given next e = let u : ◌≡◌ {A = ℕ} 0 1 = cc in absurd (omega arith)

-- the digits of a number, by how many there are
pub digits_2 : (n : ℕ) → 9 < n → n ≤ 99 → digits_in 5 n ≡ (48 + n / 10) ∷ (48 + n % 10) ∷ []
digits_2 n l h = digits-high 4 n l ∙ ap (λ x. x ++ ((48 + n % 10) ∷ [])) (digits_low 3 (n / 10) (omega arith))

pub digits_3 : (n : ℕ) → 99 < n → n ≤ 999 → digits_in 5 n ≡ (48 + n / 10 / 10) ∷ (48 + n / 10 % 10) ∷ (48 + n % 10) ∷ []
digits_3 n l h =
    digits-high 4 n (omega arith)
    ∙ ap (λ x. x ++ ((48 + n % 10) ∷ []))
    (digits-high 3 (n / 10) (omega arith) ∙ ap (λ x. x ++ ((48 + n / 10 % 10) ∷ [])) (digits_low 2 (n / 10 / 10) (omega arith)))

-- the number of bytes that are digits, by how many
digit-is : (x : ℕ) → x ≤ 9 → digit (48 + x) ≡ true
unfolding digit
digit-is x h = rw (le-leb 48 (48 + x) (omega arith), le-leb (48 + x) 57 (omega arith))

pub numeral-0 : (a b c : ℕ) → a ≡ 48 → numeral_of a b c ≡ Some (record { value = 0; width = 1 })
unfolding numeral_of digit
numeral-0 a b c e = rw e

module _ (a b c : ℕ) (d : digit a ≡ true) (z : a ≢ 48) where
  pub numeral-1 : digit b ≡ false → numeral_of a b c ≡ Some (record { value = a - 48; width = 1 })
  unfolding numeral_of
  numeral-1 e = rw (d, numeral_of) (rw (ne_eqb a 48 z) (rw e))

  pub numeral-2 : digit b ≡ true → digit c ≡ false → numeral_of a b c ≡ Some (record { value = 10 * (a - 48) + (b - 48); width = 2 })
  unfolding numeral_of
  numeral-2 e f = rw (d, numeral_of) (rw (ne_eqb a 48 z) (rw e (rw f)))

  pub numeral-3 : digit b ≡ true → digit c ≡ true → numeral_of a b c ≡ Some (record { value = 100 * (a - 48) + (10 * (b - 48) + (c - 48)); width = 3 })
  unfolding numeral_of
  numeral-3 e f = rw (d, numeral_of) (rw (ne_eqb a 48 z) (rw e (rw f)))

numeral-path : {v v' w w' : ℕ} → v ≡ v' → w ≡ w' → ◌≡◌ {A = Option Decimal} (Some (record { value = v; width = w })) (Some (record { value = v'; width = w' }))
numeral-path p q = rw (p, q)

-- a number that is written is read back
pub numeral-digits : (n : ℕ) → n ≤ 999 → (c : ℕ) (s : List ℕ) → digit c ≡ false → numeral (digits_in 5 n ++ (c ∷ s)) ≡ Some (record { value = n; width = length (digits_in 5 n) })
unfolding numeral
numeral-digits n h c s e = go (dec_le n 9) (dec_le n 99)
  where
    one : Dec (n ≡ 0) → n ≤ 9 → numeral_of (48 + n) c (byte s 0) ≡ Some (record { value = n; width = 1 })
    one (yes u) l = numeral-0 _ _ _ (omega arith) ∙ numeral-path (sym u) refl
    one (no u) l = numeral-1 _ _ _ (digit-is n l) (omega arith) e ∙ numeral-path (omega arith) refl

    go : Dec (n ≤ 9) → Dec (n ≤ 99) → numeral (digits_in 5 n ++ (c ∷ s)) ≡ Some (record { value = n; width = length (digits_in 5 n) })
    go (yes l) m = rw (digits_1 n l) (one (ℕ_discrete n 0) l)
    go (no l) (yes m) =
        rw (digits_2 n (omega arith) m)
        (numeral-2 (48 + n / 10) (48 + n % 10) c (digit-is (n / 10) (omega arith)) (omega arith) (digit-is (n % 10) (omega arith)) e ∙ numeral-path (omega arith) refl)
    go (no l) (no m) =
        rw (digits_3 n (omega arith) h)
        (numeral-3 (48 + n / 10 / 10) (48 + n / 10 % 10) (48 + n % 10) (digit-is (n / 10 / 10) (omega arith)) (omega arith) (digit-is (n / 10 % 10) (omega arith)) (digit-is (n % 10) (omega arith)) ∙ numeral-path (omega arith) refl)

-- the bytes after a number that is written are no digits
pub ten-no-digit : digit 10 ≡ false
unfolding digit
ten-no-digit = refl

pub space-no-digit : digit 32 ≡ false
unfolding digit
space-no-digit = refl

-- nothing is wrong with a number that is written
pub number-fine : (missing : Cause) (n c : ℕ) (s : List ℕ) → n ≤ 999 → digit c ≡ false → number_read missing (digits_in 5 n ++ (c ∷ s)) ≡ Ok (record { value = n; width = length (digits_in 5 n) })
unfolding number_read number_alone
number-fine missing n c s h e = rw (numeral-digits n h c s e, number_alone) (rw (get_or-append_seam (digits_in 5 n) c s 0) (rw e))

-- a number with nothing wrong stands there
pub number-some : (missing : Cause) (s : List ℕ) {n : Decimal} → number_read missing s ≡ Ok n → numeral s ≡ Some n
unfolding number_read number_alone
number-some missing s {n} e = go (numeral s) refl e
  where
    alone : (m : Decimal) (b : Bool) → ◌≡◌ {A = Result Decimal Cause} (elim b [ true ↦ Err (digits_cause m.width) | false ↦ Ok m ]) (Ok n) → Some m ≡ Some n
    alone m true q = let u : ◌≡◌ {A = ℕ} 0 1 = cc in absurd (omega arith)
    alone m false q = let u : m ≡ n = cc in ap Some u

    go : (o : Option Decimal) → numeral s ≡ o → number_alone missing s o ≡ Ok n → numeral s ≡ Some n
    go None p q = let u : ◌≡◌ {A = ℕ} 0 1 = cc in absurd (omega arith)
    go (Some m) p q = p ∙ alone m (digit (byte s m.width)) q

-- a byte that is not 0 is there
pub byte_inside : (s : List ℕ) (j : ℕ) → byte s j ≢ 0 → j < length s
byte_inside s j e = go (dec_lt j (length s))
  where
    go : Dec (j < length s) → j < length s
    go (yes l) = l
    go (no l) = absurd (e (get_or-eq_default s 0 (omega arith)))

pub digit_low : (c : ℕ) → digit c ≡ true → 48 ≤ c
unfolding digit
digit_low c e = leb-true _ _ (and_left _ _ e)

pub digit-high : (c : ℕ) → digit c ≡ true → c ≤ 57
unfolding digit
digit-high c e = leb-true c 57 (and_right (leb 48 c) _ e)

pub digit-inside : (s : List ℕ) (j : ℕ) → digit (byte s j) ≡ true → j < length s
digit-inside s j e = byte_inside s j (λ z. omega (arith, digit_low (byte s j) e, z))

pub numeral-none : (a b c : ℕ) → digit a ≡ false → numeral_of a b c ≡ None
unfolding numeral_of
numeral-none a b c e = rw (e, numeral_of)

-- what holds of each width that a number may have holds of the number
pub numeral-cases : (P : Option Decimal → Type 0) (a b c : ℕ) →
    (digit a ≡ false → P None) →
    (digit a ≡ true → a ≡ 48 → P (Some (record { value = 0; width = 1 }))) →
    (digit a ≡ true → a ≢ 48 → digit b ≡ false → P (Some (record { value = a - 48; width = 1 }))) →
    (digit a ≡ true → a ≢ 48 → digit b ≡ true → digit c ≡ false → P (Some (record { value = 10 * (a - 48) + (b - 48); width = 2 }))) →
    (digit a ≡ true → a ≢ 48 → digit b ≡ true → digit c ≡ true → P (Some (record { value = 100 * (a - 48) + (10 * (b - 48) + (c - 48)); width = 3 }))) →
    P (numeral_of a b c)
numeral-cases P a b c none zero' one two three = go (digit a) (ℕ_discrete a 48) (digit b) (digit c) refl refl refl
  where
    go : (x : Bool) → Dec (a ≡ 48) → (y z : Bool) → digit a ≡ x → digit b ≡ y → digit c ≡ z → P (numeral_of a b c)
    go false o y z p q r = rw (numeral-none a b c p) (none p)
    go true (yes u) y z p q r = rw (numeral-0 a b c u) (zero' p u)
    go true (no u) false z p q r = rw (numeral-1 a b c p u q) (one p u q)
    go true (no u) true false p q r = rw (numeral-2 a b c p u q r) (two p u q r)
    go true (no u) true true p q r = rw (numeral-3 a b c p u q r) (three p u q r)

-- how many bytes a number takes, 0 where none stands
unfoldable width_of : Option Decimal → ℕ
width_of None = 0
width_of (Some n) = n.width

-- the bytes of a number are there
pub numeral-width : (s : List ℕ) {n : Decimal} → numeral s ≡ Some n → n.width ≤ length s
unfolding numeral width_of
numeral-width s {n} e =
    let all = numeral-cases (λ o. width_of o ≤ length s) (byte s 0) (byte s 1) (byte s 2)
    (λ p. omega arith)
    (λ p u. omega (arith, digit-inside s 0 p))
    (λ p u q. omega (arith, digit-inside s 0 p))
    (λ p u q r. omega (arith, digit-inside s 1 q))
    (λ p u q r. omega (arith, digit-inside s 2 r)) in
    rw e at all

-- and no number is over 999
unfoldable value_of : Option Decimal → ℕ
value_of None = 0
value_of (Some n) = n.value

pub numeral-few : (s : List ℕ) {n : Decimal} → numeral s ≡ Some n → n.value ≤ 999
unfolding numeral value_of
numeral-few s {n} e =
    let all = numeral-cases (λ o. value_of o ≤ 999) (byte s 0) (byte s 1) (byte s 2)
    (λ p. omega arith)
    (λ p u. omega arith)
    (λ p u q. omega (arith, digit-high _ p))
    (λ p u q r. omega (arith, digit-high _ p, digit-high _ q))
    (λ p u q r. omega (arith, digit-high _ p, digit-high _ q, digit-high _ r)) in
    rw e at all

-- the first bytes of a list
pub first-1 : (s : List ℕ) → 0 < length s → byte s 0 ∷ drop 1 s ≡ s
first-1 s l = sym (drop-cons s 0 0 l)

first-2 : (s : List ℕ) → 1 < length s → byte s 0 ∷ byte s 1 ∷ drop 2 s ≡ s
first-2 s l = ap (λ x. byte s 0 ∷ x) (sym (drop-cons s 1 0 l)) ∙ first-1 s (omega arith)

first-3 : (s : List ℕ) → 2 < length s → byte s 0 ∷ byte s 1 ∷ byte s 2 ∷ drop 3 s ≡ s
first-3 s l = ap (λ x. byte s 0 ∷ byte s 1 ∷ x) (sym (drop-cons s 2 0 l)) ∙ first-2 s (omega arith)

-- a number's digits and what stands after them, nothing where there is none
unfoldable Stands : List ℕ → Option Decimal → Type 0
Stands s None = Unit {0}
Stands s (Some n) = digits_in 5 n.value ++ drop n.width s ≡ s

numeral-stands : (s : List ℕ) → Stands s (numeral s)
unfolding numeral Stands
numeral-stands s =
    numeral-cases (Stands s) a b c
    (λ p. tt)
    (λ p u. rw (digits_1 0 (omega arith)) (ap (λ n. n ∷ drop 1 s) (sym u) ∙ first-1 s (digit-inside s 0 p)))
    (λ p u q.
    rw (digits_1 (a - 48) (omega (arith, digit-high a p)))
    (let e : 48 + (a - 48) ≡ a = omega (arith, digit_low a p) in rw e (first-1 s (digit-inside s 0 p))))
    (λ p u q r.
    rw (digits_2 (10 * (a - 48) + (b - 48)) (omega (arith, digit_low a p)) (omega (arith, digit-high a p, digit-high b q)))
    (let e : 48 + (10 * (a - 48) + (b - 48)) / 10 ≡ a = omega (arith, digit_low a p, digit_low b q, digit-high b q) in
    let f : 48 + (10 * (a - 48) + (b - 48)) % 10 ≡ b = omega (arith, digit_low b q, digit-high b q) in
    rw (e, f) (first-2 s (digit-inside s 1 q))))
    (λ p u q r.
    rw (digits_3 (100 * (a - 48) + (10 * (b - 48) + (c - 48))) (omega (arith, digit_low a p)) (omega (arith, digit-high a p, digit-high b q, digit-high c r)))
    (let e : 48 + (100 * (a - 48) + (10 * (b - 48) + (c - 48))) / 10 / 10 ≡ a = omega (arith, digit_low a p, digit_low b q, digit-high b q, digit_low c r, digit-high c r) in
    let f : 48 + (100 * (a - 48) + (10 * (b - 48) + (c - 48))) / 10 % 10 ≡ b = omega (arith, digit_low b q, digit-high b q, digit_low c r, digit-high c r) in
    let g : 48 + (100 * (a - 48) + (10 * (b - 48) + (c - 48))) % 10 ≡ c = omega (arith, digit_low c r, digit-high c r) in
    rw (e, f, g) (first-3 s (digit-inside s 2 r))))
  where
    a : ℕ
    a = byte s 0

    b : ℕ
    b = byte s 1

    c : ℕ
    c = byte s 2

pub numeral-exact : (s : List ℕ) {n : Decimal} → numeral s ≡ Some n → digits_in 5 n.value ++ drop n.width s ≡ s
unfolding Stands
numeral-exact s e = subst (λ o. Stands s o) e (numeral-stands s)

-- a number with nothing wrong has its bytes there
pub width-inside : (missing : Cause) (s : List ℕ) {n : Decimal} → number_read missing s ≡ Ok n → n.width ≤ length s
width-inside missing s q = numeral-width s (number-some missing s q)
