-- The client in a line: what is written is read back, what is read is what stands there, and no 0 is read where a space stands.
-- So 0 has one text, which is none.
use Rattle.std.specs.Prelude.{◌+◌, ◌≤◌, suc, zero, ℕ, eqb, drop, length, not, Bool, false, true, List, [], ◌++◌, ◌∷◌, ◌≢◌, ◌≡◌, refl}
use Rattle.std.proofs.Common.{eqb-true, length-drop, ne_eqb, drop-drop, ◌∙◌, ap, sym, arith}
use Rattle.std.proofs.lemmas.Bool.{eqb-false, not-true}
use Rattle.std.specs.Prelude.{Some, Result, Ok, Err}
use Rattle.model.specs.Listing.{digits_in}
use Rattle.model.specs.Records.{byte}
use Rattle.text_put.specs.Digits.{digits-few, digits-three}
use Rattle.text_form.specs.Laws.Numerals.{byte_inside, demand-good, first-1, number-fine, number-some, numeral-exact, numeral-few, numeral-width, space-no-digit, ten-no-digit}
use Rattle.text_form.specs.Lines.{client_bytes}
use Rattle.text_form.specs.Reading.{client_read, client_told, demand, number_read, numeral}
use Rattle.text_form.specs.declared.Cause.{Cause}
use Rattle.text_form.specs.declared.Cause.TheVariants as cause
use Rattle.text_form.specs.declared.Decimal.{Decimal}

-- how it is written
pub client-none : (n : ℕ) → n ≡ 0 → client_bytes n ≡ []
unfolding client_bytes
client-none n e = rw e

pub client-some : (n : ℕ) → n ≢ 0 → client_bytes n ≡ 32 ∷ digits_in 5 n
unfolding client_bytes
client-some zero z = absurd (z refl)
client-some (suc n) z = refl

pub client-few : (n : ℕ) → length (client_bytes n) ≤ 6
unfolding client_bytes
client-few zero = omega arith
client-few (suc n) = omega (arith, digits-few 5 (suc n))

pub client-short : (n : ℕ) → n ≤ 999 → length (client_bytes n) ≤ 4
unfolding client_bytes
client-short zero h = omega arith
client-short (suc n) h = omega (arith, digits-three (suc n) h)

-- a number before it is read back
pub number-then : (missing : Cause) (n m : ℕ) (s : List ℕ) → n ≤ 999 → number_read missing (digits_in 5 n ++ (client_bytes m ++ (10 ∷ s))) ≡ Ok (record { value = n; width = length (digits_in 5 n) })
unfolding client_bytes
number-then missing n zero s h = number-fine missing n 10 s h ten-no-digit
number-then missing n (suc m) s h = number-fine missing n 32 _ h space-no-digit

-- a client that is written is read back
pub client-back : (n : ℕ) (s : List ℕ) → n ≤ 999 → client_read (client_bytes n ++ (10 ∷ s)) ≡ Ok (record { value = n; width = length (client_bytes n) })
unfolding client_read client_told client_bytes demand
client-back zero s h = refl
client-back (suc n) s h = rw (number-fine cause.NoClient (suc n) 10 s h ten-no-digit, client_told) (rw (ne_eqb (suc n) 0 (omega arith)))

-- a client that is read: none, or a number that isn't 0, behind a space
data Client (s : List ℕ) : Decimal → Type 0 where
  unwritten : Client s (record { value = 0; width = 0 })
  behind : {m : Decimal} → byte s 0 ≡ 32 → numeral (drop 1 s) ≡ Some m → m.value ≢ 0 → Client s (record { value = m.value; width = suc m.width })

client-is : (s : List ℕ) {n : Decimal} → client_read s ≡ Ok n → Client s n
unfolding client_read client_told
client-is s {n} e = go (eqb (byte s 0) 32) refl e
  where
    told : (r : Result Decimal Cause) → number_read cause.NoClient (drop 1 s) ≡ r → byte s 0 ≡ 32 → client_told r ≡ Ok n → Client s n
    told (Err c) p w q = let u : ◌≡◌ {A = ℕ} 0 1 = cc in absurd (omega arith)
    told (Ok m) p w q =
        let d = demand-good (not (eqb m.value 0)) cause.ZeroClient (Ok (record { value = m.value; width = suc m.width })) q in
        let u : ◌≡◌ {A = Decimal} (record { value = m.value; width = suc m.width }) n = cc in
        rw (← u) (behind w (number-some cause.NoClient (drop 1 s) p) (eqb-false _ _ (not-true _ d.0)))

    go : (b : Bool) → eqb (byte s 0) 32 ≡ b → ◌≡◌ {A = Result Decimal Cause} (elim b [ true ↦ client_told (number_read cause.NoClient (drop 1 s)) | false ↦ Ok (record { value = 0; width = 0 }) ]) (Ok n) → Client s n
    go true p q = told (number_read cause.NoClient (drop 1 s)) refl (eqb-true (byte s 0) 32 p) q
    go false p q = let u : ◌≡◌ {A = Decimal} (record { value = 0; width = 0 }) n = cc in rw (← u) unwritten

solid : (s : List ℕ) → byte s 0 ≡ 32 → 1 ≤ length s
solid s w = byte_inside s 0 (λ z. omega (arith, w, z))

few-of : (s : List ℕ) {n : Decimal} → Client s n → n.value ≤ 999
few-of s unwritten = omega arith
few-of s (behind w e z) = numeral-few (drop 1 s) e

width-of : (s : List ℕ) {n : Decimal} → Client s n → n.width ≤ length s
width-of s unwritten = omega arith
width-of s (behind w e z) = omega (arith, numeral-width (drop 1 s) e, length-drop 1 s, solid s w)

exact-of : (s : List ℕ) {n : Decimal} → Client s n → client_bytes n.value ++ drop n.width s ≡ s
unfolding client_bytes
exact-of s unwritten = refl
exact-of s (behind {m = m} w e z) =
    let u : 1 + m.width ≡ suc m.width = omega arith in
    rw (client-some m.value z)
    (ap (λ x. 32 ∷ (digits_in 5 m.value ++ x)) (sym (drop-drop m.width 1 s ∙ ap (λ k. drop k s) u))
    ∙ ap (λ x. 32 ∷ x) (numeral-exact (drop 1 s) e)
    ∙ ap (λ x. x ∷ drop 1 s) (sym w)
    ∙ first-1 s (solid s w))

module _ (s : List ℕ) {n : Decimal} (e : client_read s ≡ Ok n) where
  -- it has at most three digits
  pub client-low : n.value ≤ 999
  client-low = few-of s (client-is s e)

  -- its bytes are there
  pub client-inside : n.width ≤ length s
  client-inside = width-of s (client-is s e)

  -- and are what is written for it
  pub client-exact : client_bytes n.value ++ drop n.width s ≡ s
  client-exact = exact-of s (client-is s e)
