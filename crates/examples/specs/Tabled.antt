-- A table given by the list of its bits, as the theorem about two benches takes it: what the checker computes of the list
-- is what the calls say of the 1,544 bytes.
use Rattle.std.specs.Prelude.{ℕ, length, Bool, ◌&&◌, false, not, true, List, ◌≡◌, refl}
use Rattle.std.proofs.Common.{eq-eqb, ◌∙◌, subst, sym}
use Rattle.std.proofs.Math.Path.{ap, ap₂}
use Rattle.examples.specs.Claims.{is_in}
use Rattle.examples.specs.Listed.{all_below, bits-listed}
use Rattle.model.specs.Analysis.{permit_all, holds}
use Rattle.model.specs.Calls.{check_answer, checking, comparing, entry, verdict_answer}
use Rattle.model.specs.Finite.{every}
use Rattle.model.proofs.Laws.Checks.{answer-done}
use Rattle.model.proofs.Laws.Booleans.{and-make}
use Rattle.model.proofs.Laws.Holding.{holds-sound}
use Rattle.model.proofs.Laws.Secrecy.{accept}
use Rattle.model.proofs.Laws.Sets.{length-bytes}
use Rattle.model.specs.Least.{bytes}
use Rattle.model.specs.Observer.{sheet, sheet_of}
use Rattle.model.specs.Records.{encode, records}
use Rattle.model.specs.Refusals.{and_then, answer, done, need, pass, refuse}
use Rattle.model.specs.Tables.{bits, parts, place_h, place_i, place_s, policy_right, table_right, table_sized}
use Rattle.model.specs.Validity.{validity}
use Rattle.model.specs.Verdicts.{verdict_of}
use Rattle.model.specs.declared.Verdict.{Verdict}

-- the bytes of a list of bits
unfoldable pub table_of : List ℕ → List ℕ
table_of xs = bytes 1544 (is_in xs)

-- "Bit 0 is clear in every row", "Row 0 is zero"
unfoldable pub formed : List ℕ → Bool
formed xs = every 64 (λ a. true) (λ a. not (is_in xs (place_i a 0))) && every 64 (λ n. true) (λ n. not (is_in xs (place_h 0 n)))

module _ (xs : List ℕ) (small : all_below 12352 xs ≡ true) where
  pub bits-tabled : bits (table_of xs) ≡ is_in xs
  unfolding table_of
  bits-tabled = bits-listed xs small

  length-tabled : length (table_of xs) ≡ 1544
  unfolding table_of
  length-tabled = length-bytes (is_in xs) 1544

  right-tabled : formed xs ≡ true → table_right (table_of xs) ≡ true
  unfolding table_right table_sized formed
  right-tabled f = and-make (eq-eqb _ _ length-tabled) (rw bits-tabled f)

  pub accepting : (policy : List ℕ) → policy_right policy ≡ true → formed xs ≡ true → (s : List ℕ) → validity s ≡ pass →
      holds permit_all policy (records s) (parts (is_in xs)) ≡ true → check_answer s policy (table_of xs) ≡ done tt
  accepting policy p f s v h = accept s policy (table_of xs) (record {
    valid = v;
    policy-right = p;
    table-right = right-tabled f;
    holding = holds-sound permit_all policy (records s) (parts (bits (table_of xs))) (rw bits-tabled h);
  })

  -- a table of the right form that doesn't hold
  pub refusing : (policy : List ℕ) → policy_right policy ≡ true → formed xs ≡ true → (s : List ℕ) → validity s ≡ pass →
      holds permit_all policy (records s) (parts (is_in xs)) ≡ false → checking s policy (table_of xs) ≡ refuse 9 0
  unfolding checking comparing entry need and_then
  refusing policy p f s v h = rw (v, p, right-tabled f, bits-tabled, h) refl

  pub judging : (policy s : List ℕ) (v : Verdict) → check_answer s policy (table_of xs) ≡ done tt → verdict_of (parts (is_in xs)) policy ≡ v →
      verdict_answer s policy (table_of xs) ≡ done v
  unfolding verdict_answer check_answer answer
  judging policy s v a e = ap₂ answer (answer-done (checking s policy (table_of xs)) _ _ a) (ap (λ u. verdict_of (parts u) policy) bits-tabled ∙ e)

  pub showing-alike : (x y : List ℕ) → sheet (records x) (λ k. is_in xs (place_s k)) ≡ sheet (records y) (λ k. is_in xs (place_s k)) →
      sheet_of x (table_of xs) ≡ sheet_of y (table_of xs)
  unfolding sheet_of
  showing-alike x y e = ap encode (subst (λ u. sheet (records x) (λ k. u (place_s k)) ≡ sheet (records y) (λ k. u (place_s k))) (sym bits-tabled) e)
