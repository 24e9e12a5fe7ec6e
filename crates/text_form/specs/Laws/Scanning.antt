-- Reading, a byte at a time: what each test of the code decides.
use Prim.Native.Nat.{◌+◌, ◌-◌, ◌<◌, ◌≤◌, suc, ℕ}
use borrow.Author.Tests.{eq-eqb, ne_eqb}
use Rattle.std.specs.Prelude.{cond, eqb, ltb, nat_eq, not, ◌&&◌, unwrap_or, drop, get_or, length, take, Bool, false, true, List, [], ◌∷◌, ◌≡◌, refl}
use Rattle.std.specs.Prelude.{Option, None, Some, Err}
use Rattle.std.proofs.Common.{drop-cons, drop_of_length-le, length-drop, take_all, ◌∙◌, ap, sym}
use Rattle.std.specs.List.{position_or_len, starts_with}
use Rattle.std.proofs.lemmas.Bool.{ltb-false}
use lib.Pointwise.{pointwise}
use Rattle.std.proofs.Math.Decide.{ℕ_discrete}
use native.Mathlib.Omega.{arith}
use Rattle.model.specs.Records.{byte}
use Rattle.text_form.specs.Lines.{kind_word}
use Rattle.text_form.specs.Reading.{digit, digits_cause, labelled, leading, number_alone, number_read, numeral, starts, unworded, worded_by}
use Rattle.text_form.specs.declared.Cause.{Cause}
use Rattle.text_form.specs.declared.Decimal.{Decimal}
use Rattle.text_form.specs.declared.Kind.{Kind}

-- bytes that pass a test
pub leading-inside : (test : ℕ → Bool) (s : List ℕ) → leading test s ≤ length s
unfolding leading
leading-inside test [] = omega arith
leading-inside test (c ∷ s) = go (test c) (leading-inside test s)
  where
    go : (b : Bool) → leading test s ≤ length s → elim b [ true ↦ suc (leading test s) | false ↦ 0 ] ≤ suc (length s)
    go true ih = omega arith
    go false ih = omega arith

-- they end at the first byte that fails it
leading-position : (test : ℕ → Bool) (s : List ℕ) → leading test s ≡ position_or_len (λ c. not (test c)) s
unfolding leading
leading-position test [] = refl
leading-position test (c ∷ s) = go (test c) (leading-position test s)
  where
    go : (b : Bool) → leading test s ≡ position_or_len (λ c. not (test c)) s → elim b [ true ↦ suc (leading test s) | false ↦ 0 ] ≡ cond (not (not b)) (1 + position_or_len (λ c. not (test c)) s) 0
    go true ih = omega (arith, ih)
    go false ih = refl

pub leading-found : (test : ℕ → Bool) (s : List ℕ) {o : Option ℕ} {n : ℕ} → o ≡ cond (ltb (position_or_len (λ c. not (test c)) s) (length s)) (Some (position_or_len (λ c. not (test c)) s)) None →
    n ≡ unwrap_or o (length s) → n ≡ leading test s
leading-found test s {o} {n} e q = go (ltb (position_or_len (λ c. not (test c)) s) (length s)) refl
  where
    p : ℕ
    p = position_or_len (λ c. not (test c)) s

    go : (b : Bool) → ltb p (length s) ≡ b → n ≡ leading test s
    go true t = q ∙ rw (e, t) (sym (leading-position test s))
    go false t = q ∙ rw (e, t) (omega (arith, leading-position test s, leading-inside test s, ltb-false _ _ t))

eqb-turned : (x y : ℕ) → eqb x y ≡ eqb y x
eqb-turned x y = go (ℕ_discrete x y)
  where
    go : Dec (x ≡ y) → eqb x y ≡ eqb y x
    go (yes e) = eq-eqb x y e ∙ sym (eq-eqb y x (sym e))
    go (no e) = ne_eqb x y e ∙ sym (ne_eqb y x (λ q. e (sym q)))

-- as the library tests it
pub starts_tested : (w s : List ℕ) → starts w s ≡ starts_with nat_eq s w
unfolding starts
starts_tested [] s = refl
starts_tested (c ∷ w) [] = refl
starts_tested (c ∷ w) (x ∷ s) = rw (eqb-turned x c, starts) (go (eqb c x) (starts_tested w s))
  where
    go : (b : Bool) → starts w s ≡ starts_with nat_eq s w → elim b [ true ↦ starts w s | false ↦ false ] ≡ (b && starts_with nat_eq s w)
    go true ih = ih
    go false ih = refl

pub starts-prefix : (w s : List ℕ) → starts w s ≡ pointwise nat_eq (take (length w) s) w
unfolding starts
starts-prefix [] s = refl
starts-prefix (c ∷ w) [] = refl
starts-prefix (c ∷ w) (x ∷ s) = go (eqb x c) (starts-prefix w s)
  where
    go : (b : Bool) → starts w s ≡ pointwise nat_eq (take (length w) s) w → elim b [ true ↦ starts w s | false ↦ false ] ≡ (b && pointwise nat_eq (take (length w) s) w)
    go true ih = ih
    go false ih = refl

-- digits stand after the number
pub number_more : (missing : Cause) (s : List ℕ) {n : Decimal} → numeral s ≡ Some n → digit (byte s n.width) ≡ true → number_read missing s ≡ Err (digits_cause n.width)
unfolding number_read number_alone
number_more missing s q e = rw (q, number_alone) (rw e)

-- the kinds from number i on: the first has its word w there, or has it not, or there is none
module _ (ks : List Kind) (i : ℕ) (d : ℕ) (s : List ℕ) where
  module _ (z : Kind) {w : List ℕ} (l : i < length ks) (e : w ≡ kind_word (get_or ks i z)) where
    word-there : {b : Bool} → pointwise nat_eq (take (length w) s) w ≡ b → starts (kind_word (get_or ks i z)) s ≡ b
    word-there h = ap (λ x. starts x s) (sym e) ∙ starts-prefix w s ∙ h

    pub worded-here : pointwise nat_eq (take (length w) s) w ≡ true → worded_by (drop i ks) d s ≡ labelled d (get_or ks i z) (drop (length w) s)
    unfolding worded_by
    worded-here h = rw (drop-cons ks i z l) (rw (word-there h, worded_by) (ap (λ x. labelled d (get_or ks i z) (drop (length x) s)) (sym e)))

    pub worded-later : pointwise nat_eq (take (length w) s) w ≡ false → worded_by (drop i ks) d s ≡ worded_by (drop (i + 1) ks) d s
    unfolding worded_by
    worded-later h =
        let u : suc i ≡ i + 1 = omega arith in
        rw (drop-cons ks i z l) (rw (word-there h, worded_by) (ap (λ j. worded_by (drop j ks) d s) u))

  pub worded_end : length ks ≤ i → worded_by (drop i ks) d s ≡ unworded s
  unfolding worded_by
  worded_end l = rw (drop_of_length-le ks l)

-- the part of a slice from n on
pub part : (n : ℕ) (s : List ℕ) → take (length s - n) (drop n s) ≡ drop n s
part n s = take_all (length s - n) (drop n s) (omega (arith, length-drop n s))
