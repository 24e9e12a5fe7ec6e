-- Laws of what is listed, number by number.
use Rattle.std.specs.Prelude.{◌%◌, ◌+◌, ◌<◌, ◌≤◌, suc, ℕ, eqb, length, set, Bool, ◌&&◌, ◌||◌, false, true, List, [], ◌++◌, ◌∷◌, ◌≡◌, refl}
use Rattle.std.proofs.Common.{eqb-true, ◌∙◌, ap, sym, arith, append-nil, length-append}
use Rattle.std.proofs.lemmas.List.{take_more_set}
use Rattle.copies.specs.Listed.{Listed}
use Rattle.model.proofs.Laws.Numbers.{numbers-next, only_number}
use Rattle.model.proofs.Laws.Booleans.{and_left}
use Rattle.model.proofs.Laws.Bytes.{at-whole}
use Rattle.model.proofs.Laws.WellFormed.{alive-in}
use Rattle.model.specs.Climbing.{ambients, below}
use Rattle.model.specs.Copies.{active_replication}
use Rattle.model.specs.Finite.{numbers}
use Rattle.model.specs.Records.{at, decode, is_replication, parent_of, records}
use Rattle.model.specs.declared.Rec.{Rec}

-- what a record makes of what is above it
pub made : (c i : ℕ) (r : Rec) (x b : Bool) → b ≡ eqb r.parent c → (b || x) ≡ (below c).make i r x
made c i r x true e = ap (λ (t : Bool). elim t [ true ↦ true | false ↦ x ]) e
made c i r x false e = ap (λ (t : Bool). elim t [ true ↦ true | false ↦ x ]) e

-- the numbers up to i that pass a test are listed
pub record ListedTo (t : ℕ → Bool) (i : ℕ) (list : List ℕ) (n : ℕ) : Type 0 where
  pub listed : Listed (numbers t 1 i) list n
  pub few : n ≤ i

module _ (t : ℕ → Bool) where
  pub listed-none : (list : List ℕ) → ListedTo t 0 list 0
  unfolding numbers
  listed-none list = record { listed = record { first = refl; many = refl }; few = omega arith }

  module _ {i n : ℕ} {list : List ℕ} (w : ListedTo t i list n) where
    pub listed-skip : t (i + 1) ≡ false → ListedTo t (i + 1) list n
    unfolding only_number
    listed-skip e = record { listed = record { first = w.listed.first ∙ same; many = w.listed.many ∙ ap length same }; few = omega (arith, w.few) }
      where
        same : numbers t 1 i ≡ numbers t 1 (i + 1)
        same =
            let a : i + 1 ≡ suc i = omega arith in
            let b : i + 1 ≡ 1 + i = omega arith in
            sym (ap (numbers t 1) a ∙ numbers-next t 1 i ∙ ap (λ j. numbers t 1 i ++ only_number (t j) j) (sym b) ∙ ap (λ (x : Bool). numbers t 1 i ++ only_number x (i + 1)) e ∙ append-nil (numbers t 1 i))

    pub listed-more : t (i + 1) ≡ true → n < length list → ListedTo t (i + 1) (set list n (i + 1)) (n + 1)
    unfolding only_number
    listed-more e l = record {
      listed = record {
        first = take_more_set list n (i + 1) l ∙ ap (λ xs. xs ++ ((i + 1) ∷ [])) w.listed.first ∙ grown;
        many = omega (arith, w.listed.many, ap length grown, length-append (numbers t 1 i) ((i + 1) ∷ []));
      };
      few = omega (arith, w.few);
    }
      where
        grown : (numbers t 1 i ++ ((i + 1) ∷ [])) ≡ numbers t 1 (i + 1)
        grown =
            let a : i + 1 ≡ suc i = omega arith in
            let b : i + 1 ≡ 1 + i = omega arith in
            sym (ap (numbers t 1) a ∙ numbers-next t 1 i ∙ ap (λ j. numbers t 1 i ++ only_number (t j) j) (sym b) ∙ ap (λ (x : Bool). numbers t 1 i ++ only_number x (i + 1)) e)

-- whether a number is an active replication, from its record
pub active-by : (s : List ℕ) (c : ℕ) (r : Rec) → length s % 8 ≡ 0 → r ≡ decode s c → {a b : Bool} → a ≡ is_replication r → b ≡ ambients (records s) r.parent →
    (a && b) ≡ active_replication (records s) c
unfolding active_replication
active-by s c r m e f g = let h : at (records s) c ≡ r = at-whole s m c ∙ sym e in rw (f, g) (ap (λ x. is_replication x && ambients (records s) x.parent) (sym h))

-- it is the number of a record
pub active-in : (its : List Rec) (c : ℕ) → active_replication its c ≡ true → c ≤ length its
unfolding active_replication is_replication
active-in its c a =
    let k : (at its c).kind ≡ 5 = eqb-true (at its c).kind 5 (and_left _ (ambients its (parent_of its c)) a) in
    alive-in its c (λ z. omega (arith, k))
