-- The tests of one record as the code goes through them, and what a reading says of the record's check.
use Rattle.std.specs.Prelude.{◌*◌, ◌+◌, ◌-◌, ◌/◌, ◌<◌, ◌≤◌, suc, ℕ, eqb, leb, length, Bool, ◌&&◌, false, not, true, List, Result, Ok, ◌≢◌, ◌≡◌, refl}
use Rattle.std.proofs.Common.{le-leb, ◌∙◌, add-one, ap, sym, arith}
use Rattle.std.proofs.lemmas.Bool.{lt-leb}
use Rattle.model.proofs.Laws.Checks.{answer-value}
use Rattle.model.proofs.Laws.Finite.{every-fail, every_take}
use Rattle.model.specs.Finite.{every}
use Rattle.model.specs.Numbers.{answer_as}
use Rattle.model.specs.Records.{byte, byte_of, count, decode}
use Rattle.model.specs.Refusals.{Check, answer}
use Rattle.model.specs.Validity.{parent_right, spare_right}
use Rattle.model.specs.declared.Rec.{Rec}
use Rattle.model.specs.declared.Refusal.{Refusal}
use Rattle.record_checks.specs.Reading.{in_order}
use Rattle.records.specs.Laws.{byte-of}

-- a parent that is not the environment: by its kind, read directly, where it is within the count
module _ (s : List ℕ) (p : ℕ) (h : p ≢ 0) where
  pub parent-near : p ≤ length s / 8 → not (eqb (byte s (8 * (p - 1))) 0) ≡ parent_right s p
  unfolding parent_right count byte_of
  parent-near l =
      let e : p ≡ suc (p - 1) = omega arith in
      let z : 8 * (p - 1) ≡ 8 * (p - 1) + 0 = omega arith in
      ap (λ k. not (eqb (byte s k) 0)) z ∙ sym (ap (parent_right s) e ∙ rw (le-leb (suc (p - 1)) (length s / 8) (omega arith)) refl)

  pub parent-far : length s / 8 < p → leb p (length s / 8) ≡ parent_right s p
  unfolding parent_right count
  parent-far l =
      let e : p ≡ suc (p - 1) = omega arith in
      lt-leb p (length s / 8) l ∙ sym (ap (parent_right s) e ∙ rw (lt-leb (suc (p - 1)) (length s / 8) (omega arith)) refl)

-- the spare byte of a record, read directly
pub spare-direct : (s : List ℕ) (i : ℕ) → i ≢ 0 → eqb (byte s (8 * (i - 1) + 3)) 0 ≡ spare_right s i
unfolding spare_right
spare-direct s i h = rw (byte-of s i 3 h)

-- what is answered where the check passes
pub answered-is : {A : Type 0} (v : Result A Refusal) (k : Check) (x : A) → answer_as v ≡ answer k x → {y : A} → v ≡ Ok y → y ≡ x
unfolding answer_as
answered-is v k x h {y} e = sym (answer-value k x y (sym h ∙ ap answer_as e))

-- whether records are in order, one after the other
pub order-start : (s : List ℕ) → true ≡ in_order s 0
unfolding in_order every
order-start s = refl

pub order-next : (s : List ℕ) (i : ℕ) (b : Bool) (r : Rec) → b ≡ in_order s i → r ≡ decode s (i + 1) → (leb r.parent i && b) ≡ in_order s (i + 1)
unfolding in_order
order-next s i b r h e = rw e (go (leb (decode s (i + 1)).parent i) refl ∙ ap (in_order s) (sym (add-one i)))
  where
    go : (t : Bool) → leb (decode s (i + 1)).parent i ≡ t → (leb (decode s (i + 1)).parent i && b) ≡ in_order s (suc i)
    go true u = rw u (h ∙ sym (every_take _ _ i refl u))
    go false u = rw u (sym (every-fail _ _ i refl u))
