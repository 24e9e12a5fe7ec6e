-- One climb of a view, where the record is read from bytes.
use Rattle.std.specs.Prelude.{◌%◌, ◌+◌, ◌-◌, ◌/◌, suc, ℕ, length, true, List, ◌≢◌, ◌≡◌}
use Rattle.std.proofs.Common.{eq-eqb, eqb-true, ◌∙◌, ap, sym, arith}
use Rattle.model.specs.Climbing.{View, view, view_from}
use Rattle.model.proofs.Laws.Bytes.{at-whole, length-records}
use Rattle.model.proofs.Laws.Views.{from-lost, from_on, from-top}
use Rattle.model.specs.Records.{at, count, decode, is_ambient, records}
use Rattle.model.specs.declared.Rec.{Rec}

-- one climb of a view, where r is the record read
module _ {A : Type 0} (v : View A) (s : List ℕ) (left i : ℕ) where
  pub climb-top : i ≡ 0 → view_from v (records s) left i ≡ v.top
  climb-top e = rw e (from-top v (records s) left)

  pub climb-lost : i ≢ 0 → left ≡ 0 → view_from v (records s) left i ≡ v.lost
  climb-lost n e = rw e (from-lost v (records s) i n)

  pub climb-on : length s % 8 ≡ 0 → i ≢ 0 → left ≢ 0 → (r : Rec) → r ≡ decode s i → view_from v (records s) left i ≡ v.make i r (view_from v (records s) (left - 1) r.parent)
  climb-on m n z r e =
      let u : left ≡ suc (left - 1) = omega arith in
      let w : at (records s) i ≡ r = at-whole s m i ∙ sym e in
      ap (λ k. view_from v (records s) k i) u ∙ from_on v (records s) (left - 1) i n ∙ ap (λ x. v.make i x (view_from v (records s) (left - 1) x.parent)) w

-- as many climbs as a view takes
pub view-from : {A : Type 0} (v : View A) (s : List ℕ) (i : ℕ) → view_from v (records s) (length s / 8 + 1) i ≡ view v (records s) i
unfolding view count
view-from v s i = let e : length s / 8 + 1 ≡ suc (length (records s)) = omega (arith, length-records s) in ap (λ k. view_from v (records s) k i) e

-- ambients by their kind
pub ambient-is : (r : Rec) → r.kind ≡ 1 → is_ambient r ≡ true
unfolding is_ambient
ambient-is r e = eq-eqb _ _ e

pub ambient-kind : (r : Rec) → is_ambient r ≡ true → r.kind ≡ 1
unfolding is_ambient
ambient-kind r e = eqb-true _ _ e
