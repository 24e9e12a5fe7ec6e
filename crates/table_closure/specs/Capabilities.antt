-- The capability labels in I, which stand in the odd words, counted.
use Rattle.std.specs.Prelude.{◌*◌, ◌+◌, ◌<◌, ◌≤◌, suc, zero, ℕ, get_or, List, ◌≡◌, refl}
use Rattle.std.specs.Int.Count.{ones}
use Rattle.std.specs.List.{fold, range_with_len, sum_by}
use Rattle.std.proofs.lemmas.Nat.{ones-le}
use Rattle.std.proofs.Common.{⊎_elim, ◌∙◌, ap, sym, eq-or-lt_of_le, le_of_suc-le-suc, le_refl, not-suc-le-zero, add-one, arith}
use Rattle.model.proofs.Laws.Bit.{Fewer, fewer}
use Rattle.model.proofs.Laws.Sets.{Narrow}
use Rattle.model.specs.Tables.{bit_at}
use Rattle.tables.specs.Grow.{Inside}
use Rattle.table_words.specs.Sums.{words_inside}

-- those of the first n rows
unfoldable pub capabilities : List ℕ → ℕ → ℕ
capabilities w zero = 0
capabilities w (suc n) = capabilities w n + ones (get_or w (1 + 2 * n) 0)

pub capabilities-next : (w : List ℕ) (n : ℕ) → capabilities w (n + 1) ≡ capabilities w n + ones (get_or w (1 + 2 * n) 0)
unfolding capabilities
capabilities-next w n = ap (capabilities w) (add-one n)

pub capabilities-none : (w : List ℕ) → capabilities w 0 ≡ 0
unfolding capabilities
capabilities-none w = refl

pub capabilities-le : (w : List ℕ) (n : ℕ) → Narrow 64 w → capabilities w n ≤ 64 * n
unfolding capabilities
capabilities-le w zero h = le_refl 0
capabilities-le w (suc n) h = let a = capabilities-le w n h in let b = ones-le 64 (get_or w (1 + 2 * n) 0) (h (1 + 2 * n)) in omega arith

capabilities-fold : (w : List ℕ) (k n a : ℕ) → fold (λ a i. a + ones (get_or w (1 + 2 * i) 0)) a (range_with_len k n) + capabilities w k ≡ a + capabilities w (k + n)
capabilities-fold w k zero a = ap (λ (m : ℕ). a + capabilities w m) (omega arith)
capabilities-fold w k (suc n) a =
    let f = capabilities-fold w (k + 1) n (a + ones (get_or w (1 + 2 * k) 0)) in
    let g = capabilities-next w k in
    let e = ap (capabilities w) {x = k + 1 + n} {y = k + suc n} (omega arith) in omega arith

pub capabilities-sum : (w : List ℕ) → sum_by (λ i. ones (get_or w (1 + 2 * i) 0)) (range_with_len 0 64) ≡ capabilities w 64
capabilities-sum w = let f = capabilities-fold w 0 64 0 in let z = capabilities-none w in omega arith

pub record FewerCapabilities (w w' : List ℕ) (n : ℕ) : Type 0 where
  pub le : capabilities w n ≤ capabilities w' n
  pub all : capabilities w' n ≤ capabilities w n → (k : ℕ) → k < n → get_or w (1 + 2 * k) 0 ≡ get_or w' (1 + 2 * k) 0

-- a table that has grown has no fewer, and the same ones where it has as many
pub capabilities-fewer : (w w' : List ℕ) → Narrow 64 w → Narrow 64 w' → Inside (bit_at 64 w) (bit_at 64 w') → (n : ℕ) → FewerCapabilities w w' n
unfolding capabilities
capabilities-fewer w w' h h' s zero = record { le = le_refl 0; all = λ _ k l. absurd (not-suc-le-zero l) }
capabilities-fewer w w' h h' s (suc n) =
    let r : FewerCapabilities w w' n = capabilities-fewer w w' h h' s n in
    let f : Fewer (get_or w (1 + 2 * n) 0) (get_or w' (1 + 2 * n) 0) = fewer 64 (get_or w (1 + 2 * n) 0) (get_or w' (1 + 2 * n) 0) (h (1 + 2 * n)) (h' (1 + 2 * n)) (words_inside 64 w w' h s (1 + 2 * n)) in
    let a : capabilities w n ≤ capabilities w' n = r.le in
    let b : ones (get_or w (1 + 2 * n) 0) ≤ ones (get_or w' (1 + 2 * n) 0) = f.le in
    record {
      le = omega arith;
      all = λ g k l. ⊎_elim (λ e. ap (λ (x : ℕ). get_or w (1 + 2 * x) 0) e ∙ f.all (omega arith) ∙ ap (λ (x : ℕ). get_or w' (1 + 2 * x) 0) (sym e)) (λ m. r.all (omega arith) k m) (eq-or-lt_of_le (le_of_suc-le-suc l));
    }
