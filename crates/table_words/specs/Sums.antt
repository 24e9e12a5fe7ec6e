-- The one bits of a list of words, counted.
use Rattle.std.specs.Prelude.{◌*◌, ◌+◌, ◌<◌, ◌≤◌, suc, ℕ, drop, get_or, length, true, List, [], ◌∷◌, ◌≡◌, refl}
use Rattle.std.proofs.Common.{zero-le, drop-cons, true≢false, ◌∙◌, ap, ap₂, sym, le_refl, suc-mul, suc-ne-zero, add-one, arith}
use Rattle.std.proofs.Math.Arith.{digits_div, digits_mod}
use Rattle.std.specs.Int.Count.{ones}
use Rattle.std.specs.List.{fold, sum_by}
use Rattle.std.proofs.lemmas.Nat.{ones-le}
use Rattle.std.proofs.Math.Seq.{drop-length}
use Rattle.std.proofs.Math.Decide.{dec_lt}
use Rattle.std.proofs.Math.Nat.{suc_inj}
use Rattle.model.proofs.Laws.Bit.{Fewer, fewer, high_bit}
use Rattle.model.proofs.Laws.Sets.{Narrow}
use Rattle.model.specs.Tables.{bit_at, test_bit, total}
use Rattle.tables.specs.Grow.{Inside}

total-fold : (n : ℕ) (xs : List ℕ) → fold (λ a x. a + ones x) n xs ≡ n + total xs
unfolding total
total-fold n [] = omega arith
total-fold n (x ∷ xs) = let e = total-fold (n + ones x) xs in omega arith

pub total-sum : (xs : List ℕ) → sum_by ones xs ≡ total xs
total-sum xs = let e = total-fold 0 xs in omega arith

pub total-le : (m : ℕ) (xs : List ℕ) → Narrow m xs → total xs ≤ length xs * m
unfolding total
total-le m [] h = zero-le
total-le m (x ∷ xs) h =
    let r : total xs ≤ length xs * m = total-le m xs (λ i. h (suc i)) in
    let o : ones x ≤ m = ones-le m x (h 0) in
    let e : suc (length xs) * m ≡ length xs * m + m = suc-mul (length xs) m in
    omega arith

pub record Less (xs ys : List ℕ) : Type 0 where
  pub le : total xs ≤ total ys
  pub all : total ys ≤ total xs → xs ≡ ys

-- a bit of a word as a bit of the list
bit-of-word : (m : ℕ) (xs : List ℕ) (i k : ℕ) → k < m → bit_at m xs (i * m + k) ≡ test_bit (get_or xs i 0) k
unfolding bit_at
bit-of-word m xs i k h = ap₂ (λ (x y : ℕ). test_bit (get_or xs x 0) y) (digits_div i h) (digits_mod i h)

-- words whose bits are among others'
pub words_inside : (m : ℕ) (xs ys : List ℕ) → Narrow m xs → Inside (bit_at m xs) (bit_at m ys) → (i k : ℕ) → test_bit (get_or xs i 0) k ≡ true → test_bit (get_or ys i 0) k ≡ true
words_inside m xs ys h s i k t = go (dec_lt k m)
  where
    go : Dec (k < m) → test_bit (get_or ys i 0) k ≡ true
    go (yes l) = sym (bit-of-word m ys i k l) ∙ s (i * m + k) (bit-of-word m xs i k l ∙ t)
    go (no d) = absurd (true≢false (sym t ∙ high_bit (get_or xs i 0) k m (h i) (omega arith)))

less : (m : ℕ) (xs ys : List ℕ) → length xs ≡ length ys → Narrow m xs → Narrow m ys →
    ((i k : ℕ) → test_bit (get_or xs i 0) k ≡ true → test_bit (get_or ys i 0) k ≡ true) → Less xs ys
unfolding total
less m [] [] e hx hy w = record { le = le_refl 0; all = λ _. refl }
less m [] (y ∷ ys) e hx hy w = absurd (suc-ne-zero (length ys) (sym e))
less m (x ∷ xs) [] e hx hy w = absurd (suc-ne-zero (length xs) e)
less m (x ∷ xs) (y ∷ ys) e hx hy w =
    let r : Less xs ys = less m xs ys (suc_inj e) (λ i. hx (suc i)) (λ i. hy (suc i)) (λ i. w (suc i)) in
    let f : Fewer x y = fewer m x y (hx 0) (hy 0) (w 0) in
    let a : total xs ≤ total ys = r.le in
    let b : ones x ≤ ones y = f.le in
    record { le = omega arith; all = λ h. ap₂ (λ (z : ℕ) (zs : List ℕ). z ∷ zs) (f.all (omega arith)) (r.all (omega arith)) }

-- a list whose bits are among another's has no more of them, and is the other where it has as many
pub less-bits : (m : ℕ) (xs ys : List ℕ) → length xs ≡ length ys → Narrow m xs → Narrow m ys → Inside (bit_at m xs) (bit_at m ys) → Less xs ys
less-bits m xs ys e hx hy s = less m xs ys e hx hy (words_inside m xs ys hx s)

-- a loop that counts
pub total-next : (w : List ℕ) (i : ℕ) → i < length w → total (drop i w) ≡ ones (get_or w i 0) + total (drop (i + 1) w)
unfolding total
total-next w i h = ap total (drop-cons w i 0 h) ∙ ap (λ (k : ℕ). ones (get_or w i 0) + total (drop k w)) (sym (add-one i))

pub total-end : (w : List ℕ) (i : ℕ) → i ≡ length w → total (drop i w) ≡ 0
unfolding total
total-end w i e = ap (λ (k : ℕ). total (drop k w)) e ∙ ap total (drop-length w)
