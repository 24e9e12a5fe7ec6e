-- What a loop that stops at the first failure finds.
use Prim.Native.Nat.{◌%◌, ◌*◌, ◌+◌, ◌/◌, ◌<◌, ◌^◌, ◌≤◌, ℕ}
use Rattle.std.proofs.Common.{le_of_suc-le-suc, not-suc-le-zero, suc-le-suc, true≢false, zero-lt-suc, ◌∙◌, ap₂, arith}
use borrow.Author.Tests.{eq-eqb, le-leb, lt-leb, ne_eqb}
use Rattle.std.proofs.lemmas.Nat.{and_le_l, and_le_r}
use Rattle.std.specs.Int.Bits.{bit_or, bit_xor, or_add_and, xor_add_and, xor_self}
use Rattle.std.proofs.lemmas.List.FromFn.{get_or-range_with_len, length-range_with_len}
use Rattle.std.specs.Bool.{MatchBool}
use Rattle.std.specs.List.{AllWithin, HoldsAt, fold, range_with_len, zip}
use Rattle.std.specs.Prelude.{eqb, get_or, length, Bool, ◌&&◌, not, List, [], ◌∷◌, suc, zero, ◌≡◌}
use Rattle.std.proofs.Math.Dec.{leb}
use Rattle.std.proofs.Math.Bool.{false, true}
use Rattle.std.proofs.Math.Path.{ap, fun_ext, refl, sym}
use Rattle.std.proofs.Math.Decide.{dec_lt, ℕ_discrete}
use Rattle.model.specs.Finite.{every}
use Rattle.model.proofs.Laws.Bit.{high_bit, or_same, same_or}
use Rattle.model.proofs.Laws.Booleans.{and-make, is_false}
use Rattle.model.proofs.Laws.Finite.{every-make, every-use}
use Rattle.model.proofs.Laws.Sets.{Narrow}
use Rattle.model.specs.Tables.{bit_at, bits, place_h, place_i, policy_right, table_right, table_sized, test_bit}

module _ (n : ℕ) (t f : ℕ → Bool) where
  pub all_pass : ((x : ℕ) → x < n → t x ≡ true → f x ≡ true) → true ≡ every n t f
  all_pass h = sym (every-make t f n h)

  pub one-fails : (x : ℕ) → x < n → t x ≡ true → f x ≡ false → false ≡ every n t f
  one-fails x l e d = sym (is_false _ (λ h. true≢false (sym (every-use t f n h x l e) ∙ d)))

-- what `all` answers of the numbers below n
pub ranged : (n : ℕ) (f : ℕ → Bool) (r : Bool) →
    MatchBool r (AllWithin (λ k. f k ≡ true) (range_with_len 0 n) 0 (length (range_with_len 0 n))) ((k : ℕ) × (k < length (range_with_len 0 n)) × HoldsAt (λ k. f k ≡ false) (range_with_len 0 n) k) → r ≡ every n (λ k. true) f
ranged n f true h = all_pass n (λ k. true) f (λ k l t.
    let m : k < length (range_with_len 0 n) = omega (arith, length-range_with_len 0 n) in
    let z : k ≡ get_or (range_with_len 0 n) k 0 = omega (arith, get_or-range_with_len 0 n k 0 l) in
    ap f z ∙ h k 0 (omega arith) m)
ranged n f false h =
    let l : h.0 < n = omega (arith, h.1, length-range_with_len 0 n) in
    let z : h.0 ≡ get_or (range_with_len 0 n) h.0 0 = omega (arith, get_or-range_with_len 0 n h.0 0 l) in
    one-fails n (λ k. true) f h.0 l refl (ap f z ∙ h.2 0)

-- ---- rows

-- every byte of x is a part of y's
row-yes : (x y : List ℕ) → ((i : ℕ) → i < 16 → bit_or (get_or x i 0) (get_or y i 0) ≡ get_or y i 0) → true ≡ every 128 (λ k. bits x k) (λ k. bits y k)
unfolding bit_at
row-yes x y h = all_pass 128 _ _ (λ k l t. or_same (get_or x (k / 8) 0) (get_or y (k / 8) 0) (h (k / 8) (omega arith)) (k % 8) t)

row-no : (x y : List ℕ) (i : ℕ) → i < 16 → get_or x i 0 < 2 ^ 8 → get_or y i 0 < 2 ^ 8 → (bit_or (get_or x i 0) (get_or y i 0) ≡ get_or y i 0 → ⊥) → false ≡ every 128 (λ k. bits x k) (λ k. bits y k)
unfolding bit_at
row-no x y i l hx hy n = sym (is_false _ (λ t. n (same_or 8 (get_or x i 0) (get_or y i 0) hx hy (λ k s. go t k (dec_lt k 8) s))))
  where
    go : every 128 (λ k. bits x k) (λ k. bits y k) ≡ true → (k : ℕ) → Dec (k < 8) → test_bit (get_or x i 0) k ≡ true → test_bit (get_or y i 0) k ≡ true
    go t k (no d) s = absurd (true≢false (sym s ∙ high_bit (get_or x i 0) k 8 hx (omega arith)))
    go t k (yes d) s =
        let q : (8 * i + k) / 8 ≡ i = omega arith in
        let r : (8 * i + k) % 8 ≡ k = omega arith in
        sym (ap₂ (λ (a b : ℕ). test_bit (get_or y a 0) b) q r)
        ∙ every-use (λ k. bits x k) (λ k. bits y k) 128 t (8 * i + k) (omega arith) (ap₂ (λ (a b : ℕ). test_bit (get_or x a 0) b) q r ∙ s)

-- e and the bits that the byte p.0 has and p.1 lacks
abbrev pub with_extra : ℕ → ℕ × ℕ → ℕ
with_extra e p = bit_or e (bit_xor (bit_or p.0 p.1) p.1)

unfoldable Parts : List ℕ → List ℕ → Type 0
Parts x y = (k : ℕ) → k < length x → bit_or (get_or x k 0) (get_or y k 0) ≡ get_or y k 0

parts_none : (x y e : ℕ) → with_extra e (x, y) ≡ 0 → (e ≡ 0) × (bit_or x y ≡ y)
parts_none x y e z =
    let d = bit_xor (bit_or x y) y in
    let s = or_add_and e d in let l = and_le_l e d in let r = and_le_r e d in
    let t = xor_add_and (bit_or x y) y in let m = and_le_l (bit_or x y) y in let n = and_le_r (bit_or x y) y in
    (omega arith, omega arith)

-- nothing gathered: each byte of x is a part of y's
gathered-none : (x y : List ℕ) (e : ℕ) → length x ≡ length y → fold with_extra e (zip x y) ≡ 0 → (e ≡ 0) × Parts x y
unfolding Parts
gathered-none [] y e h z = (z, λ k l. absurd (not-suc-le-zero l))
gathered-none (x ∷ xs) [] e h z = absurd (omega (arith, h))
gathered-none (x ∷ xs) (y ∷ ys) e h z =
    let f = gathered-none xs ys (with_extra e (x, y)) (omega (arith, h)) z in
    let g = parts_none x y e f.0 in (g.0, by g.1 f.1)
  where
    by : bit_or x y ≡ y → ((k : ℕ) → k < length xs → bit_or (get_or xs k 0) (get_or ys k 0) ≡ get_or ys k 0) → (k : ℕ) → k < suc (length xs) → bit_or (get_or (x ∷ xs) k 0) (get_or (y ∷ ys) k 0) ≡ get_or (y ∷ ys) k 0
    by g f zero l = g
    by g f (suc k) l = f k (le_of_suc-le-suc l)

gathered-all : (x y : List ℕ) → Parts x y → fold with_extra 0 (zip x y) ≡ 0
unfolding Parts
gathered-all [] y h = refl
gathered-all (x ∷ xs) [] h = refl
gathered-all (x ∷ xs) (y ∷ ys) h =
    let z : with_extra 0 (x, y) ≡ 0 = ap (λ (v : ℕ). bit_or 0 (bit_xor v y)) (h 0 (zero-lt-suc (length xs))) ∙ ap (bit_or 0) (xor_self y) in
    ap (λ (e : ℕ). fold with_extra e (zip xs ys)) z ∙ gathered-all xs ys (λ k l. h (suc k) (suc-le-suc l))

pub gathered : (x y : List ℕ) → length x ≡ 16 → length y ≡ 16 → Narrow 8 x → Narrow 8 y → eqb (fold with_extra 0 (zip x y)) 0 ≡ every 128 (λ k. bits x k) (λ k. bits y k)
unfolding Parts
gathered x y hx hy nx ny = go (ℕ_discrete (fold with_extra 0 (zip x y)) 0)
  where
    part : every 128 (λ k. bits x k) (λ k. bits y k) ≡ true → Parts x y
    part t k l = by (ℕ_discrete (bit_or (get_or x k 0) (get_or y k 0)) (get_or y k 0))
      where
        by : Dec (bit_or (get_or x k 0) (get_or y k 0) ≡ get_or y k 0) → bit_or (get_or x k 0) (get_or y k 0) ≡ get_or y k 0
        by (yes p) = p
        by (no d) = absurd (true≢false (sym t ∙ sym (row-no x y k (omega arith) (nx k) (ny k) d)))

    go : Dec (fold with_extra 0 (zip x y) ≡ 0) → eqb (fold with_extra 0 (zip x y)) 0 ≡ every 128 (λ k. bits x k) (λ k. bits y k)
    go (yes z) = eq-eqb _ 0 z ∙ row-yes x y (λ i l. (gathered-none x y 0 (omega arith) z).1 i (omega arith))
    go (no d) = ne_eqb _ 0 d ∙ sym (is_false _ (λ t. d (gathered-all x y (part t))))

-- ---- a policy

module _ (policy : List ℕ) where
  pub policy-long : (length policy ≡ 64 → ⊥) → false ≡ policy_right policy
  unfolding policy_right
  policy-long d = rw (ne_eqb _ _ d)

  pub policy-first : (get_or policy 0 0 ≡ 0 → ⊥) → false ≡ policy_right policy
  unfolding policy_right
  policy-first d = rw (ne_eqb _ _ d) (fails (eqb (length policy) 64) (every 64 (λ k. true) (λ k. leb (get_or policy k 0) 2)))
    where
      fails : (a b : Bool) → false ≡ (a && (b && false))
      fails true true = refl
      fails true false = refl
      fails false b = refl

  pub policy-over : (k : ℕ) → k < 64 → 2 < get_or policy k 0 → false ≡ policy_right policy
  unfolding policy_right
  policy-over k l h = rw (← one-fails 64 (λ k. true) (λ k. leb (get_or policy k 0) 2) k l refl (lt-leb _ _ h)) (fails (eqb (length policy) 64))
    where
      fails : (a : Bool) → false ≡ (a && false)
      fails true = refl
      fails false = refl

  pub policy-good : length policy ≡ 64 → get_or policy 0 0 ≡ 0 → ((k : ℕ) → k < 64 → get_or policy k 0 ≤ 2) → true ≡ policy_right policy
  unfolding policy_right
  policy-good e z h = sym (and-make (eq-eqb _ _ e) (and-make (sym (all_pass 64 (λ k. true) (λ k. leb (get_or policy k 0) 2) (λ k l t. le-leb _ _ (h k l)))) (eq-eqb _ _ z)))

-- what `all` answers of a policy's classes
pub policy-classes : (policy : List ℕ) (r : Bool) → length policy ≡ 64 → get_or policy 0 0 ≡ 0 →
    MatchBool r (AllWithin (λ x. x ≤ 2) policy 0 (length policy)) ((k : ℕ) × (k < length policy) × HoldsAt (λ x. 2 < x) policy k) → r ≡ policy_right policy
policy-classes policy true e z h = policy-good policy e z (λ k l. h k 0 (omega arith) (omega arith))
policy-classes policy false e z h = policy-over policy h.0 (let l = h.1 in omega arith) (h.2 0)

-- ---- a table's clear bits

-- the bits that refusal 8 asks to be clear, `step` apart
abbrev pub Clear : List ℕ → ℕ → ℕ → Bool
Clear table first step = every 64 (λ k. true) (λ k. not (bits table (first + step * k)))

module _ (table : List ℕ) where
  bit-at : (i j : ℕ) → i ≡ j → not (bits table i) ≡ not (bits table j)
  bit-at i j e = rw e

  pub clear-I : Clear table 0 128 ≡ every 64 (λ a. true) (λ a. not (bits table (place_i a 0)))
  unfolding place_i
  clear-I = ap (λ (f : ℕ → Bool). every 64 (λ k. true) f) (fun_ext (λ k. bit-at (0 + 128 * k) (128 * k + 0) (omega arith)))

  pub clear-H : Clear table 8192 1 ≡ every 64 (λ n. true) (λ n. not (bits table (place_h 0 n)))
  unfolding place_h
  clear-H = ap (λ (f : ℕ → Bool). every 64 (λ k. true) f) (fun_ext (λ k. bit-at (8192 + 1 * k) (8192 + (64 * 0 + k)) (omega arith)))

  pub table-long : (length table ≡ 1544 → ⊥) → false ≡ table_right table
  unfolding table_right table_sized
  table-long d = rw (ne_eqb _ _ d)

  pub table-first : length table ≡ 1544 → Clear table 0 128 ≡ false → false ≡ table_right table
  unfolding table_right table_sized
  table-first e h = rw (eq-eqb _ _ e, ← clear-I, h)

  pub table-second : length table ≡ 1544 → Clear table 0 128 ≡ true → Clear table 8192 1 ≡ table_right table
  unfolding table_right table_sized
  table-second e h = rw (eq-eqb _ _ e, ← clear-I, h, clear-H)
