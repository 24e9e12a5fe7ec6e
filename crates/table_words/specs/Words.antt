-- Bytes as one number, the first lowest: its bits are theirs.
use Rattle.std.specs.Prelude.{◌%◌, ◌*◌, ◌+◌, ◌-◌, ◌/◌, ◌<◌, ◌^◌, ◌≤◌, suc, zero, ℕ, eqb, drop, get_or, length, set, take, ◌++◌, Bool, ◌||◌, false, List, [], ◌∷◌, ◌≡◌}
use Rattle.std.proofs.lemmas.Nat.{or_shifted}
use Rattle.std.proofs.Math.ListN.{get_or-append, get_or-eq_default}
use borrow.Rule.Slice.PartMut.{put_mid}
use Rattle.std.specs.Int.{from_le_bytes, to_le_bytes}
use Rattle.std.specs.Simd.{first_chunks}
use Rattle.std.proofs.lemmas.List.{drop_all, drop-drop}
use Rattle.std.proofs.Common.{refl, w64, length-take, pow_pos, drop-cons, get_or-set_other, get_or-set_same, get_or-append-add, get_or-take, length-append, length-drop, length-take-le, ⊎_elim, ◌∙◌, ap₂, subst, div-add-mod', eq-or-lt_of_le, le_of_eq, le_of_suc-le-suc, le_trans, lt_irrefl, mod-lt, mul_assoc, mul-div_cancel, not-suc-le-zero, pow-suc, zero-lt-suc, add-one}
use Rattle.std.proofs.Math.Pow.{high}
use Rattle.std.proofs.Math.Seq.{get_or-drop}
use Rattle.std.proofs.Math.Path.{ap, fun_ext, sym}
use Rattle.std.proofs.Math.Decide.{dec_lt}
use Rattle.std.proofs.Math.Nat.{min-le_left, mul-mod_left}
use native.Mathlib.Omega.{arith}
use Rattle.model.proofs.Laws.Bit.{half-bit, lowest-bit, or-bit, shr-bit, zero_bit}
use Rattle.model.proofs.Laws.Sets.{Narrow}
use Rattle.model.specs.Tables.{bit_at, test_bit}

unfoldable pub value : List ℕ → ℕ
value [] = 0
value (x ∷ xs) = value xs * 2 ^ 8 + x

-- ---- a byte below other bits

shl-low : (v m j : ℕ) → j < m → test_bit (v * 2 ^ m) j ≡ false
shl-low v zero j h = absurd (not-suc-le-zero h)
shl-low v (suc m) zero h =
    lowest-bit (v * 2 ^ suc m)
    ∙ ap (λ (x : ℕ). eqb (x % 2) 1) (ap (λ (x : ℕ). v * x) (pow-suc 2 m) ∙ sym (mul_assoc v (2 ^ m) 2))
    ∙ ap (λ (x : ℕ). eqb x 1) (mul-mod_left (v * 2 ^ m) 2)
shl-low v (suc m) (suc j) h =
    sym (half-bit (v * 2 ^ suc m) j)
    ∙ ap (λ (x : ℕ). test_bit x j) (ap (λ (x : ℕ). x / 2) (ap (λ (x : ℕ). v * x) (pow-suc 2 m) ∙ sym (mul_assoc v (2 ^ m) 2)) ∙ mul-div_cancel (v * 2 ^ m) (zero-lt-suc 1))
    ∙ shl-low v m j (le_of_suc-le-suc h)

cat-low : (v x j : ℕ) → x < 2 ^ 8 → j < 8 → test_bit (v * 2 ^ 8 + x) j ≡ test_bit x j
cat-low v x j h l =
    ap (λ (y : ℕ). test_bit y j) (sym (or_shifted v 8 x h)) ∙ or-bit (v * 2 ^ 8) x j ∙ ap (λ (b : Bool). b || test_bit x j) (shl-low v 8 j l)

cat-high : (v x j : ℕ) → x < 2 ^ 8 → test_bit (v * 2 ^ 8 + x) (8 + j) ≡ test_bit v j
cat-high v x j h = sym (shr-bit (v * 2 ^ 8 + x) 8 j) ∙ ap (λ (y : ℕ). test_bit y j) (high v 8 h)

-- the lowest byte
mod-bit : (x k : ℕ) → k < 8 → test_bit (x % 2 ^ 8) k ≡ test_bit x k
mod-bit x k h = sym (cat-low (x / 2 ^ 8) (x % 2 ^ 8) k (mod-lt x (pow_pos 8)) h) ∙ ap (λ (y : ℕ). test_bit y k) (div-add-mod' x (2 ^ 8))

value-bit : (xs : List ℕ) → Narrow 8 xs → (j : ℕ) → test_bit (value xs) j ≡ bit_at 8 xs j
unfolding value bit_at
value-bit [] h j = zero_bit j ∙ sym (zero_bit (j % 8))
value-bit (x ∷ xs) h j = go (value-bit xs (λ i. h (suc i))) (dec_lt j 8)
  where
    go : ((i : ℕ) → test_bit (value xs) i ≡ bit_at 8 xs i) → Dec (j < 8) → test_bit (value xs * 2 ^ 8 + x) j ≡ test_bit (get_or (x ∷ xs) (j / 8) 0) (j % 8)
    go ih (yes l) =
        let q : j / 8 ≡ 0 = omega arith in
        let r : j % 8 ≡ j = omega arith in
        cat-low (value xs) x j (h 0) l ∙ sym (ap₂ (λ (a b : ℕ). test_bit (get_or (x ∷ xs) a 0) b) q r)
    go ih (no d) =
        let e : j ≡ 8 + (j - 8) = omega arith in
        let q : j / 8 ≡ suc ((j - 8) / 8) = omega arith in
        let r : j % 8 ≡ (j - 8) % 8 = omega arith in
        ap (λ (y : ℕ). test_bit (value xs * 2 ^ 8 + x) y) e ∙ cat-high (value xs) x (j - 8) (h 0) ∙ ih (j - 8)
        ∙ sym (ap₂ (λ (a b : ℕ). test_bit (get_or (x ∷ xs) a 0) b) q r)

-- ---- eight bytes of a table

module _ (t : List ℕ) (narrow : Narrow 8 t) where
  part-narrow : (n at : ℕ) → Narrow 8 (take n (drop at t))
  part-narrow n at i = go (dec_lt i n)
    where
      go : Dec (i < n) → get_or (take n (drop at t)) i 0 < 2 ^ 8
      go (yes l) = subst (λ (x : ℕ). x < 2 ^ 8) (sym (get_or-take n (drop at t) i 0 l ∙ get_or-drop at t i 0)) (narrow (at + i))
      go (no d) =
          subst (λ (x : ℕ). x < 2 ^ 8)
          (sym (get_or-eq_default (take n (drop at t)) 0 (le_trans (le_of_eq (length-take n (drop at t))) (le_trans (min-le_left n (length (drop at t))) (omega arith)))))
          (pow_pos 8)

  word-bit : (at j : ℕ) → j < 64 → test_bit (value (take 8 (drop at t))) j ≡ bit_at 8 t (8 * at + j)
  unfolding bit_at
  word-bit at j l =
      let q : (8 * at + j) / 8 ≡ at + j / 8 = omega arith in
      let r : (8 * at + j) % 8 ≡ j % 8 = omega arith in
      value-bit (take 8 (drop at t)) (part-narrow 8 at) j
      ∙ ap (λ (x : ℕ). test_bit x (j % 8)) (get_or-take 8 (drop at t) (j / 8) 0 (omega arith) ∙ get_or-drop at t (j / 8) 0)
      ∙ sym (ap₂ (λ (a b : ℕ). test_bit (get_or t a 0) b) q r)

  -- words that are the table's, eight bytes each
  pub loaded : (n : ℕ) (w : List ℕ) → length w ≡ n → length t ≡ n * 8 → ((i : ℕ) → i < n → get_or w i 0 ≡ value (take 8 (drop (8 * i) t))) → bit_at 64 w ≡ bit_at 8 t
  unfolding bit_at
  loaded n w e f g = fun_ext (λ j. go j (dec_lt (j / 64) n))
    where
      go : (j : ℕ) → Dec (j / 64 < n) → test_bit (get_or w (j / 64) 0) (j % 64) ≡ test_bit (get_or t (j / 8) 0) (j % 8)
      go j (yes l) =
          let q : 8 * (8 * (j / 64)) + j % 64 ≡ j = omega arith in
          ap (λ (x : ℕ). test_bit x (j % 64)) (g (j / 64) l) ∙ word-bit (8 * (j / 64)) (j % 64) (omega arith) ∙ ap (λ (x : ℕ). test_bit (get_or t (x / 8) 0) (x % 8)) q
      go j (no d) =
          let o : n * 8 ≤ j / 8 = omega arith in
          let p : n ≤ j / 64 = omega arith in
          ap (λ (x : ℕ). test_bit x (j % 64)) (get_or-eq_default w 0 (le_trans (le_of_eq e) p)) ∙ zero_bit (j % 64)
          ∙ sym (ap (λ (x : ℕ). test_bit x (j % 8)) (get_or-eq_default t 0 (le_trans (le_of_eq f) o)) ∙ zero_bit (j % 8))

-- the number that `from_le_bytes` reads
pub value-eight : (xs : List ℕ) → length xs ≡ 8 → from_le_bytes w64 xs ≡ value xs
unfolding value
value-eight xs e =
    let end : value (drop 8 xs) ≡ 0 = ap value (drop_all 8 xs (le_of_eq e)) in
    omega (arith, byte 0 (omega arith), byte 1 (omega arith), byte 2 (omega arith), byte 3 (omega arith), byte 4 (omega arith), byte 5 (omega arith), byte 6 (omega arith), byte 7 (omega arith), end)
  where
    byte : (k : ℕ) → k < length xs → value (drop k xs) ≡ value (drop (k + 1) xs) * 256 + get_or xs k 0
    byte k l = ap value (drop-cons xs k 0 l) ∙ ap (λ (n : ℕ). value (drop n xs) * 256 + get_or xs k 0) (sym (add-one k))

-- the chunks that `as_chunks` gives
pub get_or-first_chunks : (n count : ℕ) (xs : List ℕ) (i : ℕ) → i < count → get_or (first_chunks n count xs) i [] ≡ take n (drop (n * i) xs)
get_or-first_chunks n zero xs i l = absurd (not-suc-le-zero l)
get_or-first_chunks n (suc count) xs zero l = let e : 0 ≡ n * 0 = omega arith in ap (λ (k : ℕ). take n (drop k xs)) e
get_or-first_chunks n (suc count) xs (suc i) l =
    let e : n + n * i ≡ n * suc i = omega arith in
    get_or-first_chunks n count (drop n xs) i (le_of_suc-le-suc l) ∙ ap (take n) (drop-drop (n * i) n xs ∙ ap (λ (k : ℕ). drop k xs) e)

-- the bytes that `to_le_bytes` writes
pub get_or-to_le_bytes : (v k : ℕ) → k < 8 → get_or (to_le_bytes w64 v) k 0 ≡ v / 2 ^ (8 * k) % 2 ^ 8
get_or-to_le_bytes v zero l = omega arith
get_or-to_le_bytes v (suc zero) l = refl
get_or-to_le_bytes v (suc (suc zero)) l = refl
get_or-to_le_bytes v (suc (suc (suc zero))) l = refl
get_or-to_le_bytes v (suc (suc (suc (suc zero)))) l = refl
get_or-to_le_bytes v (suc (suc (suc (suc (suc zero))))) l = refl
get_or-to_le_bytes v (suc (suc (suc (suc (suc (suc zero)))))) l = refl
get_or-to_le_bytes v (suc (suc (suc (suc (suc (suc (suc zero))))))) l = refl
get_or-to_le_bytes v (suc (suc (suc (suc (suc (suc (suc (suc k)))))))) l = absurd (omega arith)

-- a loop that fills a list from the front
pub fill-next : (f : ℕ → ℕ) (t : List ℕ) (i v : ℕ) → i < length t → ((k : ℕ) → k < i → get_or t k 0 ≡ f k) → v ≡ f i → (k : ℕ) → k < i + 1 → get_or (set t i v) k 0 ≡ f k
fill-next f t i v h g e k l =
    ⊎_elim (λ p. ap (λ (x : ℕ). get_or (set t i v) x 0) p ∙ get_or-set_same t i v 0 h ∙ e ∙ ap f (sym p))
    (λ m. get_or-set_other t i k v 0 (λ p. lt_irrefl i (subst (λ (x : ℕ). x < i) p m)) ∙ g k m)
    (eq-or-lt_of_le (le_of_suc-le-suc (subst (λ (y : ℕ). k < y) (add-one i) l)))

-- the first n bytes of t are those of the words w
unfoldable pub Stored : List ℕ → ℕ → List ℕ → Type 0
Stored w n t = (i : ℕ) → i < n → get_or t i 0 ≡ get_or w (i / 8) 0 / 2 ^ (8 * (i % 8)) % 2 ^ 8

pub stored-none : (w t : List ℕ) → Stored w 0 t
unfolding Stored
stored-none w t i l = absurd (not-suc-le-zero l)

pub stored-narrow : (n : ℕ) (w t : List ℕ) → length t ≡ n → Stored w n t → Narrow 8 t
unfolding Stored
stored-narrow n w t e s i = go (dec_lt i n)
  where
    go : Dec (i < n) → get_or t i 0 < 2 ^ 8
    go (yes l) = subst (λ (x : ℕ). x < 2 ^ 8) (sym (s i l)) (mod-lt (get_or w (i / 8) 0 / 2 ^ (8 * (i % 8))) (pow_pos 8))
    go (no d) = subst (λ (x : ℕ). x < 2 ^ 8) (sym (get_or-eq_default t 0 (omega (arith, e)))) (pow_pos 8)

-- the eight bytes of word i as well, put over those of t
pub stored_next : (w t u : List ℕ) (i k : ℕ) → k ≡ 8 → 8 * i + 8 ≤ length t → Stored w (8 * i) t → u ≡ to_le_bytes w64 (get_or w i 0) →
    (length (put_mid (8 * i) k t u) ≡ length t) × Stored w (8 * (i + 1)) (put_mid (8 * i) k t u)
unfolding Stored
stored_next w t u i k e h s b = (long, λ j l. go j l (dec_lt j (8 * i)))
  where
    front : length (take (8 * i) t) ≡ 8 * i
    front = length-take-le (8 * i) t (omega arith)

    eight : length u ≡ 8
    eight = ap length b

    rest : List ℕ
    rest = drop k (drop (8 * i) t)

    long : length (take (8 * i) t ++ (u ++ rest)) ≡ length t
    long = omega (arith, front, eight, length-append (take (8 * i) t) (u ++ rest), length-append u rest, length-drop k (drop (8 * i) t), length-drop (8 * i) t)

    go : (j : ℕ) → j < 8 * (i + 1) → Dec (j < 8 * i) → get_or (take (8 * i) t ++ (u ++ rest)) j 0 ≡ get_or w (j / 8) 0 / 2 ^ (8 * (j % 8)) % 2 ^ 8
    go j l (yes m) = get_or-append (take (8 * i) t) (u ++ rest) 0 j (omega (arith, front)) ∙ get_or-take (8 * i) t j 0 m ∙ s j m
    go j l (no d) =
        let q : j ≡ length (take (8 * i) t) + j % 8 = omega (arith, front) in
        let r : i ≡ j / 8 = omega arith in
        ap (λ (x : ℕ). get_or (take (8 * i) t ++ (u ++ rest)) x 0) q ∙ get_or-append-add (take (8 * i) t) (u ++ rest) (j % 8) 0
        ∙ get_or-append u rest 0 (j % 8) (omega (arith, eight)) ∙ ap (λ (xs : List ℕ). get_or xs (j % 8) 0) b
        ∙ get_or-to_le_bytes (get_or w i 0) (j % 8) (omega arith) ∙ ap (λ (x : ℕ). get_or w x 0 / 2 ^ (8 * (j % 8)) % 2 ^ 8) r

-- bytes that are the words'
pub stored : (n : ℕ) (w t : List ℕ) → length w ≡ n → length t ≡ n * 8 → Stored w (n * 8) t → bit_at 8 t ≡ bit_at 64 w
unfolding bit_at Stored
stored n w t e f g = fun_ext (λ j. go j (dec_lt (j / 8) (n * 8)))
  where
    go : (j : ℕ) → Dec (j / 8 < n * 8) → test_bit (get_or t (j / 8) 0) (j % 8) ≡ test_bit (get_or w (j / 64) 0) (j % 64)
    go j (yes l) =
        let q : j / 8 / 8 ≡ j / 64 = omega arith in
        let r : 8 * (j / 8 % 8) + j % 8 ≡ j % 64 = omega arith in
        ap (λ (x : ℕ). test_bit x (j % 8)) (g (j / 8) l)
        ∙ mod-bit (get_or w (j / 8 / 8) 0 / 2 ^ (8 * (j / 8 % 8))) (j % 8) (omega arith)
        ∙ shr-bit (get_or w (j / 8 / 8) 0) (8 * (j / 8 % 8)) (j % 8)
        ∙ ap₂ (λ (a b : ℕ). test_bit (get_or w a 0) b) q r
    go j (no d) =
        let o : n * 8 ≤ j / 8 = omega arith in
        let p : n ≤ j / 64 = omega arith in
        ap (λ (x : ℕ). test_bit x (j % 8)) (get_or-eq_default t 0 (le_trans (le_of_eq f) o)) ∙ zero_bit (j % 8)
        ∙ sym (ap (λ (x : ℕ). test_bit x (j % 64)) (get_or-eq_default w 0 (le_trans (le_of_eq e) p)) ∙ zero_bit (j % 64))
