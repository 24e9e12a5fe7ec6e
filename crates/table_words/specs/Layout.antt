-- Where a table lies in 193 words: row a of I in words 2 a and 2 a + 1, row a of H in word 128 + a, S in word 192.
use Rattle.std.specs.Prelude.{◌*◌, ◌+◌, ◌<◌, ℕ, get_or, true, List, ◌≡◌, refl}
use Rattle.std.proofs.Common.{arith}
use Rattle.model.specs.Tables.{test_bit}
use Rattle.tables.specs.Grow.{Set}
use Rattle.table_words.specs.BitSets.{Bits, at-word}

-- (a, k) in I; k in S
abbrev pub I : Set → ℕ → ℕ → Type 0
I u a k = u (128 * a + k) ≡ true

abbrev pub S : Set → ℕ → Type 0
S u k = u (12288 + k) ≡ true

-- row k, as words 2 k and 2 k + 1
pub row-lo : (k x : ℕ) → 128 * k + x ≡ 64 * (2 * k) + x
row-lo k x = omega arith

pub row-hi : (k x : ℕ) → 128 * k + (64 + x) ≡ 64 * (2 * k + 1) + x
row-hi k x = omega arith

pub bit-lo : (w : List ℕ) (r x : ℕ) → x < 64 → Bits w (128 * r + x) ≡ test_bit (get_or w (2 * r) 0) x
bit-lo w r x h = at-word w (2 * r) x (128 * r + x) h (row-lo r x)

pub bit-hi : (w : List ℕ) (r x : ℕ) → x < 64 → Bits w (128 * r + (64 + x)) ≡ test_bit (get_or w (2 * r + 1) 0) x
bit-hi w r x h = at-word w (2 * r + 1) x (128 * r + (64 + x)) h (row-hi r x)

-- k in S
pub suspect-bit : (w : List ℕ) (k : ℕ) → k < 64 → Bits w (12288 + k) ≡ test_bit (get_or w 192 0) k
suspect-bit w k h = at-word w 192 k (12288 + k) h refl
