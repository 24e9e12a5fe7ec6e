-- Document 01, "Policy and table", refusals 7 and 8, and the row request. 01's "policy" and "table" are lists of bytes.
use Rattle.std.specs.Prelude.{◌%◌, ◌*◌, ◌+◌, ◌/◌, ◌^◌, ℕ, eqb, leb, length, Bool, ◌&&◌, not, true, List, [], ◌∷◌}
use Rattle.std.specs.Int.Count.{ones}
use Rattle.model.specs.Finite.{every}
use Rattle.model.specs.Records.{byte}

-- 01's "high" labels: "0 low, 1 high, 2 boundary"
unfoldable pub is_high : List ℕ → ℕ → Bool
is_high policy k = eqb (byte policy k) 1

-- "2 boundary"
unfoldable pub is_boundary : List ℕ → ℕ → Bool
is_boundary policy k = eqb (byte policy k) 2

-- 7: "policy not 64 bytes, a byte over 2, or byte 0 not 0"
unfoldable pub policy_right : List ℕ → Bool
policy_right policy = eqb (length policy) 64 && (every 64 (λ k. true) (λ k. leb (byte policy k) 2) && eqb (byte policy 0) 0)

-- bit k of a number: "value 2 to the power k"
unfoldable pub test_bit : ℕ → ℕ → Bool
test_bit x k = eqb (x / 2 ^ k % 2) 1

-- bit j of a list of numbers of m bits each
unfoldable pub bit_at : ℕ → List ℕ → ℕ → Bool
bit_at m xs j = test_bit (byte xs (j / m)) (j % m)

-- "A bit k stands in byte k / 8 (whole part) with value 2 to the power k mod 8."
abbrev pub bits : List ℕ → ℕ → Bool
bits table j = bit_at 8 table j

-- a table's three parts: (a, k) in I, (a, n) in H, k in S
pub record Table : Type 0 where
  pub I : ℕ → ℕ → Bool
  pub H : ℕ → ℕ → Bool
  pub S : ℕ → Bool

-- "I: bytes 0 to 1,023, a row of 16 bytes for each label 0 to 63": the number of a bit in all the table
unfoldable pub place_i : ℕ → ℕ → ℕ
place_i a k = 128 * a + k

-- "H: bytes 1,024 to 1,535, a row of 8 bytes for each label"
unfoldable pub place_h : ℕ → ℕ → ℕ
place_h a n = 8192 + (64 * a + n)

-- "S: bytes 1,536 to 1,543"
unfoldable pub place_s : ℕ → ℕ
place_s k = 12288 + k

-- the table whose bits are the set u
abbrev pub parts : (ℕ → Bool) → Table
parts u = record { I = λ a k. u (place_i a k); H = λ a n. u (place_h a n); S = λ k. u (place_s k) }

-- 01's "suspect" labels
abbrev pub suspects : List ℕ → ℕ → Bool
suspects table k = bits table (place_s k)

-- 8 for the maker: "table not 1,544 bytes"
unfoldable pub table_sized : List ℕ → Bool
table_sized table = eqb (length table) 1544

-- 8: "table not 1,544 bytes, I bit 0 or H row 0 set"
unfoldable pub table_right : List ℕ → Bool
table_right table =
    table_sized table
    && (every 64 (λ a. true) (λ a. not (bits table (place_i a 0))) && every 64 (λ n. true) (λ n. not (bits table (place_h 0 n))))

-- "how many bits of all 1,544 bytes are one"
unfoldable pub total : List ℕ → ℕ
total [] = 0
total (x ∷ xs) = ones x + total xs
