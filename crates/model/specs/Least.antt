-- Document 01, "The maker writes the least table that holds".
use Rattle.std.specs.Prelude.{◌*◌, ◌+◌, ◌^◌, suc, zero, ℕ, Bool, List}
use Rattle.model.specs.Analysis.{Permit, holds}
use Rattle.model.specs.Finite.{one_if, every, tabulate}
use Rattle.model.specs.Tables.{parts, test_bit}
use Rattle.model.specs.declared.Rec.{Rec}

-- what every set of numbers below n that passes the test has: a set of numbers below n is the set of the one bits of
-- a number below 2 ^ n. (It is stated, and never run.)
unfoldable pub least : ℕ → ((ℕ → Bool) → Bool) → ℕ → Bool
least n test j = every (2 ^ n) (λ c. test (test_bit c)) (λ c. test_bit c j)

-- the number whose n bits are those of the set u from j on, the lowest first
unfoldable pub numeral : (ℕ → Bool) → ℕ → ℕ → ℕ
numeral u j zero = 0
numeral u j (suc n) = one_if (u j) + 2 * numeral u (suc j) n

-- n bytes whose bits are the set u
unfoldable pub bytes : ℕ → (ℕ → Bool) → List ℕ
bytes n u = tabulate 0 n (λ i. numeral u (8 * i) 8)

-- the 1,544 bytes of the least of all tables that hold for an itinerary and a policy
unfoldable pub least_table : Permit → List ℕ → List Rec → List ℕ
least_table permit policy its = bytes 1544 (least 12352 (λ u. holds permit policy its (parts u)))
