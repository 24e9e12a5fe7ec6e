-- Document 01, "Refusal table": what a check and a call answer, and what refused calls leave.
use Rattle.std.specs.Prelude.{suc, zero, ℕ, Bool, false, true}

-- a check passes, or it refuses with the number n at the record r
pub data Check : Type 0 where
  pass : Check
  refuse : (n r : ℕ) → Check

-- the answer of a call: done, with what it returns, or refused, with "number, record"
pub data Answer (A : Type 0) : Type 0 where
  done : A → Answer A
  refused : (n r : ℕ) → Answer A

-- refuses with number n at record r unless the test is true
unfoldable pub need : Bool → ℕ → ℕ → Check
need true n r = pass
need false n r = refuse n r

-- "Order": the earlier check decides
unfoldable pub and_then : Check → Check → Check
and_then pass next = next
and_then (refuse n r) next = refuse n r

-- checks in the order they are written
infixl 4 ◌▸◌
abbrev pub ◌▸◌ : Check → Check → Check
c ▸ next = and_then c next

-- "record by record": the first of the n numbers from i on that the check refuses decides
unfoldable pub each_of : (ℕ → Check) → ℕ → ℕ → Check
each_of check i zero = pass
each_of check i (suc n) = and_then (check i) (each_of check (suc i) n)

-- a call that passes its checks returns x
unfoldable pub answer : {A : Type 0} → Check → A → Answer A
answer pass x = done x
answer (refuse n r) x = refused n r

-- an answer with f read off what it returns: same refusals, same number and record
unfoldable pub read_off : {A B : Type 0} → (A → B) → Answer A → Answer B
read_off f (done x) = done (f x)
read_off f (refused n r) = refused n r

-- "left as it was": a buffer has the new content where the checks pass, and the old one where they refuse
unfoldable pub content : {A : Type 0} → Check → A → A → A
content pass new old = new
content (refuse n r) new old = old

-- "A step's answer is 0 where done, otherwise its refusal's number"
abbrev pub number : {A : Type 0} → Answer A → ℕ
number (done x) = 0
number (refused n r) = n
