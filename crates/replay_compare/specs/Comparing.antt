-- The comparisons that decide a replay. (Document 01: "an independent simulator's results are compared by running".)
use Rattle.std.specs.Prelude.{◌+◌, ℕ, eqb, ltb, nat_eq, replicate, Bool, ◌&&◌, false, true, List}
use Rattle.std.specs.Cmp.Lexicographic.{pointwise}
use Rattle.replay_compare.specs.declared.Reply.{Reply}
use Rattle.replay_compare.specs.declared.Tally.{Tally}

-- a refusal: number and record
unfoldable pub without : ℕ → ℕ → Reply
without number i = record { number = number; «record» = i; values = replicate 6 0 }

-- a call that is done, with its values
unfoldable pub returned : List ℕ → Reply
returned values = record { number = 0; «record» = 0; values = values }

-- two answers are the same in every field
unfoldable pub agreeing : Reply → Reply → Bool
agreeing a b = eqb a.number b.number && (eqb a.«record» b.«record» && pointwise nat_eq a.values b.values)

-- one more, up to a million
unfoldable pub more : ℕ → ℕ
more n = elim (ltb n 1000000) [ true ↦ n + 1 | false ↦ n ]

-- one call more; one more that differs unless it agreed
unfoldable pub counting : Tally → Bool → Tally
counting t true = record { calls = more t.calls; differ = t.differ }
counting t false = record { calls = more t.calls; differ = more t.differ }
