-- Document 01, "Verdict"; document 02, Job 1.
use Rattle.std.specs.Prelude.{suc, zero, ℕ, eqb, get_or, Bool, ◌&&◌, ◌||◌, false, not, true, List, [], ◌∷◌}
use Rattle.std.specs.Bool.{beq}
use Rattle.std.specs.Prelude.{Option, None, Some}
use Rattle.model.specs.Finite.{lowest, some_of, tabulate}
use Rattle.model.specs.Tables.{Table, is_boundary, is_high}
use Rattle.model.specs.declared.Verdict.{Verdict}
use Rattle.model.specs.declared.Verdict.TheVariants.{Exposed, Hinted, Sealed}

-- k is in the set of numbers that the list marks
unfoldable pub marked : List Bool → ℕ → Bool
marked R k = get_or R k false

-- two lists of equal length have the same marks
unfoldable pub alike : List Bool → List Bool → Bool
alike [] ys = true
alike (x ∷ xs) [] = true
alike (x ∷ xs) (y ∷ ys) = beq x y && alike xs ys

-- k is marked, or an edge leads to it from a marked number below m
unfoldable pub joins : ℕ → (ℕ → ℕ → Bool) → List Bool → ℕ → Bool
joins m edge R k = marked R k || some_of m (marked R) (λ x. edge x k)

-- all that are marked or joined by an edge
unfoldable pub grown : ℕ → (ℕ → ℕ → Bool) → List Bool → List Bool
grown m edge R = tabulate 0 m (joins m edge R)

-- grown until nothing is added, at most n times
unfoldable pub growing : ℕ → (ℕ → ℕ → Bool) → ℕ → List Bool → List Bool
growing m edge zero R = R
growing m edge (suc n) R = elim (alike R (grown m edge R)) [ true ↦ R | false ↦ growing m edge n (grown m edge R) ]

-- the numbers below m that are reached from 0 along the edges
unfoldable pub reached : ℕ → (ℕ → ℕ → Bool) → List Bool
reached m edge = growing m edge m (tabulate 0 m (λ k. eqb k 0))

-- "(x, k) is in I for some x in R whose class is not boundary"
unfoldable pub opening : Table → List ℕ → ℕ → ℕ → Bool
opening T policy x k = T.I x k && not (is_boundary policy x)

-- 01's R: "the least set with 0 in it, and with each ambient label k" so reached (least: `R-least`)
unfoldable pub in_r : Table → List ℕ → ℕ → Bool
in_r T policy k = marked (reached 64 (opening T policy)) k

-- 01's verdicts: "exposed with the lowest such label. Otherwise .. hinted with the lowest label of both. Otherwise sealed."
unfoldable pub verdict_by : Option ℕ → Option ℕ → Verdict
verdict_by (Some k) both = Exposed k
verdict_by None (Some k) = Hinted k
verdict_by None None = Sealed

-- "If a high label is in R", "if S and R meet"
unfoldable pub verdict_of : Table → List ℕ → Verdict
verdict_of T policy = verdict_by (lowest (λ k. in_r T policy k && is_high policy k) 0 64) (lowest (λ k. in_r T policy k && T.S k) 0 64)

-- Document 02, Job 1, "whether the verdict is exposed", over R itself: some label of R is high
unfoldable pub exposed : Table → List ℕ → Bool
exposed T policy = some_of 64 (in_r T policy) (is_high policy)
