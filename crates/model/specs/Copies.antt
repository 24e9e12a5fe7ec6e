-- Document 02, Job 7: "Copiers". 02's "copier" is the calculus's replication: a copy is one unfolding of it (`copied` of `FollowsRules`).
use Rattle.std.specs.Prelude.{ℕ, suc, zero, eqb, leb, length, Bool, ◌&&◌, false, true, List}
use Rattle.model.specs.Climbing.{ambients, is_beneath}
use Rattle.model.specs.Finite.{across, numbers}
use Rattle.model.specs.Records.{at, is_replication, parent_of, update}
use Rattle.model.specs.Steps.{to}
use Rattle.model.specs.declared.Rec.{Rec}

-- "all records beneath it", by number
unfoldable pub beneath : List Rec → ℕ → List ℕ
beneath its c = numbers (is_beneath its c) 1 (length its)

-- the gone records, by number
unfoldable pub gones : List Rec → List ℕ
gones its = numbers (λ i. eqb (at its i).kind 0) 1 (length its)

-- "parents among the copies follow the copies, and copies of its own children get its parent": what becomes of the parent q
unfoldable pub copy_parent : List Rec → ℕ → ℕ → ℕ
copy_parent its c q = elim (eqb q c) [ true ↦ parent_of its c | false ↦ across (beneath its c) (gones its) q ]

-- a record where the copy of record o goes, if one does (o is not 0); all but the parent is copied, the client too
unfoldable pub copy_here : List Rec → ℕ → ℕ → Rec → Rec
copy_here its c zero r = r
copy_here its c (suc o) r = to (copy_parent its c (parent_of its (suc o))) (at its (suc o))

-- "The k-th of them by number goes into the k-th gone record by number": record i after the copy
unfoldable pub copied : List Rec → ℕ → ℕ → Rec → Rec
copied its c i r = copy_here its c (across (gones its) (beneath its c) i) r

-- "copies all records beneath it"
unfoldable pub copy : ℕ → List Rec → List Rec
copy c its = update (copied its c) its

-- 17: "a number that is no active copier"; active as for a capability: all above it are ambients, or the environment
unfoldable pub active_replication : List Rec → ℕ → Bool
active_replication its c = is_replication (at its c) && ambients its (parent_of its c)

-- 18: "when gone records are fewer than the records beneath"
unfoldable pub copy_fits : List Rec → ℕ → Bool
copy_fits its c = leb (length (beneath its c)) (length (gones its))
