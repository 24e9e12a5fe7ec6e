-- Document 01, "Steps".
use Rattle.std.specs.Prelude.{ℕ, eqb, Bool, ◌&&◌, false, true, List}
use Rattle.std.specs.Prelude.{Option, None, Some}
use Rattle.model.specs.Analysis.{Permit}
use Rattle.model.specs.Climbing.{ambients}
use Rattle.model.specs.Finite.{unequal}
use Rattle.model.specs.Records.{Capability, at, cap-in, cap-open, cap-out, capability, encode, gone, is_ambient, parent_of, records, update}
use Rattle.model.specs.declared.Rec.{Rec}

-- what becomes of a step: done, by which capability, or refused with a number
pub data Outcome : Type 0 where
  done-by : Capability → Outcome
  refused-with : ℕ → Outcome

-- the record with another parent
abbrev pub to : ℕ → Rec → Rec
to q r = record { kind = r.kind; label = r.label; name = r.name; parent = q; client = r.client }

-- record i where t becomes a's parent
unfoldable pub placed : ℕ → ℕ → ℕ → Rec → Rec
placed a t i r = elim (eqb i a) [ true ↦ to t r | false ↦ r ]

-- t becomes a's parent
unfoldable pub place : ℕ → ℕ → List Rec → List Rec
place a t its = update (placed a t) its

-- record i where x goes and its children go to q
unfoldable pub dissolved : ℕ → ℕ → ℕ → Rec → Rec
dissolved x q i r = elim (eqb i x) [ true ↦ gone | false ↦ elim (eqb r.parent x) [ true ↦ to q r | false ↦ r ] ]

-- x's children go to x's parent, and x becomes gone
unfoldable pub dissolve : ℕ → List Rec → List Rec
dissolve x its = update (dissolved x (parent_of its x)) its

-- the actor, whose parent is q, is 01's "active": "all records above it are ambients".
-- "In and out need an ambient a as c's parent."
unfoldable pub ready : Capability → List Rec → ℕ → Bool
ready cap-in its q = is_ambient (at its q) && ambients its q
ready cap-out its q = is_ambient (at its q) && ambients its q
ready cap-open its q = ambients its q

-- where the partner b stands; q is c's parent, for in and out the ambient a
unfoldable pub stands : Capability → List Rec → ℕ → ℕ → Bool
-- "in: the partner is an ambient other than a, with a's parent"
stands cap-in its q b = unequal b q && eqb (parent_of its b) (parent_of its q)
-- "out: the partner is an ambient, a's parent"
stands cap-out its q b = eqb b (parent_of its q)
-- "open: the partner is an ambient with c's parent"
stands cap-open its q b = eqb (parent_of its b) q

-- the partner is an ambient, with "c's name" (all three), that stands where it must and that c may act on
unfoldable pub fit : Permit → Capability → List Rec → ℕ → ℕ → Bool
fit permit k its c b =
    let q = parent_of its c in
    is_ambient (at its b) && eqb (at its b).name (at its c).name && stands k its q b && permit k (at its q).label (at its b).label

-- what a step does that is done; "Each time c's children go to c's parent and c becomes gone."
unfoldable pub move : Capability → List Rec → ℕ → ℕ → List Rec
-- "it becomes a's parent"
move cap-in its c b = dissolve c (place (parent_of its c) b its)
-- "a's parent becomes the partner's parent"
move cap-out its c b = dissolve c (place (parent_of its c) (parent_of its b) its)
-- "its children go to that parent, and it becomes gone"
move cap-open its c b = dissolve c (dissolve b its)

-- 11: "actor inactive, or in/out without an ambient as parent"; 12: "partner unfit for any cause"
unfoldable pub decide : Capability → Bool → Bool → Outcome
decide k false f = refused-with 11
decide k true false = refused-with 12
decide k true true = done-by k

-- 10: "actor 0, over the count, or no capability"
unfoldable pub outcome_by : Permit → Option Capability → List Rec → ℕ → ℕ → Outcome
outcome_by permit None its c b = refused-with 10
outcome_by permit (Some k) its c b = decide k (ready k its (parent_of its c)) (fit permit k its c b)

-- the outcome of a step by the actor c with the partner b
unfoldable pub outcome : Permit → List Rec → ℕ → ℕ → Outcome
outcome permit its c b = outcome_by permit (capability (at its c).kind) its c b

-- the records after a step with this outcome
unfoldable pub effect : Outcome → List Rec → ℕ → ℕ → List Rec
effect (refused-with n) its c b = its
effect (done-by k) its c b = move k its c b

-- the records after a step
unfoldable pub step : Permit → List Rec → ℕ → ℕ → List Rec
step permit its c b = effect (outcome permit its c b) its c b

-- "A step's answer is 0 where done, otherwise its refusal's number"
unfoldable pub answer_of : Outcome → ℕ
answer_of (refused-with n) = n
answer_of (done-by k) = 0

-- the bytes after a step with this outcome
unfoldable pub rewritten : Outcome → List ℕ → ℕ → ℕ → List ℕ
rewritten (refused-with n) s c b = s
rewritten (done-by k) s c b = encode (move k (records s) c b)

-- the bytes after a step: "No other byte changes."
unfoldable pub step_bytes : Permit → List ℕ → ℕ → ℕ → List ℕ
step_bytes permit s c b = rewritten (outcome permit (records s) c b) s c b
