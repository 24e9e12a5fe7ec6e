-- What 10 and 11 let through of an actor, whether a partner fits it, and a step that is decided, as the code holds them; what the
-- step makes of each record.
use Rattle.std.specs.Prelude.{ℕ, eqb, Bool, ◌&&◌, ◌<◌, ◌≡◌, ◌≤◌, false, not, true, List}
use Rattle.std.specs.Prelude.{Option, None, Some, Result, Ok, Err}
use Rattle.model.specs.Records.{at, capability, gone, is_ambient, parent_of, update}
use Rattle.model.specs.Steps.{ready, to}
use Rattle.model.specs.declared.Cause.{Cause}
use Rattle.model.specs.declared.Cause.TheVariants as cause
use Rattle.steps.specs.declared.Acting.{Acting}
use Rattle.model.specs.declared.Rec.{Rec}
use Rattle.steps.specs.declared.Change.{Change}
use Rattle.steps.specs.declared.Change.TheVariants.{Opens, To}
use Rattle.steps.specs.declared.Move.{Move}
use Rattle.model.specs.declared.Capability.{Capability}
use Rattle.model.specs.declared.Capability.TheVariants.{In as cap-in, Open as cap-open, Out as cap-out}

-- a capability's record and that of its parent
unfoldable pub acting_at : Capability → List Rec → ℕ → Acting
acting_at k its c = record { capability = k; actor = at its c; above = at its (parent_of its c) }

-- an actor that is a capability, ready or not
unfoldable pub admitted_if : Bool → Acting → Result Acting Cause
admitted_if true x = Ok x
admitted_if false x = Err cause.Active

-- an actor, a capability or not
unfoldable pub admitted_by : Option Capability → List Rec → ℕ → Result Acting Cause
admitted_by None its c = Err cause.Actor
admitted_by (Some k) its c = admitted_if (ready k its (parent_of its c)) (acting_at k its c)

-- what 10 and 11 let through of the actor c
unfoldable pub admitted : List Rec → ℕ → Result Acting Cause
admitted its c = admitted_by (capability (at its c).kind) its c

-- where the partner b, whose record is p, stands
unfoldable pub stands_by : Capability → Acting → Rec → ℕ → Bool
stands_by cap-in x p b = not (eqb b x.actor.parent) && eqb p.parent x.above.parent
stands_by cap-out x p b = eqb b x.above.parent
stands_by cap-open x p b = eqb p.parent x.actor.parent

-- whether the partner b fits: an ambient with the actor's name that stands where it has to
unfoldable pub fit_by : Acting → Rec → ℕ → Bool
fit_by x p b = is_ambient p && eqb p.name x.actor.name && stands_by x.capability x p b

-- the partners that fit a ready actor stand behind the number lo, up to hi, of the n records
pub record Places (x : Acting) (n lo hi : ℕ) : Type 0 where
  pub ordered : lo ≤ hi
  pub inside : hi ≤ n
  pub before : (p : Rec) (b : ℕ) → 1 ≤ b → b ≤ lo → fit_by x p b ≡ false
  pub behind : (p : Rec) (b : ℕ) → hi < b → b ≤ n → fit_by x p b ≡ false

-- what a step that is done does, from the parents of c and b
unfoldable pub move_by : Capability → ℕ → ℕ → ℕ → ℕ → Move
move_by cap-in c b q t = record { actor = c; home = q; change = To b }
move_by cap-out c b q t = record { actor = c; home = q; change = To t }
move_by cap-open c b q t = record { actor = c; home = q; change = Opens b }

-- the record beside the actor that a change is about, where q is the actor's parent
unfoldable pub other : Change → ℕ → ℕ
other (To t) q = q
other (Opens b) q = b

-- what goes beside the actor c, the actor again where nothing is opened
unfoldable pub opened : Change → ℕ → ℕ
opened (To t) c = c
opened (Opens b) c = b

-- the parent p, where x's children go to q
unfoldable pub past : ℕ → ℕ → ℕ → ℕ
past x q p = elim (eqb p x) [ true ↦ q | false ↦ p ]

-- the parent of record i, which isn't the actor c, after a move with this change, if it stands; before it has p
unfoldable pub parent_changed : Change → ℕ → ℕ → ℕ → ℕ → Option ℕ
parent_changed (To t) c q i p = Some (past c q (elim (eqb i q) [ true ↦ t | false ↦ p ]))
parent_changed (Opens b) c q i p = elim (eqb i b) [ true ↦ None | false ↦ Some (past c q (past b q p)) ]

-- the parent of record i after the move, if it stands; before it has p
unfoldable pub parent_after : Move → ℕ → ℕ → Option ℕ
parent_after m i p = elim (eqb i m.actor) [ true ↦ None | false ↦ parent_changed m.change m.actor m.home i p ]

-- a record with the parent that it gets, or gone
unfoldable pub rewritten_to : Option ℕ → Rec → Rec
rewritten_to None r = gone
rewritten_to (Some p) r = to p r

-- record i after the move
unfoldable pub remade : Move → ℕ → Rec → Rec
remade m i r = rewritten_to (parent_after m i r.parent) r

-- the records after the move
unfoldable pub applied : Move → List Rec → List Rec
applied m its = update (remade m) its
