-- Document 02, Job 5: "one pass over the records", in place, that makes f i r of each record r, whose number is i; and which records it
-- leaves.
use Rattle.std.specs.Prelude.{◌<◌, ◌≢◌, ◌≤◌, ℕ, List}
use Rattle.model.specs.Records.{decode, records, update}
use Rattle.model.specs.declared.Rec.{Rec}
use Rattle.records.specs.Written.{written}
use Rattle.steps.specs.Moves.{opened, other}
use Rattle.steps.specs.declared.Move.{Move}

-- "after k records those up to k stand as after the pass, the others as before it"
unfoldable pub passed_to : (ℕ → Rec → Rec) → ℕ → List ℕ → List ℕ
passed_to f k s = written (update f (records s)) k s

-- the numbers behind i up to e are up to k, and none is n
pub record ShortOf (n i k e : ℕ) : Type 0 where
  pub ordered : i ≤ e
  pub inside : e ≤ k
  pub none : (j : ℕ) → i < j → j ≤ e → j ≢ n

-- the records behind i up to e are up to k, and the parent of none is x or y
pub record NoChildTo (x y i k : ℕ) (s : List ℕ) (e : ℕ) : Type 0 where
  pub ordered : i ≤ e
  pub inside : e ≤ k
  pub first : (j : ℕ) → i < j → j ≤ e → (decode s j).parent ≢ x
  pub second : (j : ℕ) → i < j → j ≤ e → (decode s j).parent ≢ y

-- the records behind i up to e are up to k, and have no number and no parent of the move's
pub record UntouchedTo (m : Move) (i k : ℕ) (s : List ℕ) (e : ℕ) : Type 0 where
  pub ordered : i ≤ e
  pub inside : e ≤ k
  pub actor : (j : ℕ) → i < j → j ≤ e → j ≢ m.actor
  pub other : (j : ℕ) → i < j → j ≤ e → j ≢ other m.change m.home
  pub first : (j : ℕ) → i < j → j ≤ e → (decode s j).parent ≢ m.actor
  pub second : (j : ℕ) → i < j → j ≤ e → (decode s j).parent ≢ opened m.change m.actor
