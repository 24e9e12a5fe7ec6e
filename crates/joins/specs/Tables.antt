-- One table holds for two itineraries, one behind the other, exactly when it holds for each: what is asked of a record is said of its
-- container, kind, label and name, and these are there what they are in the one alone.
use Rattle.std.specs.Prelude.{◌≤◌, ℕ, length, ◌&&◌, List, ◌≡◌}
use Rattle.std.proofs.Common.{◌∙◌, ap, sym, arith}
use Rattle.std.proofs.Math.Decide.{dec_le}
use Rattle.joins.specs.Behind.{Side, both, first, parent-first, parent-second, same-first, same-second, second, side}
use Rattle.joins.specs.Forests.{view-first, view-second}
use Rattle.model.specs.Analysis.{Permit, holds}
use Rattle.model.specs.Climbing.{container, nearest, nesting}
use Rattle.model.specs.Joins.{shifted}
use Rattle.model.specs.Records.{at, nested}
use Rattle.model.specs.Tables.{Table}
use Rattle.model.specs.declared.Rec.{Rec}
use Rattle.model.proofs.Laws.Booleans.{and_left, and-make, and_right, bool_iff}
use Rattle.model.proofs.Laws.Containers.{labelled-same}
use Rattle.model.proofs.Laws.Holding.{Fits, Holds, fits-as, fits-other, holds-complete, holds-sound}
use Rattle.model.proofs.Laws.Updates.{at-over}
use Rattle.model.proofs.Laws.WellFormed.{SameBut, WellFormed, parent_in}

pub back : {r r' : Rec} → SameBut r r' → SameBut r' r
back s = record { kind = sym s.kind; label = sym s.label; name = sym s.name; client = sym s.client }

module _ {xs ys : List Rec} (wx : WellFormed xs) (wy : WellFormed ys) where
  pub container-first : (i : ℕ) → i ≤ length xs → container (both xs ys) i ≡ container xs i
  container-first i l = ap (nearest (both xs ys)) (parent-first xs ys i l) ∙ view-first wx wy nesting (λ i j r r' s x. labelled-same s x) _ (parent_in wx i)

  pub container-second : (i : ℕ) → container (both xs ys) (shifted (length xs) i) ≡ container ys i
  container-second i = ap (nearest (both xs ys)) (parent-second xs ys i) ∙ view-second wx wy nesting (λ i j r r' s x. labelled-same s x) _

  module _ {permit : Permit} {policy : List ℕ} {T : Table} where
    holds-both : Holds permit policy xs T → Holds permit policy ys T → Holds permit policy (both xs ys) T
    holds-both hx hy = record { fits = λ i. go i (side (length xs) i); high = hx.high }
      where
        go : (i : ℕ) → Side (length xs) i → Fits permit T (container (both xs ys) i) (at (both xs ys) i)
        go i (first l) = fits-as (same-first xs ys i l) (container-first i l) (hx.fits i)
        go i (second k z q) = rw q (fits-as (same-second xs ys k) (container-second k) (hy.fits k))

    holds-first : Holds permit policy (both xs ys) T → Holds permit policy xs T
    unfolding nested
    holds-first h = record { fits = λ i. go i (dec_le i (length xs)); high = h.high }
      where
        go : (i : ℕ) → Dec (i ≤ length xs) → Fits permit T (container xs i) (at xs i)
        go i (yes l) = fits-as (back (same-first xs ys i l)) (sym (container-first i l)) (h.fits i)
        go i (no l) = fits-other (ap nested (at-over xs i (omega arith)))

    holds-second : Holds permit policy (both xs ys) T → Holds permit policy ys T
    holds-second h = record { fits = λ i. fits-as (back (same-second xs ys i)) (sym (container-second i)) (h.fits (shifted (length xs) i)); high = h.high }

  pub both-holds : (permit : Permit) (policy : List ℕ) (T : Table) → holds permit policy (both xs ys) T ≡ (holds permit policy xs T && holds permit policy ys T)
  both-holds permit policy T = bool_iff _ _
      (λ h. let w = holds-sound permit policy (both xs ys) T h in and-make (holds-complete permit policy xs T (holds-first w)) (holds-complete permit policy ys T (holds-second w)))
      (λ h. holds-complete permit policy (both xs ys) T
      (holds-both (holds-sound permit policy xs T (and_left _ _ h)) (holds-sound permit policy ys T (and_right (holds permit policy xs T) _ h))))
