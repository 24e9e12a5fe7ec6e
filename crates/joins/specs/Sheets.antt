-- The sheet of two itineraries, one behind the other, is their sheets, the one behind the other: a record is hidden there exactly
-- when it is in the one alone.
use Rattle.std.specs.Prelude.{◌≤◌, ℕ, length, Bool, false, true, List, ◌≡◌, refl}
use Rattle.std.proofs.Common.{◌∙◌, ap, sym, arith}
use Rattle.joins.specs.Behind.{Side, at-first, at-second, both, both-length, first, gone-behind, second, side}
use Rattle.joins.specs.Forests.{view-first, view-second}
use Rattle.model.specs.Climbing.{hidden, hiding}
use Rattle.model.specs.Joins.{behind, shifted}
use Rattle.model.specs.Observer.{sheet}
use Rattle.model.specs.Records.{at}
use Rattle.model.specs.declared.Rec.{Rec}
use Rattle.model.proofs.Laws.Containers.{hides-same}
use Rattle.model.proofs.Laws.Sheet.{ext-at, sheet-hidden, sheet-length, sheet-shown}
use Rattle.model.proofs.Laws.WellFormed.{WellFormed}

module _ {xs ys : List Rec} (wx : WellFormed xs) (wy : WellFormed ys) (S : ℕ → Bool) where
  hidden-first : (i : ℕ) → i ≤ length xs → hidden (both xs ys) S i ≡ hidden xs S i
  hidden-first i l = view-first wx wy (hiding S) (λ i j r r' s x. hides-same s S x) i l

  hidden-second : (i : ℕ) → hidden (both xs ys) S (shifted (length xs) i) ≡ hidden ys S i
  hidden-second i = view-second wx wy (hiding S) (λ i j r r' s x. hides-same s S x) i

  at-sheets : (i : ℕ) → Side (length xs) i → at (sheet (both xs ys) S) i ≡ at (both (sheet xs S) (sheet ys S)) i
  at-sheets i (first l) = shown (hidden xs S i) refl ∙ sym (at-first (sheet xs S) (sheet ys S) i (omega (arith, sheet-length xs S)))
    where
      shown : (t : Bool) → hidden xs S i ≡ t → at (sheet (both xs ys) S) i ≡ at (sheet xs S) i
      shown true h = sheet-hidden _ S i (hidden-first i l ∙ h) ∙ sym (sheet-hidden xs S i h)
      shown false h = sheet-shown _ S i (hidden-first i l ∙ h) ∙ at-first xs ys i l ∙ sym (sheet-shown xs S i h)
  at-sheets i (second k z q) = shown (hidden ys S k) refl ∙ sym there
    where
      there : at (both (sheet xs S) (sheet ys S)) i ≡ behind (length xs) (at (sheet ys S) k)
      there = rw q (rw (sheet-length xs S) at (at-second (sheet xs S) (sheet ys S) k))

      shown : (t : Bool) → hidden ys S k ≡ t → at (sheet (both xs ys) S) i ≡ behind (length xs) (at (sheet ys S) k)
      shown true h = sheet-hidden _ S i (ap (hidden (both xs ys) S) q ∙ hidden-second k ∙ h) ∙ sym (ap (behind (length xs)) (sheet-hidden ys S k h) ∙ gone-behind (length xs))
      shown false h =
          sheet-shown _ S i (ap (hidden (both xs ys) S) q ∙ hidden-second k ∙ h) ∙ ap (at (both xs ys)) q ∙ at-second xs ys k
          ∙ sym (ap (behind (length xs)) (sheet-shown ys S k h))

  pub both-sheet : sheet (both xs ys) S ≡ both (sheet xs S) (sheet ys S)
  both-sheet = ext-at _ _ (omega (arith, sheet-length (both xs ys) S, both-length xs ys, both-length (sheet xs S) (sheet ys S), sheet-length xs S, sheet-length ys S)) (λ i. at-sheets i (side (length xs) i))
