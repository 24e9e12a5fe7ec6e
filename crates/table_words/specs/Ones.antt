-- A walk over the one bits of a word, the lowest first: what a step takes, and what it leaves.
use Rattle.std.specs.Prelude.{ℕ, ◌-◌, true, Option, Some, None, ◌≡◌}
use Rattle.std.proofs.Common.{ap, ◌∙◌, sym}
use Rattle.std.specs.Int.Bits.{bit_and}
use Rattle.model.specs.Tables.{test_bit}
use Rattle.table_words.specs.BitSets.{and_in, and_l}
use Rattle.table_words.specs.Lowest.{Lowest}
use Rattle.table_words.specs.declared.Ones.{Ones}

-- of the bits s the lowest is k, and t has the others
pub record Taken (s k t : ℕ) : Type 0 where
  pub lowest : Lowest s k 64
  pub rest : t ≡ bit_and s (s - 1)

-- what `next` answers
abbrev pub TakesLowest : Ones → Option ℕ → Ones → Type 0
TakesLowest s None t = s.0 ≡ 0
TakesLowest s (Some k) t = Taken s.0 k t.0

module _ {s k t : ℕ} (n : Taken s k t) (x : ℕ) where
  pub taken-kept : (x ≡ k → ⊥) → test_bit s x ≡ true → test_bit t x ≡ true
  taken-kept d m = ap (λ (y : ℕ). test_bit y x) n.rest ∙ and_in s (s - 1) x m (n.lowest.kept x d m)

  pub taken-from : test_bit t x ≡ true → test_bit s x ≡ true
  taken-from m = and_l s (s - 1) x (sym (ap (λ (y : ℕ). test_bit y x) n.rest) ∙ m)
