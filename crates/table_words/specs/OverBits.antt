-- A loop over the one bits of a word, the lowest first.
use Rattle.std.specs.Prelude.{◌<◌, ℕ, true, ◌≡◌}
use Rattle.std.proofs.Common.{◌∙◌, ap, subst, sym}
use Rattle.std.proofs.Math.Decide.{ℕ_discrete}
use Rattle.model.proofs.Laws.Bit.{zero_bit}
use Rattle.model.proofs.Laws.Booleans.{never}
use Rattle.model.specs.Tables.{test_bit}
use Rattle.tables.specs.Grow.{Grown, Set, chain, grown-none, recast}
use Rattle.table_words.specs.Ones.{Taken, taken-kept}

-- ---- a loop over the bits of b, of which `rest` are left

module _ (P : ℕ → Set → Type 0) (b : ℕ) where
  abbrev pub AtBits : Set → Type 0
  AtBits u = (k : ℕ) → k < 64 → test_bit b k ≡ true → P k u

  abbrev pub AtTaken : ℕ → Set → Type 0
  AtTaken rest u = (x : ℕ) → x < 64 → test_bit b x ≡ true → (test_bit rest x ≡ true → ⊥) → P x u

  pub taken_start : {s : Set} → Grown AtBits (AtTaken b) s s
  taken_start = grown-none (λ x h t d. absurd (d t))

  pub taken_next : {rest k next : ℕ} {s s₁ s₂ : Set} → Taken rest k next → ((x : ℕ) → test_bit rest x ≡ true → test_bit b x ≡ true) → Grown AtBits (AtTaken rest) s s₁ →
      Grown (P k) (P k) s₁ s₂ → Grown AtBits (AtTaken next) s s₂
  taken_next {rest} {k} {next} {s} o i g p = chain g p (λ u j c. c k o.lowest.below (i k o.lowest.bit)) (λ _ R R₁ x h t d. go R R₁ x h t d (ℕ_discrete x k))
    where
      go : AtTaken rest s → P k s → (x : ℕ) → x < 64 → test_bit b x ≡ true → (test_bit next x ≡ true → ⊥) → Dec (x ≡ k) → P x s
      go R R₁ x h t d (yes e) = subst (λ (y : ℕ). P y s) (sym e) R₁
      go R R₁ x h t d (no n) = R x h t (λ m. d (taken-kept o x n m))

  pub taken-end : (rest : ℕ) {s s₁ : Set} → rest ≡ 0 → Grown AtBits (AtTaken rest) s s₁ → Grown AtBits AtBits s s₁
  taken-end rest e g = recast g (λ u i c. c) (λ r x h t. r x h t (λ m. never _ m (ap (λ (y : ℕ). test_bit y x) e ∙ zero_bit x)))
