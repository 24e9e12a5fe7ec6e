-- Bits added to a list of words, as a loop adds them.
use Rattle.std.specs.Prelude.{◌<◌, ℕ, get_or, length, ◌||◌, true, List, ◌⊎◌, ◌≡◌}
use Rattle.std.proofs.Common.{get_or-set_other, get_or-set_same, inl, inr, ⊎_elim, ◌∙◌, ap, sym}
use Rattle.std.proofs.Math.Decide.{ℕ_discrete}
use Rattle.model.proofs.Laws.Bit.{or-bit}
use Rattle.model.proofs.Laws.Booleans.{bool_iff, or_cases, or_left, or_right}
use Rattle.model.specs.Tables.{test_bit}
use Rattle.table_words.specs.BitSets.{or_at}

-- bit x of word i
abbrev pub Bit : List ℕ → ℕ → ℕ → Type 0
Bit p i x = test_bit (get_or p i 0) x ≡ true

-- from p to p' the bits of Q were added, and none but those of R
pub record Adds (Q R : ℕ → ℕ → Type 0) (p p' : List ℕ) : Type 0 where
  pub keeps : (i x : ℕ) → Bit p i x → Bit p' i x
  pub has : (i x : ℕ) → Q i x → Bit p' i x
  pub only : (i x : ℕ) → Bit p' i x → Bit p i x ⊎ R i x

-- a contract that says Adds Q Q fixes every bit
pub adds_same : {Q : ℕ → ℕ → Type 0} {p p₁ p₂ : List ℕ} → Adds Q Q p p₁ → Adds Q Q p p₂ → (i x : ℕ) → test_bit (get_or p₁ i 0) x ≡ test_bit (get_or p₂ i 0) x
adds_same {Q} {p} a b i x = bool_iff _ _ (into a b) (into b a)
  where
    into : {q r : List ℕ} → Adds Q Q p q → Adds Q Q p r → Bit q i x → Bit r i x
    into c d t = ⊎_elim (λ s. d.keeps i x s) (λ s. d.has i x s) (c.only i x t)

pub adds_none : {Q R : ℕ → ℕ → Type 0} {p : List ℕ} → ((i x : ℕ) → Q i x → ⊥) → Adds Q R p p
adds_none f = record { keeps = λ i x t. t; has = λ i x q. absurd (f i x q); only = λ i x t. inl t }

pub adds-next : {Q Q₁ Q₂ R R₁ : ℕ → ℕ → Type 0} {p p₁ p₂ : List ℕ} → Adds Q R p p₁ → Adds Q₁ R₁ p₁ p₂ →
    ((i x : ℕ) → Q₂ i x → Q i x ⊎ Q₁ i x) → ((i x : ℕ) → R₁ i x → R i x) → Adds Q₂ R p p₂
adds-next a b f g = record {
  keeps = λ i x t. b.keeps i x (a.keeps i x t);
  has = λ i x q. ⊎_elim (λ s. b.keeps i x (a.has i x s)) (λ s. b.has i x s) (f i x q);
  only = λ i x t. ⊎_elim (λ s. a.only i x s) (λ s. inr (g i x s)) (b.only i x t);
}

pub adds-as : {Q Q₂ R R₂ : ℕ → ℕ → Type 0} {p p₁ : List ℕ} → Adds Q R p p₁ → ((i x : ℕ) → Q₂ i x → Q i x) → ((i x : ℕ) → R i x → R₂ i x) → Adds Q₂ R₂ p p₁
adds-as a f g = record { keeps = a.keeps; has = λ i x q. a.has i x (f i x q); only = λ i x t. ⊎_elim (λ s. inl s) (λ s. inr (g i x s)) (a.only i x t) }

-- `p[i] |= v`
abbrev pub OrAt : ℕ → ℕ → ℕ → ℕ → Type 0
OrAt i v j x = (j ≡ i) × (test_bit v x ≡ true)

pub adds-or : (p : List ℕ) (i v : ℕ) → i < length p → Adds (OrAt i v) (OrAt i v) p (or_at p i v)
adds-or p i v h = record {
  keeps = λ j x t. keep j x (ℕ_discrete j i) t;
  has = λ j x q. here j x q.0 ∙ or_right (test_bit (get_or p j 0) x) (test_bit v x) q.1;
  only = λ j x t. only j x (ℕ_discrete j i) t;
}
  where
    here : (j x : ℕ) → j ≡ i → test_bit (get_or (or_at p i v) j 0) x ≡ (test_bit (get_or p j 0) x || test_bit v x)
    here j x e = ap (λ (y : ℕ). test_bit (get_or (or_at p i v) y 0) x) e ∙ ap (λ (y : ℕ). test_bit y x) (get_or-set_same p i _ 0 h) ∙ or-bit (get_or p i 0) v x ∙ ap (λ (y : ℕ). test_bit (get_or p y 0) x || test_bit v x) (sym e)

    other : (j x : ℕ) → (j ≡ i → ⊥) → test_bit (get_or (or_at p i v) j 0) x ≡ test_bit (get_or p j 0) x
    other j x d = ap (λ (y : ℕ). test_bit y x) (get_or-set_other p i j _ 0 d)

    keep : (j x : ℕ) → Dec (j ≡ i) → Bit p j x → Bit (or_at p i v) j x
    keep j x (yes e) t = here j x e ∙ or_left (test_bit (get_or p j 0) x) (test_bit v x) t
    keep j x (no d) t = other j x d ∙ t

    only : (j x : ℕ) → Dec (j ≡ i) → Bit (or_at p i v) j x → Bit p j x ⊎ OrAt i v j x
    only j x (yes e) t = or_cases (test_bit (get_or p j 0) x) (test_bit v x) (sym (here j x e) ∙ t) (λ s. inl s) (λ s. inr (e, s))
    only j x (no d) t = inl (sym (other j x d) ∙ t)
