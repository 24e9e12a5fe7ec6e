-- A value scattered over words, and words transposed: which bits a loop adds.
use Rattle.std.specs.Prelude.{◌%◌, ◌*◌, ◌+◌, ◌<◌, ◌^◌, ℕ, get_or, true, List, ◌⊎◌, ◌≡◌}
use Rattle.std.proofs.Common.{eq-eqb, eqb-true, true≢false, inl, inr, ⊎_elim, ◌∙◌, ap, ap₂, subst, sym, zero-add, arith}
use Rattle.std.proofs.Math.Decide.{ℕ_discrete}
use Rattle.model.proofs.Laws.Bit.{zero_bit}
use Rattle.model.specs.Tables.{test_bit}
use Rattle.table_words.specs.BitSets.{one_bit}
use Rattle.table_words.specs.Ones.{Taken, taken-kept}
use Rattle.table_words.specs.Adds.{Adds, OrAt, Bit, adds-as, adds-next, adds_none}

-- ---- a value into word base + k for each bit k

pub record Scatter (base bits value i x : ℕ) : Type 0 where
  pub k : ℕ
  pub below : k < 64
  pub bit : test_bit bits k ≡ true
  pub word : i ≡ base + k
  pub given : test_bit value x ≡ true

module _ (base bits value : ℕ) where
  -- for the bits that are no longer in rest
  abbrev pub Scattered : ℕ → ℕ → ℕ → Type 0
  Scattered rest i x = (s : Scatter base bits value i x) × (test_bit rest s.k ≡ true → ⊥)

  pub scatter-none : {p : List ℕ} → Adds (Scattered bits) (Scatter base bits value) p p
  scatter-none = adds_none (λ i x q. q.1 q.0.bit)

  pub scatter-next : {rest k next : ℕ} {p p₁ p₂ : List ℕ} → Taken rest k next → ((x : ℕ) → test_bit rest x ≡ true → test_bit bits x ≡ true) →
      Adds (Scattered rest) (Scatter base bits value) p p₁ → Adds (OrAt (base + k) value) (OrAt (base + k) value) p₁ p₂ → Adds (Scattered next) (Scatter base bits value) p p₂
  scatter-next {rest} {k} {next} o sub a b = adds-next a b (λ i x q. go i x q.0 q.1 (ℕ_discrete q.0.k k))
      (λ i x q. record { k = k; below = o.lowest.below; bit = sub k o.lowest.bit; word = q.0; given = q.1 })
    where
      go : (i x : ℕ) (s : Scatter base bits value i x) → (test_bit next s.k ≡ true → ⊥) → Dec (s.k ≡ k) → Scattered rest i x ⊎ OrAt (base + k) value i x
      go i x s d (yes e) = inr (s.word ∙ ap (λ (y : ℕ). base + y) e, s.given)
      go i x s d (no n) = inl (s, λ m. d (taken-kept o s.k n m))

  pub scatter-end : (rest : ℕ) {p p₁ : List ℕ} → rest ≡ 0 → Adds (Scattered rest) (Scatter base bits value) p p₁ → Adds (Scatter base bits value) (Scatter base bits value) p p₁
  scatter-end rest e a = adds-as a (λ i x s. (s, λ t. true≢false (sym t ∙ ap (λ (y : ℕ). test_bit y s.k) e ∙ zero_bit s.k))) (λ i x s. s)

-- ---- words transposed: bit x of word t for bit t of word first + step * x

pub record Transposed (w : List ℕ) (first step n t x : ℕ) : Type 0 where
  pub label : t < 64
  pub below : x < n
  pub bit : test_bit (get_or w (first + step * x) 0) t ≡ true

module _ (w : List ℕ) (first step : ℕ) where
  pub transpose_none : {p : List ℕ} → Adds (Transposed w first step 0) (Transposed w first step 64) p p
  transpose_none = adds_none (λ t x q. let h = q.below in omega arith)

  pub transpose-next : (n : ℕ) {p p₁ p₂ : List ℕ} → n < 64 → Adds (Transposed w first step n) (Transposed w first step 64) p p₁ →
      Adds (Scatter 0 (get_or w (first + step * n) 0) ((1 * 2 ^ n) % 2 ^ 64)) (Scatter 0 (get_or w (first + step * n) 0) ((1 * 2 ^ n) % 2 ^ 64)) p₁ p₂ →
      Adds (Transposed w first step (n + 1)) (Transposed w first step 64) p p₂
  transpose-next n h a b = adds-next a b (λ t x q. go t x q (ℕ_discrete x n)) back
    where
      go : (t x : ℕ) → Transposed w first step (n + 1) t x → Dec (x ≡ n) → Transposed w first step n t x ⊎ Scatter 0 (get_or w (first + step * n) 0) ((1 * 2 ^ n) % 2 ^ 64) t x
      go t x q (yes e) = inr (record { k = t; below = q.label; bit = ap (λ (y : ℕ). test_bit (get_or w (first + step * y) 0) t) (sym e) ∙ q.bit; word = sym (zero-add t); given = one_bit n x h ∙ eq-eqb x n e })
      go t x q (no d) = inl (record { label = q.label; below = (let l = q.below in omega arith); bit = q.bit })

      back : (t x : ℕ) → Scatter 0 (get_or w (first + step * n) 0) ((1 * 2 ^ n) % 2 ^ 64) t x → Transposed w first step 64 t x
      back t x s =
          let e : x ≡ n = eqb-true x n (sym (one_bit n x h) ∙ s.given) in
          let f : t ≡ s.k = s.word ∙ zero-add s.k in
          let l = s.below in
          record { label = omega arith; below = omega arith; bit = ap₂ (λ (y z : ℕ). test_bit (get_or w (first + step * y) 0) z) e f ∙ s.bit }

  pub transpose-end : (n : ℕ) {p p₁ : List ℕ} → n ≡ 64 → Adds (Transposed w first step n) (Transposed w first step 64) p p₁ → Adds (Transposed w first step 64) (Transposed w first step 64) p p₁
  transpose-end n {p} {p₁} e a = subst (λ (y : ℕ). Adds (Transposed w first step y) (Transposed w first step 64) p p₁) e a

  -- into words that were clear
  pub transposed-bit : (p p₁ : List ℕ) → ((i : ℕ) → get_or p i 0 ≡ 0) → Adds (Transposed w first step 64) (Transposed w first step 64) p p₁ → (t x : ℕ) → Bit p₁ t x → Transposed w first step 64 t x
  transposed-bit p p₁ z a t x b = ⊎_elim (λ s. absurd (true≢false (sym s ∙ ap (λ (y : ℕ). test_bit y x) (z t) ∙ zero_bit x))) (λ s. s) (a.only t x b)
