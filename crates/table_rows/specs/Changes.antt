-- Which rows of I a step changed, as a set of labels. Words 2 r and 2 r + 1 are row r.
use Rattle.std.specs.Prelude.{◌%◌, ◌*◌, ◌+◌, ◌/◌, ◌<◌, ◌^◌, ◌≤◌, ℕ, get_or, length, false, true, List, ◌⊎◌, ◌≡◌, refl}
use Rattle.std.proofs.Common.{eq-eqb, eqb-true, length-set, get_or-set_other, get_or-set_same, inl, inr, ⊎_elim, ◌∙◌, ap, ap₂, subst, sym, le_refl, arith}
use Rattle.std.specs.Int.Bits.{bit_or}
use Rattle.std.proofs.lemmas.Nat.{or_lt}
use Rattle.std.proofs.Math.Decide.{dec_lt, ℕ_discrete}
use Rattle.model.proofs.Laws.Bit.{or-bit, zero_bit}
use Rattle.model.proofs.Laws.Booleans.{is_false, never, or_cases, or_left, or_right}
use Rattle.model.proofs.Laws.Sets.{Narrow}
use Rattle.model.specs.Tables.{test_bit, total}
use Rattle.tables.specs.Grow.{Grown, grown-none}
use Rattle.table_words.specs.BitSets.{Bits, WordHas, at-word, one_bit, or_word, or_at, word-make}
use Rattle.table_words.specs.Sums.{Less, less-bits}

-- from w to w' no rows changed but those of c, which are among R; and if c has one, the table has more bits. Words of 64 bits
-- stay so.
pub record RowsChanged (R : ℕ → Type 0) (w w' : List ℕ) (c : ℕ) : Type 0 where
  pub among : (x : ℕ) → test_bit c x ≡ true → R x
  pub rest : (i : ℕ) → test_bit c (i / 2) ≡ false → get_or w' i 0 ≡ get_or w i 0
  pub le : total w ≤ total w'
  pub more : (c ≡ 0) ⊎ (total w < total w')
  pub narrow : Narrow 64 w → Narrow 64 w'

pub changed-none : {R : ℕ → Type 0} {w : List ℕ} → RowsChanged R w w 0
changed-none {w = w} = record { among = λ x t. never _ t (zero_bit x); rest = λ i d. refl; le = le_refl (total w); more = inl refl; narrow = λ n. n }

or-none : (a b k : ℕ) → test_bit (bit_or a b) k ≡ false → (test_bit a k ≡ false) × (test_bit b k ≡ false)
or-none a b k d = (
  is_false _ (λ t. never _ (or-bit a b k ∙ or_left (test_bit a k) (test_bit b k) t) d),
  is_false _ (λ t. never _ (or-bit a b k ∙ or_right (test_bit a k) (test_bit b k) t) d),
)

pub changed_then : {R R₁ R₂ : ℕ → Type 0} {w w₁ w₂ : List ℕ} {c c₁ : ℕ} → RowsChanged R w w₁ c → RowsChanged R₁ w₁ w₂ c₁ → ((x : ℕ) → R x → R₂ x) → ((x : ℕ) → R₁ x → R₂ x) →
    RowsChanged R₂ w w₂ (bit_or c c₁)
changed_then {w = w} {w₂ = w₂} {c = c} {c₁ = c₁} a b f g = record {
  among = λ x t. or_cases (test_bit c x) (test_bit c₁ x) (sym (or-bit c c₁ x) ∙ t) (λ s. f x (a.among x s)) (λ s. g x (b.among x s));
  rest = λ i d. let e = or-none c c₁ (i / 2) d in b.rest i e.1 ∙ a.rest i e.0;
  le = (let p = a.le in let q = b.le in omega arith);
  more = ⊎_elim (λ e. ⊎_elim (λ e₁. inl (ap₂ bit_or e e₁)) (λ l. inr (let p = a.le in omega arith)) b.more) (λ l. inr (let q = b.le in omega arith)) a.more;
  narrow = λ n. b.narrow (a.narrow n);
}

pub changed-as : {R R₁ : ℕ → Type 0} {w w₁ : List ℕ} {c : ℕ} → RowsChanged R w w₁ c → ((x : ℕ) → R x → R₁ x) → RowsChanged R₁ w w₁ c
changed-as a f = record { among = λ x t. f x (a.among x t); rest = a.rest; le = a.le; more = a.more; narrow = a.narrow }

-- ---- labels added to one word

-- row i / 2 is the only one that may change
abbrev pub RowOfWord : ℕ → ℕ → Type 0
RowOfWord i x = x ≡ i / 2

module _ (w : List ℕ) (i v : ℕ) where
  pub or-into-none : bit_or (get_or w i 0) v ≡ get_or w i 0 → Grown (WordHas 64 i v) (WordHas 64 i v) (Bits w) (Bits w)
  or-into-none e = grown-none (word-make i v (Bits w) (λ x t h. at-word w i x (64 * i + x) h refl
      ∙ sym (ap (λ (y : ℕ). test_bit y x) e) ∙ or-bit (get_or w i 0) v x ∙ or_right (test_bit (get_or w i 0) x) (test_bit v x) t))

  module _ (l : i < length w) where
    pub or-into-some : Grown (WordHas 64 i v) (WordHas 64 i v) (Bits w) (Bits (or_at w i v))
    or-into-some = or_word 64 w i v l

    pub or-into-changed : i / 2 < 64 → Narrow 64 w → v < 2 ^ 64 → (bit_or (get_or w i 0) v ≡ get_or w i 0 → ⊥) → RowsChanged (RowOfWord i) w (or_at w i v) ((1 * 2 ^ (i / 2)) % 2 ^ 64)
    or-into-changed h n hv d = record {
      among = λ x t. eqb-true x (i / 2) (sym (one_bit (i / 2) x h) ∙ t);
      rest = λ j f. get_or-set_other w i j _ 0 (λ e. never _ (one_bit (i / 2) (j / 2) h ∙ eq-eqb (j / 2) (i / 2) (ap (λ (y : ℕ). y / 2) e)) f);
      le = less.le;
      more = inr (go (dec_lt (total w) (total (or_at w i v))));
      narrow = λ _ j. narrow j (ℕ_discrete j i);
    }
      where
        narrow : (j : ℕ) → Dec (j ≡ i) → get_or (or_at w i v) j 0 < 2 ^ 64
        narrow j (yes e) = subst (λ (y : ℕ). y < 2 ^ 64) (sym (ap (λ (y : ℕ). get_or (or_at w i v) y 0) e ∙ get_or-set_same w i _ 0 l)) (or_lt 64 (get_or w i 0) v (n i) hv)
        narrow j (no f) = subst (λ (y : ℕ). y < 2 ^ 64) (sym (get_or-set_other w i j _ 0 f)) (n j)

        less : Less w (or_at w i v)
        less = less-bits 64 w (or_at w i v) (sym (length-set w i _)) n (λ j. narrow j (ℕ_discrete j i)) (or_word 64 w i v l).keeps

        go : Dec (total w < total (or_at w i v)) → total w < total (or_at w i v)
        go (yes p) = p
        go (no p) = absurd (d (sym (get_or-set_same w i _ 0 l) ∙ sym (ap (λ (y : List ℕ). get_or y i 0) (less.all (omega arith)))))
