-- The rules of movers for one pair and for a row: what the word operations add, and that it is asked for.
use Rattle.std.specs.Prelude.{◌*◌, ◌+◌, ◌-◌, ◌<◌, ℕ, get_or, false, true, List, ◌≡◌}
use Rattle.std.specs.Int.Bits.{bit_and}
use Rattle.std.proofs.Common.{inl, inr, ⊎_elim, ◌∙◌, ap, sym, arith}
use Rattle.std.proofs.Math.Decide.{dec_lt}
use Rattle.table_movers.specs.Rules.{InOutClosed, PairClosed, RowClosed}
use Rattle.model.proofs.Laws.Booleans.{never}
use Rattle.model.specs.Tables.{test_bit}
use Rattle.tables.specs.Grow.{Grown, Inside, Set, chain, recast}
use Rattle.table_words.specs.BitSets.{Bits, WordHas, and_in, and_l, and_r, word-make, word-use}
use Rattle.table_words.specs.Layout.{I, bit-hi, bit-lo, row-hi, row-lo}
use Rattle.table_rows.specs.Rows.{Reads, RowIn, RowOfPair}
use Rattle.table_words.specs.OverBits.{AtBits}

-- a step that a stronger property asks for
asked : {F F₁ R : Set → Type 0} {s s' : Set} → Grown F R s s' → ((u : Set) → Inside s u → F₁ u → F u) → Grown F₁ R s s'
asked g f = recast g f (λ r. r)

-- ---- row b into row p

-- the words of row b, read from w, added one after the other
pub or-rows : (w : List ℕ) (p b : ℕ) {s₁ s₂ : Set} → Grown (WordHas 64 (2 * p) (get_or w (2 * b) 0)) (WordHas 64 (2 * p) (get_or w (2 * b) 0)) (Bits w) s₁ →
    Grown (WordHas 64 (2 * p + 1) (get_or w (2 * b + 1) 0)) (WordHas 64 (2 * p + 1) (get_or w (2 * b + 1) 0)) s₁ s₂ → Grown (RowIn p b) (RowIn p b) (Bits w) s₂
unfolding RowIn
or-rows w p b {s₁} g h =
    chain (asked g (λ u i c. word-make (2 * p) lo u (λ x t l. sym (ap u (row-lo p x)) ∙ c x (omega arith) (i (128 * b + x) (bit-lo w b x l ∙ t))))) h
    (λ u i c. word-make (2 * p + 1) hi u (λ x t l. sym (ap u (row-hi p x)) ∙ c (64 + x) (omega arith) (i (128 * b + (64 + x)) (g.keeps (128 * b + (64 + x)) (bit-hi w b x l ∙ t)))))
    (λ e r r₁ k l t. both r r₁ k l t (dec_lt k 64))
  where
    lo : ℕ
    lo = get_or w (2 * b) 0

    hi : ℕ
    hi = get_or w (2 * b + 1) 0

    both : WordHas 64 (2 * p) lo (Bits w) → WordHas 64 (2 * p + 1) hi (Bits w) → (k : ℕ) → k < 128 → I (Bits w) b k → Dec (k < 64) → I (Bits w) p k
    both r r₁ k l t (yes d) = ap (Bits w) (row-lo p k) ∙ word-use (2 * p) lo (Bits w) r k (sym (bit-lo w b k d) ∙ t) d
    both r r₁ k l t (no d) =
        let e : k ≡ 64 + (k - 64) = omega arith in
        let f : k - 64 < 64 = omega arith in
        ap (λ (y : ℕ). Bits w (128 * p + y)) e ∙ ap (Bits w) (row-hi p (k - 64))
        ∙ word-use (2 * p + 1) hi (Bits w) r₁ (k - 64) (sym (bit-hi w b (k - 64) f) ∙ ap (λ (y : ℕ). Bits w (128 * b + y)) (sym e) ∙ t) f

-- ---- a pair

module _ (m : List ℕ) (p b : ℕ) where
  -- both rows are read from w
  pub pair-moved : (w : List ℕ) {s₁ s₂ : Set} →
      Grown (WordHas 64 (2 * b) (bit_and (get_or w (2 * p) 0) (get_or m b 0))) (WordHas 64 (2 * b) (bit_and (get_or w (2 * p) 0) (get_or m b 0))) (Bits w) s₁ →
      Grown (WordHas 64 (2 * p) (bit_and (get_or w (2 * b) 0) (get_or m (64 + b) 0))) (WordHas 64 (2 * p) (bit_and (get_or w (2 * b) 0) (get_or m (64 + b) 0))) s₁ s₂ →
      Grown (InOutClosed m p b) (InOutClosed m p b) (Bits w) s₂
  pair-moved w g h =
      chain (asked g (λ u i c. word-make (2 * b) (bit_and here enter) u (λ x t l. sym (ap u (row-lo b x))
      ∙ c.ins x l (and_r here enter x t) (i (128 * p + x) (bit-lo w p x l ∙ and_l here enter x t))))) h
      (λ u i c. word-make (2 * p) (bit_and there leave) u (λ x t l. sym (ap u (row-lo p x))
      ∙ c.outs x l (and_r there leave x t) (i (128 * b + x) (g.keeps (128 * b + x) (bit-lo w b x l ∙ and_l there leave x t)))))
      (λ e r r₁. record {
        ins = λ a l t pa. ap (Bits w) (row-lo b a) ∙ word-use (2 * b) (bit_and here enter) (Bits w) r a (and_in here enter a (sym (bit-lo w p a l) ∙ pa) t) l;
        outs = λ a l t ba. ap (Bits w) (row-lo p a) ∙ word-use (2 * p) (bit_and there leave) (Bits w) r₁ a (and_in there leave a (sym (bit-lo w b a l) ∙ ba) t) l;
      })
    where
      here : ℕ
      here = get_or w (2 * p) 0

      there : ℕ
      there = get_or w (2 * b) 0

      enter : ℕ
      enter = get_or m b 0

      leave : ℕ
      leave = get_or m (64 + b) 0

  pub pair-open : {s s₁ s₂ : Set} → test_bit (get_or m (128 + b) 0) p ≡ true → Grown (InOutClosed m p b) (InOutClosed m p b) s s₁ → Grown (RowIn p b) (RowIn p b) s₁ s₂ → Grown (PairClosed m p b) (PairClosed m p b) s s₂
  unfolding RowIn
  pair-open t g h = chain (asked g (λ u i c. c.moved)) h (λ u i c. c.opens t) (λ e r r₁. record { moved = r; opens = λ _. r₁ })

  pub pair-shut : {s s₁ : Set} → test_bit (get_or m (128 + b) 0) p ≡ false → Grown (InOutClosed m p b) (InOutClosed m p b) s s₁ → Grown (PairClosed m p b) (PairClosed m p b) s s₁
  pair-shut d g = recast g (λ u i c. c.moved) (λ r. record { moved = r; opens = λ t. never _ t d })

-- ---- a row

-- one of them, which is a label
abbrev pub ReadBelow : List ℕ → ℕ → ℕ → Type 0
ReadBelow w q r = (r < 64) × Reads w q r

-- the rows of a pair of p are among them
pub read-pair : (w : List ℕ) (p b : ℕ) → p < 64 → b < 64 → test_bit (get_or w (2 * p) 0) b ≡ true → (x : ℕ) → RowOfPair p b x → ReadBelow w p x
read-pair w p b hp hb t x s = ⊎_elim (λ e. (omega arith, inl e)) (λ e. (omega arith, inr (ap (test_bit (get_or w (2 * p) 0)) e ∙ t))) s

pub row-grown : (m w w' : List ℕ) (p : ℕ) → Grown (AtBits (PairClosed m p) (get_or w (2 * p) 0)) (AtBits (PairClosed m p) (get_or w (2 * p) 0)) (Bits w) (Bits w') → Grown (RowClosed m p) (RowClosed m p) (Bits w) (Bits w')
unfolding RowClosed
row-grown m w w' p g = recast g (λ u i f k h t. f k h (i (128 * p + k) (bit-lo w p k h ∙ t))) (λ r b h t. r b h (sym (bit-lo w p b h) ∙ t))

-- a label in p's row at the start is in it at the end
pub row_reads : (w w' : List ℕ) (p : ℕ) {x : ℕ} → Inside (Bits w) (Bits w') → ReadBelow w p x → Reads w' p x
row_reads w w' p {x} i r = ⊎_elim (λ e. inl e) (λ t. inr (sym (bit-lo w' p x r.0) ∙ i (128 * p + x) (bit-lo w p x r.0 ∙ t))) r.1
