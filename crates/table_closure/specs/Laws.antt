-- The rules of movers for all rows, by sweeps that leave out what has not changed.
use Rattle.std.specs.Prelude.{◌%◌, ◌*◌, ◌+◌, ◌/◌, ◌<◌, ◌^◌, ℕ, get_or, List, ◌≡◌, refl}
use borrow.Author.Tests.{eq-eqb}
use Rattle.std.specs.Int.Bits.{bit_and, bit_or}
use Rattle.std.proofs.Math.Bool.{false, true}
use Rattle.std.proofs.Common.{true≢false, ◌∙◌, sym, not-suc-le-zero}
use Rattle.std.proofs.Math.Logic.{inl, inr, ⊎_elim}
use Rattle.std.proofs.Math.Path.{ap, fun_ext, subst}
use native.Mathlib.Omega.{arith}
use Rattle.table_rows.specs.Changes.{RowsChanged, changed-none, changed_then}
use Rattle.table_movers.specs.Rules.{NestingClosed, RowClosed, pair_same}
use Rattle.model.proofs.Laws.Bit.{or-bit, zero_bit}
use Rattle.model.proofs.Laws.Booleans.{is_false, never, or_cases}
use Rattle.model.specs.Tables.{bit_at, test_bit}
use Rattle.tables.specs.Grow.{Grown, Set, Smallest, Any, chain, grown-none}
use Rattle.table_words.specs.BitSets.{Bits, all-bits, and_in, last_or, one_bit, or_some}
use Rattle.table_words.specs.Layout.{bit-lo}
use Rattle.table_closure.specs.Sweeps.{Owed, Quiet, Swept}
use Rattle.table_rows.specs.Rows.{Reads}

-- ---- what has not changed

-- c₁ has all of c₀
abbrev pub Among : ℕ → ℕ → Type 0
Among c₀ c₁ = (x : ℕ) → test_bit c₀ x ≡ true → test_bit c₁ x ≡ true

module _ {R : ℕ → Type 0} (m w w' : List ℕ) (c : ℕ) (M : RowsChanged R w w' c) where
  same_row : (r k : ℕ) → test_bit c r ≡ false → k < 128 → Bits w' (128 * r + k) ≡ Bits w (128 * r + k)
  unfolding bit_at
  same_row r k d l =
      let e : (128 * r + k) / 64 / 2 ≡ r = omega arith in
      ap (λ (y : ℕ). test_bit y ((128 * r + k) % 64)) (M.rest ((128 * r + k) / 64) (ap (test_bit c) e ∙ d))

  module _ (q : ℕ) (h : q < 64) (d : Quiet c q w') where
    not-q : test_bit c q ≡ false
    unfolding Quiet
    not-q = is_false _ (λ t. d q t (inl refl))

    same_word : get_or w' (2 * q) 0 ≡ get_or w (2 * q) 0
    same_word = let e : 2 * q / 2 ≡ q = omega arith in M.rest (2 * q) (ap (test_bit c) e ∙ not-q)

    frame : RowClosed m q (Bits w) → RowClosed m q (Bits w')
    unfolding RowClosed Quiet
    frame f b hb t = pair_same m q b (λ k l. same_row q k not-q l) (λ k l. same_row b k not-b l) (f b hb (sym (same_row q b not-q (omega arith)) ∙ t))
      where
        not-b : test_bit c b ≡ false
        not-b = is_false _ (λ s. d b s (inr (sym (bit-lo w' q b hb) ∙ t)))

  -- c₀ was owed for before, and c₁ has it and the rows that changed
  pub owed-on : (q c₀ c₁ : ℕ) → q < 64 → Among c₀ c₁ → Among c c₁ → Owed m w c₀ q → Owed m w' c₁ q
  unfolding Owed Quiet
  owed-on q c₀ c₁ h s s₁ o d =
      let z : (r : ℕ) → test_bit c r ≡ true → Reads w' q r → ⊥ = λ r t. d r (s₁ r t) in
      frame q h z (o (λ r t. ⊎_elim (λ e. d r (s r t) (inl e)) (λ v. d r (s r t) (inr (ap (λ (y : ℕ). test_bit y r) (same_word q h z) ∙ v)))))

-- a row whose rules changed nothing that it reads changed nothing
pub owed-here : (m w w' : List ℕ) (p c c₁ : ℕ) → RowsChanged (Reads w' p) w w' c → Grown (RowClosed m p) (RowClosed m p) (Bits w) (Bits w') → Among c c₁ → Owed m w' c₁ p
unfolding Owed Quiet bit_at
owed-here m w w' p c c₁ M g s d =
    let e : Bits w' ≡ Bits w = fun_ext (λ j. ap (λ (y : ℕ). test_bit y (j % 64)) (M.rest (j / 64) (is_false _ (λ t. d (j / 64 / 2) (s _ t) (M.among _ t))))) in
    subst (RowClosed m p) (sym e) (g.done (λ j t. ap (λ (u : Set). u j) (sym e) ∙ t))

-- ---- a sweep

-- the loop at row p: the rows dirty₀ it owe what changed in this sweep, all rows what changed in the two
pub record Sweeping (m w₀ w : List ℕ) (dirty₀ dirty p : ℕ) : Type 0 where
  pub grown : Grown (NestingClosed m) Any (Bits w₀) (Bits w)
  pub changed : RowsChanged (λ _. Unit {0}) w₀ w dirty
  pub fresh : (q : ℕ) → q < 64 → q < p → Owed m w dirty q
  pub stale : (q : ℕ) → q < 64 → Owed m w (bit_or dirty₀ dirty) q

module _ (m w₀ : List ℕ) (dirty₀ : ℕ) where
  pub sweep-none : ((q : ℕ) → q < 64 → Owed m w₀ dirty₀ q) → Sweeping m w₀ w₀ dirty₀ 0 0
  unfolding Any
  sweep-none o = record {
    grown = grown-none tt;
    changed = changed-none;
    fresh = λ q h l. absurd (not-suc-le-zero l);
    stale = λ q h. owed-on m w₀ w₀ 0 (changed-none {R = λ _. Unit {0}}) q dirty₀ (bit_or dirty₀ 0) h (λ x t. or_some dirty₀ 0 x (inl t)) (λ x t. or_some dirty₀ 0 x (inr t)) (o q h);
  }

  module _ (w : List ℕ) (dirty p : ℕ) (h : p < 64) (P : Sweeping m w₀ w dirty₀ dirty p) where
    pub sweep-row : (w' : List ℕ) (c : ℕ) → Grown (RowClosed m p) (RowClosed m p) (Bits w) (Bits w') → RowsChanged (Reads w' p) w w' c → Sweeping m w₀ w' dirty₀ (bit_or dirty c) (p + 1)
    unfolding NestingClosed Any
    sweep-row w' c g M = record {
      grown = chain P.grown g (λ u i f. f p h) (λ _ _ _. tt);
      changed = changed_then P.changed M (λ x _. tt) (λ x _. tt);
      fresh = λ q l n. ⊎_elim (λ e. subst (λ (y : ℕ). Owed m w' (bit_or dirty c) y) (sym e) (owed-here m w w' p c (bit_or dirty c) M g (λ x t. or_some dirty c x (inr t))))
          (λ n. owed-on m w w' c M q dirty (bit_or dirty c) l (λ x t. or_some dirty c x (inl t)) (λ x t. or_some dirty c x (inr t)) (P.fresh q l n)) (last_or q p n);
      stale = λ q l. owed-on m w w' c M q (bit_or dirty₀ dirty) (bit_or dirty₀ (bit_or dirty c)) l
          (λ x t. or_cases (test_bit dirty₀ x) (test_bit dirty x) (sym (or-bit dirty₀ dirty x) ∙ t) (λ s. or_some dirty₀ (bit_or dirty c) x (inl s)) (λ s. or_some dirty₀ (bit_or dirty c) x (inr (or_some dirty c x (inl s)))))
          (λ x t. or_some dirty₀ (bit_or dirty c) x (inr (or_some dirty c x (inr t)))) (P.stale q l);
    }

    -- a row that reads nothing that changed has its rules
    pub sweep-skip : bit_and (bit_or dirty₀ dirty) (bit_or (get_or w (2 * p) 0) ((1 * 2 ^ p) % 2 ^ 64)) ≡ 0 → Sweeping m w₀ w dirty₀ dirty (p + 1)
    unfolding Owed Quiet
    sweep-skip e = record {
      grown = P.grown;
      changed = P.changed;
      fresh = λ q l n. ⊎_elim (λ d _. subst (λ (y : ℕ). RowClosed m y (Bits w)) (sym d) (P.stale p h quiet)) (λ n. P.fresh q l n) (last_or q p n);
      stale = P.stale;
    }
      where
        quiet : (r : ℕ) → test_bit (bit_or dirty₀ dirty) r ≡ true → Reads w p r → ⊥
        quiet r t s = never {C = ⊥} _ (and_in (bit_or dirty₀ dirty) (bit_or (get_or w (2 * p) 0) ((1 * 2 ^ p) % 2 ^ 64)) r t
            (or_some (get_or w (2 * p) 0) ((1 * 2 ^ p) % 2 ^ 64) r (⊎_elim (λ d. inr (one_bit p r h ∙ eq-eqb r p d)) (λ v. inl v) s))) (ap (λ (y : ℕ). test_bit y r) e ∙ zero_bit r)

  pub sweep-end : (w : List ℕ) (dirty p : ℕ) → p ≡ 64 → Sweeping m w₀ w dirty₀ dirty p → Swept m w₀ w dirty
  sweep-end w dirty p e P = record { grown = P.grown; changed = P.changed; owed = λ q h. P.fresh q h (subst (λ (y : ℕ). q < y) (sym e) h) }

-- ---- sweeps until nothing changes

pub all-owed : (m w : List ℕ) (q : ℕ) → q < 64 → Owed m w 18446744073709551615 q
unfolding Owed Quiet
all-owed m w q h d = absurd (d q (all-bits q h) (inl refl))

pub fixpoint-on : {m w w' : List ℕ} {c : ℕ} {s : Set} → Grown (NestingClosed m) Any s (Bits w) → Swept m w w' c → Grown (NestingClosed m) Any s (Bits w')
unfolding Any
fixpoint-on g P = chain g P.grown (λ u i f. f) (λ _ _ _. tt)

pub fixpoint-end : {m w w' : List ℕ} {c : ℕ} {s : Set} → Grown (NestingClosed m) Any s (Bits w) → Swept m w w' c → c ≡ 0 → Smallest (NestingClosed m) s (Bits w')
unfolding NestingClosed Owed Quiet
fixpoint-end {s = s} g P e = let s = fixpoint-on {s = s} g P in
    record { keeps = s.keeps; inside = s.inside; closed = λ p h. P.owed p h (λ r t _. true≢false (sym t ∙ ap (λ (y : ℕ). test_bit y r) e ∙ zero_bit r)) }
