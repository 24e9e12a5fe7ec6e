-- Bits set one by one in a table of bytes, and a part of it lent on: what they make is the seed.
use Rattle.std.specs.Prelude.{◌%◌, ◌+◌, ◌-◌, ◌/◌, ◌<◌, ◌^◌, ℕ, drop, length, take, Bool, false, ◌≡◌, refl}
use Rattle.std.proofs.Common.{eq-eqb, eqb-true, length-drop, length-take, get_or-append-add, get_or-drop, get_or-take, length-take-le, true≢false, ◌∙◌, le_of_eq, le_trans}
use Rattle.std.proofs.Math.ListN.{get_or-append, get_or-eq_default, get_or}
use Rattle.std.proofs.Math.Bool.{true}
use mathlib.Core.List.{List, ◌++◌}
use Rattle.std.proofs.Math.Logic.{⊎_elim}
use Rattle.std.proofs.Math.Path.{ap, ap₂, subst, sym}
use Rattle.std.proofs.Math.Decide.{dec_lt}
use Rattle.std.proofs.Math.Nat.{min-le_left}
use native.Mathlib.Omega.{arith}
use Rattle.table_seed.specs.Seeds.{CellsSet, Seeded}
use Rattle.model.proofs.Laws.Bit.{pow-bit, zero_bit}
use Rattle.model.proofs.Laws.Bytes.{length-records, valid-wf}
use Rattle.model.proofs.Laws.WellFormed.{WellFormed, named, small}
use Rattle.model.specs.Records.{count, records}
use Rattle.model.specs.Refusals.{pass}
use Rattle.model.specs.Tables.{bit_at, bits, is_high, place_s, test_bit}
use Rattle.model.specs.Validity.{validity}
use Rattle.model.specs.declared.Rec.{Rec}
use Rattle.table_partners.specs.Facts.{Wanted, bearing, name_cell, nesting_cell, standing}
use Rattle.tables.specs.Grow.{Grown, Inside, Set, Smallest}
use Rattle.table_words.specs.BitSets.{WordHas, last_or, or-has, or_word, or_at}

-- ---- one bit

pub set-cell : (t : List ℕ) (j : ℕ) → j / 8 < length t → Smallest (λ u. u j ≡ true) (bits t) (bits (or_at t (j / 8) (2 ^ (j % 8))))
unfolding WordHas
set-cell t j h = record {
  keeps = g.keeps;
  inside = λ u i p. g.inside u i (λ k e b.
      let q : k % 8 ≡ j % 8 = eqb-true (k % 8) (j % 8) (sym (pow-bit (j % 8) (k % 8)) ∙ b) in
      let r : k ≡ j = omega arith in
      ap u r ∙ p);
  closed = or-has 8 t (j / 8) (2 ^ (j % 8)) h j refl (pow-bit (j % 8) (j % 8) ∙ eq-eqb (j % 8) (j % 8) refl);
}
  where
    g : Grown (WordHas 8 (j / 8) (2 ^ (j % 8))) (WordHas 8 (j / 8) (2 ^ (j % 8))) (bits t) (bits (or_at t (j / 8) (2 ^ (j % 8))))
    g = or_word 8 t (j / 8) (2 ^ (j % 8)) h

-- ---- a loop that sets the cells that are wanted

module _ (test : ℕ → Bool) (cell : ℕ → ℕ) where
  pub cells-none : {s : Set} → CellsSet test cell 0 s s
  unfolding Wanted
  cells-none = record { keeps = λ j t. t; inside = λ u i f. i; closed = λ x l. absurd (omega arith) }

  -- t is the table so far, and t' that with bit j, which is the cell of n
  pub cells-yes : (n : ℕ) {s : Set} (t t' : List ℕ) (j : ℕ) → test n ≡ true → j ≡ cell n → j / 8 < length t → t' ≡ or_at t (j / 8) (2 ^ (j % 8)) →
      CellsSet test cell n s (bits t) → CellsSet test cell (n + 1) s (bits t')
  unfolding Wanted
  cells-yes n {s} t t' j c q h e g = subst (λ (x : List ℕ). CellsSet test cell (n + 1) s (bits x)) (sym e) (record {
    keeps = λ j t. a.keeps j (g.keeps j t);
    inside = λ u i f. let k : Inside (bits t) u = g.inside u i (λ x l. f x (omega arith)) in a.inside u k (ap u q ∙ f n (omega arith) c);
    closed = λ x l d. ⊎_elim (λ p. ap (bits (or_at t (j / 8) (2 ^ (j % 8)))) (ap cell p ∙ sym q) ∙ a.closed) (λ m. a.keeps (cell x) (g.closed x m d)) (last_or x n l);
  })
    where
      a : Smallest (λ u. u j ≡ true) (bits t) (bits (or_at t (j / 8) (2 ^ (j % 8))))
      a = set-cell t j h

  pub cells-no : (n : ℕ) {s s₁ : Set} → test n ≡ false → CellsSet test cell n s s₁ → CellsSet test cell (n + 1) s s₁
  unfolding Wanted
  cells-no n c g = record {
    keeps = g.keeps;
    inside = λ u i f. g.inside u i (λ x l. f x (omega arith));
    closed = λ x l d. ⊎_elim (λ e. absurd (true≢false (sym d ∙ ap test e ∙ c))) (λ m. g.closed x m d) (last_or x n l);
  }

-- ---- a table whose names part, the 512 bytes from byte 1,024, was lent

module _ (t h : List ℕ) (lt : length t ≡ 1544) (lh : length h ≡ 512) where
  abbrev pub back : List ℕ
  back = take 1024 t ++ (h ++ drop 512 (drop 1024 t))

  front : length (take 1024 t) ≡ 1024
  front = length-take-le 1024 t (omega arith)

  back_low : (i : ℕ) → i < 1024 → get_or back i 0 ≡ get_or t i 0
  back_low i l = get_or-append (take 1024 t) (h ++ drop 512 (drop 1024 t)) 0 i (subst (λ (n : ℕ). i < n) (sym front) l) ∙ get_or-take 1024 t i 0 l

  back-high : (i : ℕ) → i < 512 → get_or back (1024 + i) 0 ≡ get_or h i 0
  back-high i l =
      ap (λ (n : ℕ). get_or back (n + i) 0) (sym front) ∙ get_or-append-add (take 1024 t) (h ++ drop 512 (drop 1024 t)) i 0
      ∙ get_or-append h (drop 512 (drop 1024 t)) 0 i (subst (λ (n : ℕ). i < n) (sym lh) l)

  back-past : (i : ℕ) → get_or back (1536 + i) 0 ≡ get_or t (1536 + i) 0
  back-past i =
      let e : 1536 + i ≡ 1024 + (512 + i) = omega arith in
      let f : 1024 + (512 + i) ≡ 1536 + i = omega arith in
      ap (λ (n : ℕ). get_or back n 0) e
      ∙ ap (λ (n : ℕ). get_or back (n + (512 + i)) 0) (sym front) ∙ get_or-append-add (take 1024 t) (h ++ drop 512 (drop 1024 t)) (512 + i) 0
      ∙ ap (λ (n : ℕ). get_or (h ++ drop 512 (drop 1024 t)) (n + i) 0) (sym lh) ∙ get_or-append-add h (drop 512 (drop 1024 t)) i 0
      ∙ get_or-drop 512 (drop 1024 t) i 0 ∙ get_or-drop 1024 t (512 + i) 0 ∙ ap (λ (n : ℕ). get_or t n 0) f

  part-bit : (j : ℕ) → j < 4096 → bits back (8192 + j) ≡ bits h j
  unfolding bit_at
  part-bit j l =
      let q : (8192 + j) / 8 ≡ 1024 + j / 8 = omega arith in
      let r : (8192 + j) % 8 ≡ j % 8 = omega arith in
      ap₂ (λ (a b : ℕ). test_bit (get_or back a 0) b) q r ∙ ap (λ (x : ℕ). test_bit x (j % 8)) (back-high (j / 8) (omega arith))

  -- where the rest of the table is clear, its bits are the part's
  part-only : ((i : ℕ) → get_or t i 0 ≡ 0) → (u : Set) → Inside (bits h) (λ j. u (8192 + j)) → Inside (bits back) u
  unfolding bit_at
  part-only z u s j b = go (dec_lt j 8192) (dec_lt j 12288)
    where
      clear_at : (x : ℕ) → get_or back (j / 8) 0 ≡ get_or t x 0 → u j ≡ true
      clear_at x e = absurd (true≢false (sym b ∙ ap (λ (y : ℕ). test_bit y (j % 8)) (e ∙ z x) ∙ zero_bit (j % 8)))

      go : Dec (j < 8192) → Dec (j < 12288) → u j ≡ true
      go (yes l) d = clear_at (j / 8) (back_low (j / 8) (omega arith))
      go (no d) (yes l) =
          let e : 8192 + (j - 8192) ≡ j = omega arith in
          sym (ap u e) ∙ s (j - 8192) (sym (part-bit (j - 8192) (omega arith)) ∙ ap (bits back) e ∙ b)
      go (no d) (no d') =
          let e : j / 8 ≡ 1536 + (j / 8 - 1536) = omega arith in
          clear_at (1536 + (j / 8 - 1536)) (ap (λ (x : ℕ). get_or back x 0) e ∙ back-past (j / 8 - 1536))

pub part-long : (t : List ℕ) → length t ≡ 1544 → length (take 512 (drop 1024 t)) ≡ 512
part-long t l = length-take-le 512 (drop 1024 t) (omega (arith, length-drop 1024 t))

part-clear : (t : List ℕ) (n : ℕ) → ((i : ℕ) → get_or t i 0 ≡ 0) → (i : ℕ) → get_or (take n (drop 1024 t)) i 0 ≡ 0
part-clear t n z i = go (dec_lt i n)
  where
    go : Dec (i < n) → get_or (take n (drop 1024 t)) i 0 ≡ 0
    go (yes l) = get_or-take n (drop 1024 t) i 0 l ∙ get_or-drop 1024 t i 0 ∙ z (1024 + i)
    go (no d) = get_or-eq_default (take n (drop 1024 t)) 0 (le_trans (le_of_eq (length-take n (drop 1024 t))) (le_trans (min-le_left n (length (drop 1024 t))) (omega arith)))

-- ---- the seed

clear : (t : List ℕ) → ((i : ℕ) → get_or t i 0 ≡ 0) → (u : Set) → Inside (bits t) u
unfolding bit_at
clear t z u j b = absurd (true≢false (sym b ∙ ap (λ (x : ℕ). test_bit x (j % 8)) (z (j / 8)) ∙ zero_bit (j % 8)))

-- t is clear; its names part comes back as h'; then the high labels give s₃, and the nesting s₄
pub seeded : (s policy t h' : List ℕ) {s₃ s₄ : Set} → validity s ≡ pass → (l : length t ≡ 1544) → ((i : ℕ) → get_or t i 0 ≡ 0) → (l' : length h' ≡ 512) →
    CellsSet (bearing (records s)) (name_cell (records s)) (count s) (bits (take 512 (drop 1024 t))) (bits h') →
    CellsSet (is_high policy) place_s 64 (bits (take 1024 t ++ (h' ++ drop 512 (drop 1024 t)))) s₃ →
    CellsSet (standing (records s)) (nesting_cell (records s)) (count s) s₃ s₄ → Seeded (records s) policy s₄
unfolding Wanted bearing name_cell
seeded s policy t h' v l z l' N G E = record {
  has = record {
    nestings = λ x q p. E.closed x (omega (arith, n)) p;
    names = λ x q p.
        let a = small wf (x + 1) p in
        let b = named wf (x + 1) in
        E.keeps (8192 + name_cell its x) (G.keeps (8192 + name_cell its x) (part-bit t h' l l' (name_cell its x) (omega arith) ∙ N.closed x (omega (arith, n)) p));
    highs = λ k q p. E.keeps (place_s k) (G.closed k q p);
  };
  inside = λ u b.
      let part : Inside (bits (take 512 (drop 1024 t))) (λ j. u (8192 + j)) = clear (take 512 (drop 1024 t)) (part-clear t 512 z) (λ j. u (8192 + j)) in
      let named = part-only t h' l l' z u (N.inside (λ j. u (8192 + j)) part (λ x q. b.names x (omega (arith, n)))) in
      let high = G.inside u named b.highs in E.inside u high (λ x q. b.nestings x (omega (arith, n)));
}
  where
    its : List Rec
    its = records s

    n : length (records s) ≡ count s
    n = length-records s

    wf : WellFormed (records s)
    wf = valid-wf s v
