-- The tests of the rules decide whether the rules of all records hold.
use Rattle.std.specs.Prelude.{◌%◌, ◌*◌, ◌+◌, ◌/◌, ◌<◌, ◌^◌, ℕ, eqb, drop, get_or, length, take, Bool, false, true, List, [], ◌≡◌, refl}
use Rattle.std.proofs.Common.{eq-eqb, eqb-true, get_or-take, inl, inr, ◌∙◌, ap₂, subst}
use Rattle.std.specs.Int.Bits.{bit_and, bit_or}
use Rattle.std.specs.Simd.{first_chunks}
use Rattle.table_words.specs.Words.{get_or-first_chunks}
use Rattle.std.proofs.Math.Seq.{get_or-drop}
use Rattle.std.proofs.Math.Bool.{true≢false}
use Rattle.std.proofs.Math.Path.{ap, sym}
use Rattle.std.proofs.Math.Decide.{ℕ_discrete}
use native.Mathlib.Omega.{arith}
use Rattle.table_movers.specs.Rules.{NestingClosed, RowClosed, SuspectsClosed, closed-rows, closed-suspects, movers-closed}
use Rattle.table_rules.specs.Tests.{Decides, InOutHeld, OpenHeld, PairHeld, RowHeld, Within, open_holds}
use Rattle.model.specs.Analysis.{only_if}
use Rattle.model.specs.Finite.{every}
use Rattle.model.proofs.Laws.Bit.{or-bit, or_same, same_or, zero_bit}
use Rattle.model.proofs.Laws.Booleans.{and_left, and-make, and_right, bool_iff, only_if-make, only_if-use, or_cases}
use Rattle.model.proofs.Laws.Done.{cap-alive}
use Rattle.model.proofs.Laws.Finite.{every-make, every-use}
use Rattle.model.proofs.Laws.Sets.{Narrow}
use Rattle.model.proofs.Laws.WellFormed.{WellFormed, alive-in}
use Rattle.model.specs.Tables.{Table, bit_at, bits, parts, place_i, place_s, test_bit}
use Rattle.model.specs.declared.Rec.{Rec}
use Rattle.table_partners.specs.Partners.{Partners, in_h}
use Rattle.table_partners.specs.Laws.{closed-rule, rules-closed}
use Rattle.tables.specs.Grow.{Set}
use Rattle.table_words.specs.BitSets.{Bits, and_in, and_l, and_r, below_64, or_some}
use Rattle.table_words.specs.Layout.{bit-lo, suspect-bit}
use Rattle.table_words.specs.Ones.{Taken, taken-kept}
use Rattle.table_partners.specs.Rules.{AllRules, RulesClosed}
use Rattle.table_movers.specs.Movers.{Movers}

-- ---- the rules by movers

module _ (partners m : List ℕ) (u : Set) (M : Movers partners u m) where
  pairs-closed : ((p : ℕ) → p < 64 → RowHeld m u p) → RulesClosed partners u
  unfolding RowHeld NestingClosed RowClosed SuspectsClosed
  pairs-closed f = movers-closed partners u m M.all
      (λ p hp b hb pb. let r = f p hp b hb pb in record { moved = record { ins = λ a l t s. (r.moves.ins a l t s).0; outs = λ a l t s. (r.moves.outs a l t s).0 }; opens = λ t. (r.opens t).0 })
      (λ p b hp hb pb sb. let r = f p hp b hb pb in record { ins = λ a l t s. (r.moves.ins a l t s).1 sb; outs = λ a l t s. (r.moves.outs a l t s).1 sb; opens = λ t. (r.opens t).1 sb })

  closed-pairs : RulesClosed partners u → (p : ℕ) → p < 64 → RowHeld m u p
  unfolding RowHeld NestingClosed RowClosed SuspectsClosed
  closed-pairs c p hp b hb pb =
      let r = closed-rows partners u m c M.only p hp b hb pb in
      let s = closed-suspects partners u m c M.only p b hp hb pb in
      record {
        moves = record { ins = λ a l t q. (r.moved.ins a l t q, λ sb. (s sb).ins a l t q); outs = λ a l t q. (r.moved.outs a l t q, λ sb. (s sb).outs a l t q) };
        opens = λ t. (r.opens t, λ sb. (s sb).opens t);
      }

-- the answer of the rules' test: m has the movers of the partners p
pub closed-by : (p w m : List ℕ) (r : Bool) → Movers p (Bits w) m → Decides r ((q : ℕ) → q < 64 → RowHeld m (Bits w) q) → Decides r (RulesClosed p (Bits w))
closed-by p w m r M d = record { holds = λ x. pairs-closed p m (Bits w) M (d.holds x); passes = λ f. d.passes (closed-pairs p m (Bits w) M f) }

-- and so of the records whose partners they are: w is the table t in words
pub rules-by : {its : List Rec} (t w p : List ℕ) (r : Bool) → WellFormed its → Bits w ≡ bits t → Partners its (in_h w) (length its) p → Decides r (RulesClosed p (Bits w)) → Decides r (AllRules its (bits t))
rules-by {its} t w p r wf e F d = subst (λ (x : Set). Decides r (AllRules its x)) e (record {
  holds = λ x j k q. closed-rule wf (in_h w) (length its) p F (Bits w) (λ b n lb ln h. h) (d.holds x) j k (alive-in its j (cap-alive its j k q)) q;
  passes = λ f. d.passes (rules-closed wf (in_h w) (length its) p F (Bits w) (λ b n lb ln h. h) f);
})

-- ---- rows, as parts of the table that are lent

-- a row of a table, as the part that is lent
module _ (t : List ℕ) (b : ℕ) where
  row-bit : (n k : ℕ) → n ≡ 16 → k < 128 → bits (take n (drop (16 * b) t)) k ≡ (parts (bits t)).I b k
  unfolding bit_at place_i
  row-bit n k e l =
      let q : (128 * b + k) / 8 ≡ 16 * b + k / 8 = omega arith in
      let r : (128 * b + k) % 8 ≡ k % 8 = omega arith in
      ap (λ (x : ℕ). test_bit x (k % 8)) (get_or-take n (drop (16 * b) t) (k / 8) 0 (omega arith) ∙ get_or-drop (16 * b) t (k / 8) 0)
      ∙ sym (ap₂ (λ (x y : ℕ). test_bit (get_or t x 0) y) q r)

rows_same : (t : List ℕ) (b p n m : ℕ) → n ≡ 16 → m ≡ 16 →
    every 128 (λ k. bits (take n (drop (16 * b) t)) k) (λ k. bits (take m (drop (16 * p) t)) k) ≡ every 128 (λ k. (parts (bits t)).I b k) (λ k. (parts (bits t)).I p k)
rows_same t b p n m e f = bool_iff _ _
    (λ h. every-make (λ k. (parts (bits t)).I b k) (λ k. (parts (bits t)).I p k) 128 (λ k l x.
    sym (row-bit t p m k f l) ∙ every-use (λ k. bits (take n (drop (16 * b) t)) k) (λ k. bits (take m (drop (16 * p) t)) k) 128 h k l (row-bit t b n k e l ∙ x)))
    (λ h. every-make (λ k. bits (take n (drop (16 * b) t)) k) (λ k. bits (take m (drop (16 * p) t)) k) 128 (λ k l x.
    row-bit t p m k f l ∙ every-use (λ k. (parts (bits t)).I b k) (λ k. (parts (bits t)).I p k) 128 h k l (sym (row-bit t b n k e l) ∙ x)))

-- rows b and p among the table's parts of 16 bytes, as `as_chunks` gives them
pub rows_inside : (t : List ℕ) (rows : List (List ℕ)) (n b p : ℕ) → rows ≡ first_chunks 16 n t → b < n → p < n →
    every 128 (λ k. bits (get_or rows b []) k) (λ k. bits (get_or rows p []) k) ≡ every 128 (λ k. (parts (bits t)).I b k) (λ k. (parts (bits t)).I p k)
rows_inside t rows n b p e lb lp =
    ap₂ (λ (x y : List ℕ). every 128 (λ k. bits x k) (λ k. bits y k)) (row b lb) (row p lp) ∙ rows_same t b p 16 16 refl refl
  where
    row : (i : ℕ) → i < n → get_or rows i [] ≡ take 16 (drop (16 * i) t)
    row i l = ap (λ (xs : List (List ℕ)). get_or xs i []) e ∙ get_or-first_chunks 16 n t i l

module _ (T : Table) (p b : ℕ) where
  abbrev RowsIn : Bool
  RowsIn = every 128 (λ k. T.I b k) (λ k. T.I p k)

  pub open-not : RowsIn ≡ false → false ≡ open_holds T p b
  unfolding open_holds
  open-not h = rw h

  pub open-suspect : RowsIn ≡ true → T.S b ≡ true → T.S p ≡ open_holds T p b
  unfolding open_holds only_if
  open-suspect h s = rw (h, s)

  pub open-other : RowsIn ≡ true → T.S b ≡ false → true ≡ open_holds T p b
  unfolding open_holds only_if
  open-other h s = rw (h, s)

-- what the test of open decides
open-decides : (u : Set) (p b : ℕ) (r : Bool) → r ≡ open_holds (parts u) p b → Decides r (OpenHeld p b u)
unfolding open_holds place_i place_s
open-decides u p b r e = record {
  holds = λ t. let h = sym e ∙ t in (
    every-use (λ k. u (128 * b + k)) (λ k. u (128 * p + k)) 128 (and_left _ _ h),
    only_if-use (u (12288 + b)) (u (12288 + p)) (and_right (every 128 (λ k. u (128 * b + k)) (λ k. u (128 * p + k))) _ h),
  );
  passes = λ f. e ∙ and-make (every-make (λ k. u (128 * b + k)) (λ k. u (128 * p + k)) 128 f.0) (only_if-make (u (12288 + b)) (u (12288 + p)) f.1);
}

-- ---- what the words show

pub decide-no : {P : Type 0} (r : Bool) → (P → r ≡ true) → r ≡ false → Decides false P
decide-no r f d = record { holds = λ x. absurd (true≢false (sym x)); passes = λ q. sym d ∙ f q }

pub within-decides : (x y : ℕ) → x < 2 ^ 64 → y < 2 ^ 64 → Decides (eqb (bit_or x y) y) (Within x y)
unfolding Within
within-decides x y hx hy = record { holds = λ t. or_same x y (eqb-true _ _ t); passes = λ f. eq-eqb _ _ (same_or 64 x y hx hy f) }

module _ (w m : List ℕ) (p b : ℕ) (n : Narrow 64 w) (hp : p < 64) (hb : b < 64) where
  abbrev here : ℕ
  here = get_or w (2 * p) 0

  abbrev there : ℕ
  there = get_or w (2 * b) 0

  abbrev enter : ℕ
  enter = get_or m b 0

  abbrev leave : ℕ
  leave = get_or m (64 + b) 0

  low : (i k : ℕ) → test_bit (get_or w i 0) k ≡ true → k < 64
  low i k t = below_64 (get_or w i 0) k (n i) t

  abbrev Holding : Type 0
  Holding = InOutHeld m p b (Bits w)

  pub moves-in : Holding → Within (bit_and here enter) there
  unfolding Within
  moves-in f k t = let h = low (2 * p) k (and_l here enter k t) in sym (bit-lo w b k h) ∙ (f.ins k h (and_r here enter k t) (bit-lo w p k h ∙ and_l here enter k t)).0

  pub moves_out : Holding → Within (bit_and there leave) here
  unfolding Within
  moves_out f k t = let h = low (2 * b) k (and_l there leave k t) in sym (bit-lo w p k h) ∙ (f.outs k h (and_r there leave k t) (bit-lo w b k h ∙ and_l there leave k t)).0

  pub moves-suspect : test_bit (get_or w 192 0) b ≡ true → Holding → Within (bit_or (bit_and here enter) (bit_and there leave)) (get_or w 192 0)
  unfolding Within
  moves-suspect s f k t = or_cases (test_bit (bit_and here enter) k) (test_bit (bit_and there leave) k) (sym (or-bit (bit_and here enter) (bit_and there leave) k) ∙ t)
      (λ v. let h = low (2 * p) k (and_l here enter k v) in sym (suspect-bit w k h) ∙ (f.ins k h (and_r here enter k v) (bit-lo w p k h ∙ and_l here enter k v)).1 (suspect-bit w b hb ∙ s))
      (λ v. let h = low (2 * b) k (and_l there leave k v) in sym (suspect-bit w k h) ∙ (f.outs k h (and_r there leave k v) (bit-lo w b k h ∙ and_l there leave k v)).1 (suspect-bit w b hb ∙ s))

  pub moves-make : Within (bit_and here enter) there → Within (bit_and there leave) here →
      (test_bit (get_or w 192 0) b ≡ true → Within (bit_or (bit_and here enter) (bit_and there leave)) (get_or w 192 0)) → Holding
  unfolding Within
  moves-make i o s = record {
    ins = λ a h t q. let v = and_in here enter a (sym (bit-lo w p a h) ∙ q) t in
        (bit-lo w b a h ∙ i a v, λ sb. suspect-bit w a h ∙ s (sym (suspect-bit w b hb) ∙ sb) a (or_some (bit_and here enter) (bit_and there leave) a (inl v)));
    outs = λ a h t q. let v = and_in there leave a (sym (bit-lo w b a h) ∙ q) t in
        (bit-lo w p a h ∙ o a v, λ sb. suspect-bit w a h ∙ s (sym (suspect-bit w b hb) ∙ sb) a (or_some (bit_and here enter) (bit_and there leave) a (inr v)));
  }

-- ---- a pair, and a row

module _ (m : List ℕ) (p b : ℕ) (u : Set) where
  pub pair-open : (s : Set) (r : Bool) → u ≡ s → InOutHeld m p b u → test_bit (get_or m (128 + b) 0) p ≡ true → r ≡ open_holds (parts s) p b → Decides r (PairHeld m p b u)
  pair-open s r e f t q = let d = open-decides u p b r (q ∙ ap (λ (x : Set). open_holds (parts x) p b) (sym e)) in
      record { holds = λ x. record { moves = f; opens = λ _. d.holds x }; passes = λ g. d.passes (g.opens t) }

  pub pair-shut : InOutHeld m p b u → test_bit (get_or m (128 + b) 0) p ≡ false → Decides true (PairHeld m p b u)
  pair-shut f d = record { holds = λ _. record { moves = f; opens = λ t. absurd (true≢false (sym t ∙ d)) }; passes = λ _. refl }

-- the bits of row p that are no longer in rest
abbrev pub Tested : List ℕ → List ℕ → ℕ → ℕ → Type 0
Tested m w p rest = (x : ℕ) → x < 64 → test_bit (get_or w (2 * p) 0) x ≡ true → (test_bit rest x ≡ true → ⊥) → PairHeld m p x (Bits w)

module _ (m w : List ℕ) (p rest : ℕ) (f : Tested m w p rest) where
  pub tested-next : {b next : ℕ} → Taken rest b next → PairHeld m p b (Bits w) → Tested m w p next
  tested-next {b} o q x h t d = go (ℕ_discrete x b)
    where
      go : Dec (x ≡ b) → PairHeld m p x (Bits w)
      go (yes e) = subst (λ (y : ℕ). PairHeld m p y (Bits w)) (sym e) q
      go (no n) = f x h t (λ v. d (taken-kept o x n v))

  pub tested-all : rest ≡ 0 → Decides true (RowHeld m (Bits w) p)
  unfolding RowHeld
  tested-all e = record {
    holds = λ _ b h t. f b h (sym (bit-lo w p b h) ∙ t) (λ v. true≢false (sym v ∙ ap (λ (y : ℕ). test_bit y b) e ∙ zero_bit b));
    passes = λ _. refl;
  }

pub tested-not : (m w : List ℕ) (p b : ℕ) (r : Bool) → b < 64 → test_bit (get_or w (2 * p) 0) b ≡ true → Decides r (PairHeld m p b (Bits w)) → r ≡ false → Decides false (RowHeld m (Bits w) p)
unfolding RowHeld
tested-not m w p b r h t d e = decide-no r (λ f. d.passes (f b h (bit-lo w p b h ∙ t))) e
