-- What a suspect b makes suspect, and S grown by taking each suspect once: the least S that has the rules of the movers.
use Rattle.std.specs.Prelude.{◌%◌, ◌*◌, ◌+◌, ◌/◌, ◌<◌, ◌^◌, ℕ, get_or, length, set, List, ◌⊎◌, ◌≡◌, refl}
use borrow.Author.Tests.{eq-eqb, eqb-true}
use Rattle.std.specs.Int.Bits.{bit_and, bit_or, bit_xor}
use Rattle.std.proofs.Common.{get_or-set_other, get_or-set_same, ⊎_elim, ◌∙◌, subst, sym, not-suc-le-zero, arith}
use Rattle.std.proofs.Math.Bool.{false, true}
use Rattle.std.proofs.Math.Logic.{inl, inr}
use Rattle.std.proofs.Math.Path.{ap}
use Rattle.std.proofs.Math.Decide.{ℕ_discrete}
use Rattle.model.proofs.Laws.Bit.{or-bit, zero_bit}
use Rattle.model.proofs.Laws.Booleans.{is_false, never, or_cases}
use Rattle.model.specs.Tables.{bit_at, test_bit}
use Rattle.tables.specs.Grow.{Inside, Set, Smallest}
use Rattle.table_words.specs.BitSets.{Bits, all-bits, and_in, and_l, and_r, last_or, one_bit, or_some}
use Rattle.table_words.specs.Layout.{I, S, bit-lo, suspect-bit}
use Rattle.table_words.specs.Lowest.{xor-other}
use Rattle.table_movers.specs.Rules.{SuspectsClosed, PairSuspectsClosed}

-- ---- what a suspect b makes suspect

-- by the rules for b in row p
unfoldable pub caused : List ℕ → List ℕ → ℕ → ℕ → ℕ
caused w m b p = bit_or (bit_or (bit_and (get_or w (2 * p) 0) (get_or m b 0)) (bit_and (get_or w (2 * b) 0) (get_or m (64 + b) 0))) (bit_and (get_or m (128 + b) 0) ((1 * 2 ^ p) % 2 ^ 64))

-- x by b in some row
pub record Caused (w m : List ℕ) (b n x : ℕ) : Type 0 where
  pub p : ℕ
  pub below : p < n
  pub stands : test_bit (get_or w (2 * p) 0) b ≡ true
  pub by : test_bit (caused w m b p) x ≡ true

-- r has what b makes suspect by the first n rows
pub record MadeSuspect (w m : List ℕ) (b n r : ℕ) : Type 0 where
  pub has : (x : ℕ) → Caused w m b n x → test_bit r x ≡ true
  pub only : (x : ℕ) → test_bit r x ≡ true → Caused w m b n x

module _ (w m : List ℕ) (b : ℕ) where
  pub made_none : MadeSuspect w m b 0 0
  made_none = record { has = λ x c. absurd (not-suc-le-zero c.below); only = λ x t. never _ t (zero_bit x) }

  more : {n x : ℕ} → Caused w m b n x → Caused w m b (n + 1) x
  more c = record { p = c.p; below = (let l = c.below in omega arith); stands = c.stands; by = c.by }

  module _ (n r : ℕ) (f : MadeSuspect w m b n r) where
    before : {x : ℕ} (c : Caused w m b (n + 1) x) → c.p < n → Caused w m b n x
    before c l = record { p = c.p; below = l; stands = c.stands; by = c.by }

    pub made-no : test_bit (get_or w (2 * n) 0) b ≡ false → MadeSuspect w m b (n + 1) r
    made-no d = record {
      has = λ x c. ⊎_elim (λ e. never _ (ap (λ (y : ℕ). test_bit (get_or w (2 * y) 0) b) (sym e) ∙ c.stands) d) (λ l. f.has x (before c l)) (last_or c.p n c.below);
      only = λ x t. more (f.only x t);
    }

    pub made-yes : test_bit (get_or w (2 * n) 0) b ≡ true → MadeSuspect w m b (n + 1) (bit_or r (caused w m b n))
    made-yes s = record {
      has = λ x c. or_some r (caused w m b n) x (⊎_elim (λ e. inr (ap (λ (y : ℕ). test_bit (caused w m b y) x) (sym e) ∙ c.by)) (λ l. inl (f.has x (before c l))) (last_or c.p n c.below));
      only = λ x t. or_cases (test_bit r x) (test_bit (caused w m b n) x) (sym (or-bit r (caused w m b n) x) ∙ t) (λ v. more (f.only x v))
          (λ v. record { p = n; below = omega arith; stands = s; by = v });
    }

  pub made-end : (n r : ℕ) → n ≡ 64 → MadeSuspect w m b n r → MadeSuspect w m b 64 r
  made-end n r e f = subst (λ (y : ℕ). MadeSuspect w m b y r) e f

-- the rules of S ask for what is caused, and for nothing else
module _ (w m : List ℕ) (p b : ℕ) (hp : p < 64) (hb : b < 64) where
  abbrev here : ℕ
  here = bit_and (get_or w (2 * p) 0) (get_or m b 0)

  abbrev there : ℕ
  there = bit_and (get_or w (2 * b) 0) (get_or m (64 + b) 0)

  abbrev opener : ℕ
  opener = bit_and (get_or m (128 + b) 0) ((1 * 2 ^ p) % 2 ^ 64)

  pub caused-use : (u : Set) → Inside (Bits w) u → PairSuspectsClosed m p b u → (x : ℕ) → x < 64 → test_bit (caused w m b p) x ≡ true → S u x
  unfolding caused
  caused-use u i f x h t =
      or_cases (test_bit (bit_or here there) x) (test_bit opener x) (sym (or-bit (bit_or here there) opener x) ∙ t)
      (λ v. or_cases (test_bit here x) (test_bit there x) (sym (or-bit here there x) ∙ v)
      (λ a. f.ins x h (and_r (get_or w (2 * p) 0) (get_or m b 0) x a) (i (128 * p + x) (bit-lo w p x h ∙ and_l (get_or w (2 * p) 0) (get_or m b 0) x a)))
      (λ a. f.outs x h (and_r (get_or w (2 * b) 0) (get_or m (64 + b) 0) x a) (i (128 * b + x) (bit-lo w b x h ∙ and_l (get_or w (2 * b) 0) (get_or m (64 + b) 0) x a))))
      (λ v. let e : x ≡ p = eqb-true x p (sym (one_bit p x hp) ∙ and_r (get_or m (128 + b) 0) ((1 * 2 ^ p) % 2 ^ 64) x v) in
      ap (λ (y : ℕ). u (12288 + y)) e ∙ f.opens (ap (test_bit (get_or m (128 + b) 0)) (sym e) ∙ and_l (get_or m (128 + b) 0) ((1 * 2 ^ p) % 2 ^ 64) x v))

  pub caused-make : (u : Set) → ((x : ℕ) → x < 64 → test_bit (caused w m b p) x ≡ true → S u x) → ((r x : ℕ) → r < 64 → x < 64 → I u r x → test_bit (get_or w (2 * r) 0) x ≡ true) → PairSuspectsClosed m p b u
  unfolding caused
  caused-make u f back = record {
    ins = λ a h t pa. f a h (or_some (bit_or here there) opener a (inl (or_some here there a (inl (and_in (get_or w (2 * p) 0) (get_or m b 0) a (back p a hp h pa) t)))));
    outs = λ a h t ba. f a h (or_some (bit_or here there) opener a (inl (or_some here there a (inr (and_in (get_or w (2 * b) 0) (get_or m (64 + b) 0) a (back b a hb h ba) t)))));
    opens = λ t. f p hp (or_some (bit_or here there) opener p (inr (and_in (get_or m (128 + b) 0) ((1 * 2 ^ p) % 2 ^ 64) p t (one_bit p p hp ∙ eq-eqb p p refl))));
  }

-- ---- S: each suspect is taken once

-- s are the suspects found, and those that are not in left have been taken
pub record SuspectsGrowing (m w : List ℕ) (s left : ℕ) : Type 0 where
  pub keeps : (x : ℕ) → test_bit (get_or w 192 0) x ≡ true → test_bit s x ≡ true
  pub inside : (u : Set) → Inside (Bits w) u → SuspectsClosed m u → (x : ℕ) → x < 64 → test_bit s x ≡ true → S u x
  pub taken : (b : ℕ) → b < 64 → test_bit left b ≡ false → (x : ℕ) → Caused w m b 64 x → test_bit s x ≡ true

module _ (m w : List ℕ) where
  pub suspects-none : SuspectsGrowing m w (get_or w 192 0) 18446744073709551615
  suspects-none = record { keeps = λ x t. t; inside = λ u i f x h t. i (12288 + x) (suspect-bit w x h ∙ t); taken = λ b h d. never _ (all-bits b h) d }

  pub suspects-next : (s left b r : ℕ) → SuspectsGrowing m w s left → b < 64 → test_bit (bit_and s left) b ≡ true → MadeSuspect w m b 64 r → SuspectsGrowing m w (bit_or s r) (bit_xor left ((1 * 2 ^ b) % 2 ^ 64))
  unfolding SuspectsClosed
  suspects-next s left b r P hb t f = record {
    keeps = λ x v. or_some s r x (inl (P.keeps x v));
    inside = λ u i g x h v. or_cases (test_bit s x) (test_bit r x) (sym (or-bit s r x) ∙ v) (P.inside u i g x h)
        (λ v. let c = f.only x v in
        caused-use w m c.p b c.below hb u i (g c.p b c.below hb (i (128 * c.p + b) (bit-lo w c.p b hb ∙ c.stands)) (P.inside u i g b hb (and_l s left b t))) x h c.by);
    taken = λ k h d x c. or_some s r x (go k h d x c (ℕ_discrete k b));
  }
    where
      go : (k : ℕ) → k < 64 → test_bit (bit_xor left ((1 * 2 ^ b) % 2 ^ 64)) k ≡ false → (x : ℕ) → Caused w m k 64 x → Dec (k ≡ b) → (test_bit s x ≡ true) ⊎ (test_bit r x ≡ true)
      go k h d x c (yes e) = inr (f.has x (subst (λ (y : ℕ). Caused w m y 64 x) e c))
      go k h d x c (no n) = inl (P.taken k h (sym (xor-other left ((1 * 2 ^ b) % 2 ^ 64) k (is_false _ (λ v. n (eqb-true k b (sym (one_bit b k hb) ∙ v))))) ∙ d) x c)

  module _ (s left : ℕ) (l : 192 < length w) where
    abbrev w' : List ℕ
    w' = set w 192 s

    pub suspects-same : (i : ℕ) → i < 192 → get_or w' i 0 ≡ get_or w i 0
    suspects-same i h = get_or-set_other w 192 i s 0 (λ e. omega arith)

    after : (x : ℕ) → x < 64 → Bits w' (12288 + x) ≡ test_bit s x
    after x h = suspect-bit w' x h ∙ ap (λ (y : ℕ). test_bit y x) (get_or-set_same w 192 s 0 l)

    back : (r x : ℕ) → r < 64 → x < 64 → I (Bits w') r x → test_bit (get_or w (2 * r) 0) x ≡ true
    back r x hr h t = ap (λ (y : ℕ). test_bit y x) (sym (suspects-same (2 * r) (omega arith))) ∙ sym (bit-lo w' r x h) ∙ t

    pub suspects-end : SuspectsGrowing m w s left → bit_and s left ≡ 0 → Smallest (SuspectsClosed m) (Bits w) (Bits w')
    unfolding SuspectsClosed bit_at
    suspects-end P e = record {
      keeps = λ j t. keep j t (ℕ_discrete (j / 64) 192);
      inside = λ u i f j t. ins u i f j t (ℕ_discrete (j / 64) 192);
      closed = λ p b hp hb pb sb.
          let v : test_bit left b ≡ false = is_false _ (λ q. never {C = ⊥} _ (and_in s left b (sym (after b hb) ∙ sb) q) (ap (λ (y : ℕ). test_bit y b) e ∙ zero_bit b)) in
          caused-make w m p b hp hb (Bits w') (λ x h c. after x h ∙ P.taken b hb v x (record { p = p; below = hp; stands = back p b hp hb pb; by = c })) back;
    }
      where
        keep : (j : ℕ) → Bits w j ≡ true → Dec (j / 64 ≡ 192) → Bits w' j ≡ true
        keep j t (yes q) = ap (λ (y : ℕ). test_bit (get_or w' y 0) (j % 64)) q ∙ ap (λ (y : ℕ). test_bit y (j % 64)) (get_or-set_same w 192 s 0 l) ∙ P.keeps (j % 64) (sym (ap (λ (y : ℕ). test_bit (get_or w y 0) (j % 64)) q) ∙ t)
        keep j t (no d) = ap (λ (y : ℕ). test_bit y (j % 64)) (get_or-set_other w 192 (j / 64) s 0 d) ∙ t

        ins : (u : Set) → Inside (Bits w) u → SuspectsClosed m u → (j : ℕ) → Bits w' j ≡ true → Dec (j / 64 ≡ 192) → u j ≡ true
        ins u i f j t (yes q) =
            let e : j ≡ 12288 + j % 64 = omega arith in
            let h : j % 64 < 64 = omega arith in
            ap u e ∙ P.inside u i f (j % 64) h (sym (after (j % 64) h) ∙ sym (ap (Bits w') e) ∙ t)
        ins u i f j t (no d) = i j (sym (ap (λ (y : ℕ). test_bit y (j % 64)) (get_or-set_other w 192 (j / 64) s 0 d)) ∙ t)
