-- The rules by movers, for a pair, a row and all rows, and that they are the rules by partners.
use Rattle.std.specs.Prelude.{◌%◌, ◌*◌, ◌+◌, ◌/◌, ◌<◌, ℕ, get_or, true, List, ◌≡◌}
use Rattle.std.proofs.Common.{◌∙◌, ap₂, sym, arith}
use Rattle.model.specs.Tables.{test_bit}
use Rattle.tables.specs.Grow.{Set}
use Rattle.table_words.specs.Layout.{I, S}
use Rattle.table_movers.specs.Movers.{AllMovers, Mover, OnlyMovers}
use Rattle.table_partners.specs.Rules.{RulesClosed}

-- ---- the rules by movers, for b in row p

-- what those of in and out ask of I; and all three
pub record InOutClosed (m : List ℕ) (p b : ℕ) (u : Set) : Type 0 where
  pub ins : (a : ℕ) → a < 64 → test_bit (get_or m b 0) a ≡ true → I u p a → I u b a
  pub outs : (a : ℕ) → a < 64 → test_bit (get_or m (64 + b) 0) a ≡ true → I u b a → I u p a

pub record PairClosed (m : List ℕ) (p b : ℕ) (u : Set) : Type 0 where
  pub moved : InOutClosed m p b u
  pub opens : test_bit (get_or m (128 + b) 0) p ≡ true → (k : ℕ) → k < 128 → I u b k → I u p k

-- what they ask of S, if b is suspect
pub record PairSuspectsClosed (m : List ℕ) (p b : ℕ) (u : Set) : Type 0 where
  pub ins : (a : ℕ) → a < 64 → test_bit (get_or m b 0) a ≡ true → I u p a → S u a
  pub outs : (a : ℕ) → a < 64 → test_bit (get_or m (64 + b) 0) a ≡ true → I u b a → S u a
  pub opens : test_bit (get_or m (128 + b) 0) p ≡ true → S u p

-- of I, for all of row p; for all rows; and of S
unfoldable pub RowClosed : List ℕ → ℕ → Set → Type 0
RowClosed m p u = (b : ℕ) → b < 64 → I u p b → PairClosed m p b u

unfoldable pub NestingClosed : List ℕ → Set → Type 0
NestingClosed m u = (p : ℕ) → p < 64 → RowClosed m p u

unfoldable pub SuspectsClosed : List ℕ → Set → Type 0
SuspectsClosed m u = (p b : ℕ) → p < 64 → b < 64 → I u p b → S u b → PairSuspectsClosed m p b u

-- they read no more of I than the rows p and b
pub pair_same : (m : List ℕ) (p b : ℕ) {u v : Set} → ((k : ℕ) → k < 128 → v (128 * p + k) ≡ u (128 * p + k)) → ((k : ℕ) → k < 128 → v (128 * b + k) ≡ u (128 * b + k)) → PairClosed m p b u → PairClosed m p b v
pair_same m p b x y g = record {
  moved = record {
    ins = λ a l t q. y a (omega arith) ∙ g.moved.ins a l t (sym (x a (omega arith)) ∙ q);
    outs = λ a l t q. x a (omega arith) ∙ g.moved.outs a l t (sym (y a (omega arith)) ∙ q);
  };
  opens = λ t k l q. x k l ∙ g.opens t k l (sym (y k l) ∙ q);
}

-- ---- the two are the same

-- the capability by which a is in word j, that of kind k and partner b, has word i
at-kind : {partners : List ℕ} {u : Set} {a j : ℕ} (k b i : ℕ) (v : Mover partners u j a) → b < 64 → j ≡ 64 * k + b → i ≡ 64 * k + v.t → test_bit (get_or partners i 0) b ≡ true
at-kind {partners} {j = j} k b i v h e f =
    let q : 64 * (j / 64) + v.t ≡ i = omega arith in
    let r : j % 64 ≡ b = omega arith in
    sym (ap₂ (λ (x y : ℕ). test_bit (get_or partners x 0) y) q r) ∙ v.targets

by_kind : {partners : List ℕ} {u : Set} {a : ℕ} (k b t j i : ℕ) → k < 3 → b < 64 → a < 64 → t < 64 → j ≡ 64 * k + b → i ≡ 64 * k + t → I u a (64 + t) → test_bit (get_or partners i 0) b ≡ true → Mover partners u j a
by_kind {partners} k b t j i hk hb ha ht e f s d =
    let q : 64 * (j / 64) + t ≡ i = omega arith in
    let r : j % 64 ≡ b = omega arith in
    record { word = omega arith; label = ha; t = t; below = ht; stands = s; targets = ap₂ (λ (x y : ℕ). test_bit (get_or partners x 0) y) q r ∙ d }

module _ (partners : List ℕ) (u : Set) (m : List ℕ) where
  module _ (c : RulesClosed partners u) (f : OnlyMovers partners u m) (p b : ℕ) (hp : p < 64) (hb : b < 64) (pb : I u p b) where
    of-in : (a : ℕ) → a < 64 → test_bit (get_or m b 0) a ≡ true → I u p a → I u b a × (S u b → S u a)
    unfolding OnlyMovers
    of-in a ha t pa = let v = f b a t in c.ins v.t a b p v.below ha hb hp v.stands pa pb (at-kind 0 b v.t v hb (omega arith) (omega arith))

    of-out : (a : ℕ) → a < 64 → test_bit (get_or m (64 + b) 0) a ≡ true → I u b a → I u p a × (S u b → S u a)
    unfolding OnlyMovers
    of-out a ha t ba = let v = f (64 + b) a t in c.outs v.t a b p v.below ha hb hp v.stands ba pb (at-kind 1 b (64 + v.t) v hb (omega arith) (omega arith))

    of-open : test_bit (get_or m (128 + b) 0) p ≡ true → ((k : ℕ) → k < 128 → I u b k → I u p k) × (S u b → S u p)
    unfolding OnlyMovers
    of-open t = let v = f (128 + b) p t in c.opens v.t b p v.below hb hp v.stands pb (at-kind 2 b (128 + v.t) v hb (omega arith) (omega arith))

  -- a closed set has the rules of movers that are its own
  pub closed-rows : RulesClosed partners u → OnlyMovers partners u m → NestingClosed m u
  unfolding NestingClosed RowClosed
  closed-rows c f p hp b hb pb = record {
    moved = record { ins = λ a ha t pa. (of-in c f p b hp hb pb a ha t pa).0; outs = λ a ha t ba. (of-out c f p b hp hb pb a ha t ba).0 };
    opens = λ t. (of-open c f p b hp hb pb t).0;
  }

  pub closed-suspects : RulesClosed partners u → OnlyMovers partners u m → SuspectsClosed m u
  unfolding SuspectsClosed
  closed-suspects c f p b hp hb pb s = record {
    ins = λ a ha t pa. (of-in c f p b hp hb pb a ha t pa).1 s;
    outs = λ a ha t ba. (of-out c f p b hp hb pb a ha t ba).1 s;
    opens = λ t. (of-open c f p b hp hb pb t).1 s;
  }

  -- and a set with the rules of all its movers is closed
  pub movers-closed : AllMovers partners u m → NestingClosed m u → SuspectsClosed m u → RulesClosed partners u
  unfolding NestingClosed RowClosed SuspectsClosed AllMovers
  movers-closed f r s = record {
    ins = λ t a b p ht ha hb hp at pa pb e. let v = f b a (by_kind 0 b t b t (omega arith) hb ha ht (omega arith) (omega arith) at e) in
        ((r p hp b hb pb).moved.ins a ha v pa, λ q. (s p b hp hb pb q).ins a ha v pa);
    outs = λ t a b p ht ha hb hp at ba pb e. let v = f (64 + b) a (by_kind 1 b t (64 + b) (64 + t) (omega arith) hb ha ht (omega arith) (omega arith) at e) in
        ((r p hp b hb pb).moved.outs a ha v ba, λ q. (s p b hp hb pb q).outs a ha v ba);
    opens = λ t b p ht hb hp pt pb e. let v = f (128 + b) p (by_kind 2 b t (128 + b) (128 + t) (omega arith) hb hp ht (omega arith) (omega arith) pt e) in
        ((r p hp b hb pb).opens v, λ q. (s p b hp hb pb q).opens v);
  }
