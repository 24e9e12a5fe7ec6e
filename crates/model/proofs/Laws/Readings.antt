-- Processes read from records. A derivation of `Reads` is the numbered tree, and `times` counts how often it has a record, so
-- once, not in this part, and these two differ, are sums. The parent of a record that is read is read too, or is the
-- number that the reading starts from (`climbs`): this stands in for depth. What follows: records that stay the same are
-- read alike (`keep`), children that go to another parent are read there (`rehang`), congruent processes are read from the
-- same records (`conform`, by induction on the congruence), and a child of the start is brought to the front up to
-- congruence (`focus`).
use Prim.Native.Nat.{◌+◌, ◌≤◌, ℕ}
use Rattle.std.proofs.Common.{eq-eqb, eqb-true, ne_eqb, true≢false, ◌∙◌, ap, ap₂, sym}
use Rattle.std.specs.Prelude.{eqb, true, List, ◌≢◌, ◌≡◌}
use Rattle.std.specs.Prelude.{Option, None, Some}
use Rattle.std.proofs.Math.Path.{refl, subst}
use Rattle.std.proofs.Math.Decide.{dec_le, ℕ_discrete}
use native.Mathlib.Omega.{arith}
use Rattle.model.specs.Finite.{one_if}
use Rattle.model.proofs.Laws.Done.{amb-alive, cap-alive, cap-not-amb, same-amb}
use Rattle.model.proofs.Laws.Forest.{one_if-le}
use Rattle.model.proofs.Laws.WellFormed.{Alive, SameBut, same_of, same-to}
use Rattle.model.specs.Processes.{Congruent, Head, Process, Reads, Says, ◌·◌, ◌‖◌, ambient, associates, both, commutes, end, inside, nothing, one, cap, parallel, read, reflexive, replication, says-ambient, says-cap, says-replication, symmetric, times, transitive, unit}
use Rattle.model.specs.Records.{Capability, at, capability, is_ambient, is_replication, parent_of}
use Rattle.model.specs.Steps.{to}
use Rattle.model.specs.declared.Rec.{Rec}

pub one_same : (i j : ℕ) → i ≡ j → one i j ≡ 1
unfolding one one_if
one_same i j e = rw (eq-eqb i j e)

pub one-other : (i j : ℕ) → i ≢ j → one i j ≡ 0
unfolding one one_if
one-other i j e = rw (ne_eqb i j e)

pub one-self : (i : ℕ) → one i i ≡ 1
one-self i = one_same i i refl

pub one-le : (i j : ℕ) → one i j ≤ 1
unfolding one
one-le i j = one_if-le (eqb i j)

pub differ : (i j : ℕ) → one i j ≡ 0 → i ≢ j
differ i j z e = omega (arith, z, one_same i j e)

pub of-kind-5 : (r : Rec) → is_replication r ≡ true → r.kind ≡ 5
unfolding is_replication
of-kind-5 r a = eqb-true _ _ a

kind-5 : (r : Rec) → r.kind ≡ 5 → is_replication r ≡ true
unfolding is_replication
kind-5 r e = eq-eqb _ _ e

pub says_same : {r r' : Rec} {h : Head} → SameBut r r' → Says r h → Says r' h
says_same e (says-ambient a l n) = says-ambient (same-amb e ∙ a) (e.label ∙ l) (e.name ∙ n)
says_same e (says-cap k l n) = says-cap (ap capability e.kind ∙ k) (e.label ∙ l) (e.name ∙ n)
says_same {r' = r'} e (says-replication a) = says-replication (kind-5 r' (e.kind ∙ of-kind-5 _ a))

pub ambient-said : {r : Rec} {l n : ℕ} → Says r (ambient l n) → (is_ambient r ≡ true) × (r.label ≡ l) × (r.name ≡ n)
ambient-said (says-ambient a l n) = (a, l, n)

pub cap-said : {r : Rec} {k : Capability} {l n : ℕ} → Says r (cap k l n) → (capability r.kind ≡ Some k) × (r.label ≡ l) × (r.name ≡ n)
cap-said (says-cap k l n) = (k, l, n)

pub says-alive : (its : List Rec) (i : ℕ) {h : Head} → Says (at its i) h → Alive its i
says-alive its i (says-ambient a l n) = amb-alive its i a
says-alive its i (says-cap {k = k} e l n) = cap-alive its i k e
says-alive its i (says-replication a) = λ e. omega (arith, of-kind-5 (at its i) a)

replication-only : (r : Rec) {h : Head} → is_replication r ≡ true → Says r h → h ≡ replication
unfolding is_ambient capability
replication-only r b (says-ambient a l n) = absurd (omega (arith, eqb-true _ _ a, of-kind-5 r b))
replication-only r b (says-cap {k = k} e l n) = let w : ◌≡◌ {A = Option Capability} None (Some k) = rw (of-kind-5 r b) at e in let u : ◌≡◌ {A = ℕ} 0 1 = cc in absurd (omega arith)
replication-only r b (says-replication a) = refl

pub says-unique : (its : List Rec) (i : ℕ) {h h' : Head} → Says (at its i) h → Says (at its i) h' → h ≡ h'
says-unique its i (says-ambient a l n) (says-ambient a' l' n') = ap₂ ambient (sym l ∙ l') (sym n ∙ n')
says-unique its i (says-ambient a l n) (says-cap {k = k} e l' n') = absurd (true≢false (sym a ∙ cap-not-amb its i k e))
says-unique its i (says-cap {k = k} e l n) (says-ambient a l' n') = absurd (true≢false (sym a ∙ cap-not-amb its i k e))
says-unique its i (says-cap {k = k} e l n) (says-cap {k = k'} e' l' n') =
    let u : k ≡ k' = cc in
    let v = sym l ∙ l' in
    let w = sym n ∙ n' in
    cc
says-unique its i (says-ambient a l n) (says-replication b) = replication-only (at its i) b (says-ambient a l n)
says-unique its i (says-cap e l n) (says-replication b) = replication-only (at its i) b (says-cap e l n)
says-unique its i (says-replication a) s = sym (replication-only (at its i) a s)

-- a record x that stays, one that gets the parent q
abbrev pub read_same : {its' : List Rec} {x : Rec} {q : ℕ} {h : Head} {P : Process} (i : ℕ) → Says x h → x.parent ≡ q → at its' i ≡ x → Reads its' i P → Reads its' q (h · P)
read_same i s p e r = read i (ap (λ y. y.parent) e ∙ p) (says_same (same_of e) s) r

abbrev pub read-to : {its' : List Rec} {x : Rec} {h : Head} {P : Process} (i q : ℕ) → Says x h → at its' i ≡ to q x → Reads its' i P → Reads its' q (h · P)
read-to i q s e r = read i (ap (λ y. y.parent) e) (says_same (same-to q e) s) r

-- P read from q, each record j as often as N says
pub record Counted (its : List Rec) (q : ℕ) (P : Process) (N : ℕ → ℕ) : Type 0 where
  pub reads : Reads its q P
  pub counts : (j : ℕ) → times reads j ≡ N j

-- each record once, and q not among them
abbrev pub Once : ℕ → (ℕ → ℕ) → Type 0
Once q N = (i : ℕ) → one q i + N i ≤ 1

module _ {its : List Rec} where
  -- the parent of a record that is read is read too, or is q
  pub climbs : {q : ℕ} {P : Process} (r : Reads its q P) (j : ℕ) → 1 ≤ times r j → 1 ≤ one q (parent_of its j) + times r (parent_of its j)
  unfolding times
  climbs end j l = absurd (omega arith)
  climbs {q} (both r t) j l = go (dec_le 1 (times r j)) (climbs r j) (climbs t j)
    where
      k : ℕ
      k = parent_of its j

      go : Dec (1 ≤ times r j) → (1 ≤ times r j → 1 ≤ one q k + times r k) → (1 ≤ times t j → 1 ≤ one q k + times t k) → 1 ≤ one q k + (times r k + times t k)
      go (yes m) f g = omega (arith, f m)
      go (no m) f g = omega (arith, g (omega arith))
  climbs {q} (read i p s r) j l = go (ℕ_discrete i j) (climbs r j)
    where
      k : ℕ
      k = parent_of its j

      go : Dec (i ≡ j) → (1 ≤ times r j → 1 ≤ one i k + times r k) → 1 ≤ one q k + (one i k + times r k)
      go (yes e) f = omega (arith, one_same q k (sym p ∙ ap (λ x. parent_of its x) e))
      go (no e) f = omega (arith, f (omega (arith, one-other i j e)))

  pub read-alive : {q : ℕ} {P : Process} (r : Reads its q P) (j : ℕ) → 1 ≤ times r j → Alive its j
  unfolding times
  read-alive end j l = absurd (omega arith)
  read-alive (both r t) j l = go (dec_le 1 (times r j)) (read-alive r j) (read-alive t j)
    where
      go : Dec (1 ≤ times r j) → (1 ≤ times r j → Alive its j) → (1 ≤ times t j → Alive its j) → Alive its j
      go (yes m) f g = f m
      go (no m) f g = g (omega arith)
  read-alive (read i p s r) j l = go (ℕ_discrete i j) (read-alive r j)
    where
      go : Dec (i ≡ j) → (1 ≤ times r j → Alive its j) → Alive its j
      go (yes e) f = subst (λ x. Alive its x) e (says-alive its i s)
      go (no e) f = f (omega (arith, one-other i j e))

  -- no record that is read has the parent c
  pub off : {x c : ℕ} {P : Process} (r : Reads its x P) → one x c ≡ 0 → times r c ≡ 0 → (j : ℕ) → 1 ≤ times r j → parent_of its j ≢ c
  off {x} r y z j l e = omega (arith, climbs r j l, ap (one x) e, ap (times r) e)

  -- records that stay the same are read alike
  pub keep : {its' : List Rec} {q : ℕ} {P : Process} (r : Reads its q P) → ((j : ℕ) → 1 ≤ times r j → at its' j ≡ at its j) → Counted its' q P (times r)
  unfolding times
  keep end f = record { reads = end; counts = λ j. refl }
  keep {its'} (both r t) f =
      let v = keep {its' = its'} r (λ j l. f j (omega arith)) in
      let w = keep {its' = its'} t (λ j l. f j (omega arith)) in
      record { reads = both v.reads w.reads; counts = λ j. omega (arith, v.counts j, w.counts j) }
  keep {its'} (read i p s r) f =
      let v = keep {its' = its'} r (λ j l. f j (omega arith)) in
      record { reads = read_same i s p (f i (omega (arith, one-self i))) v.reads; counts = λ j. omega (arith, v.counts j) }

  -- x's children go to y
  pub rehang : {its' : List Rec} {x : ℕ} (y : ℕ) {P : Process} (r : Reads its x P) → times r x ≡ 0 →
      ((j : ℕ) → 1 ≤ times r j → parent_of its j ≡ x → at its' j ≡ to y (at its j)) →
      ((j : ℕ) → 1 ≤ times r j → parent_of its j ≢ x → at its' j ≡ at its j) → Counted its' y P (times r)
  unfolding times
  rehang y end z f g = record { reads = end; counts = λ j. refl }
  rehang {its'} y (both r t) z f g =
      let v = rehang {its' = its'} y r (omega arith) (λ j l. f j (omega arith)) (λ j l. g j (omega arith)) in
      let w = rehang {its' = its'} y t (omega arith) (λ j l. f j (omega arith)) (λ j l. g j (omega arith)) in
      record { reads = both v.reads w.reads; counts = λ j. omega (arith, v.counts j, w.counts j) }
  rehang {its'} y (read i p s r) z f g =
      let v = keep {its' = its'} r (λ j l. g j (omega arith) (off r (omega arith) (omega arith) j l)) in
      record { reads = read-to i y s (f i (omega (arith, one-self i)) p) v.reads; counts = λ j. omega (arith, v.counts j) }

-- what is read as P is read as Q from the same records
abbrev Shift : List Rec → Process → Process → Type 0
Shift its P Q = (q : ℕ) (r : Reads its q P) → Counted its q Q (times r)

module _ {its : List Rec} where
  shift-chain : {P Q R : Process} → Shift its P Q → Shift its Q R → Shift its P R
  shift-chain f g q r =
      let v = f q r in
      let w = g q v.reads in
      record { reads = w.reads; counts = λ j. w.counts j ∙ v.counts j }

  shift-commutes : {P Q : Process} → Shift its (P ‖ Q) (Q ‖ P)
  unfolding times
  shift-commutes q (both r t) = record { reads = both t r; counts = λ j. omega arith }

  shift-right : {P Q R : Process} → Shift its ((P ‖ Q) ‖ R) (P ‖ (Q ‖ R))
  unfolding times
  shift-right q (both (both r t) u) = record { reads = both r (both t u); counts = λ j. omega arith }

  shift-left : {P Q R : Process} → Shift its (P ‖ (Q ‖ R)) ((P ‖ Q) ‖ R)
  unfolding times
  shift-left q (both r (both t u)) = record { reads = both (both r t) u; counts = λ j. omega arith }

  shift-less : {P : Process} → Shift its (P ‖ nothing) P
  unfolding times
  shift-less q (both r end) = record { reads = r; counts = λ j. omega arith }

  shift-more : {P : Process} → Shift its P (P ‖ nothing)
  unfolding times
  shift-more q r = record { reads = both r end; counts = λ j. omega arith }

  shift-parallel : {P Q R : Process} → Shift its P Q → Shift its (P ‖ R) (Q ‖ R)
  unfolding times
  shift-parallel f q (both r t) = let w = f q r in record { reads = both w.reads t; counts = λ j. omega (arith, w.counts j) }

  shift-inside : {P Q : Process} {h : Head} → Shift its P Q → Shift its (h · P) (h · Q)
  unfolding times
  shift-inside f q (read i p s r) = let w = f i r in record { reads = read i p s w.reads; counts = λ j. omega (arith, w.counts j) }

  shift_same : {P : Process} → Shift its P P
  shift_same q r = record { reads = r; counts = λ j. refl }

  -- congruent processes are read from the same records
  pub conform : {P Q : Process} → Congruent P Q → Shift its P Q × Shift its Q P
  conform reflexive = (shift_same, shift_same)
  conform (symmetric e) = let w = conform e in (w.1, w.0)
  conform (transitive e f) = let v = conform e in let w = conform f in (shift-chain v.0 w.0, shift-chain w.1 v.1)
  conform (parallel e) = let w = conform e in (shift-parallel w.0, shift-parallel w.1)
  conform (inside e) = let w = conform e in (shift-inside w.0, shift-inside w.1)
  conform commutes = (shift-commutes, shift-commutes)
  conform associates = (shift-right, shift-left)
  conform unit = (shift-less, shift-more)

pub beneath : {P Q R : Process} → Congruent Q R → Congruent (P ‖ Q) (P ‖ R)
beneath e = transitive commutes (transitive (parallel e) commutes)

-- P where h · A, of record i, stands in front
pub record Front (its : List Rec) (q : ℕ) (P : Process) (N : ℕ → ℕ) (i : ℕ) (h : Head) : Type 0 where
  pub A : Process
  pub B : Process
  pub shown : Congruent P (h · A ‖ B)
  pub inner : Reads its i A
  pub rest : Reads its q B
  pub counts : (j : ℕ) → N j ≡ one i j + (times inner j + times rest j)

module _ {its : List Rec} where
  pub focus : {q : ℕ} {P : Process} (r : Reads its q P) (i : ℕ) {h : Head} → Says (at its i) h → Once q (times r) → 1 ≤ times r i → parent_of its i ≡ q → Front its q P (times r) i h
  unfolding times
  focus end i s o l p = absurd (omega arith)
  focus {q} (both {P = P} {Q = Q} r t) i {h} s o l p = go (dec_le 1 (times r i)) (λ m. focus r i s (λ k. omega (arith, o k)) m p) (λ m. focus t i s (λ k. omega (arith, o k)) m p)
    where
      go : Dec (1 ≤ times r i) → (1 ≤ times r i → Front its q P (times r) i h) → (1 ≤ times t i → Front its q Q (times t) i h) → Front its q (P ‖ Q) (λ j. times r j + times t j) i h
      go (yes m) f g =
          let w = f m in
          record { A = w.A; B = w.B ‖ Q; shown = transitive (parallel w.shown) associates; inner = w.inner; rest = both w.rest t; counts = λ k. omega (arith, w.counts k) }
      go (no m) f g =
          let w = g (omega arith) in
          record {
            A = w.A;
            B = w.B ‖ P;
            shown = transitive commutes (transitive (parallel w.shown) associates);
            inner = w.inner;
            rest = both w.rest r;
            counts = λ k. omega (arith, w.counts k);
          }
  focus {q} (read {h = h'} {P = A} j e s' r) i {h} s o l p = go (ℕ_discrete j i)
    where
      go : Dec (j ≡ i) → Front its q (h' · A) (λ k. one j k + times r k) i h
      go (yes u) =
          let w : Front its q (h' · A) (λ k. one j k + times r k) j h' = record { A = A; B = nothing; shown = symmetric unit; inner = r; rest = end; counts = λ k. omega arith } in
          let v = says-unique its j s' (subst (λ k. Says (at its k) h) (sym u) s) in
          subst (λ k. Front its q (h' · A) (λ k. one j k + times r k) k h) u (subst (λ x. Front its q (h' · A) (λ k. one j k + times r k) j x) v w)
      go (no u) = absurd (off r (omega (arith, o q, one-self q)) (omega (arith, o q, one-self q)) i (omega (arith, one-other j i u)) p)

-- what stands under a record that is read is read
abbrev pub Downward : List Rec → (ℕ → ℕ) → Type 0
Downward its N = (i : ℕ) → Alive its i → 1 ≤ N (parent_of its i) → 1 ≤ N i

-- all that stands under q is read, each once
pub record Whole (its : List Rec) (q : ℕ) (N : ℕ → ℕ) : Type 0 where
  pub once : Once q N
  pub full : (i : ℕ) → Alive its i → 1 ≤ one q (parent_of its i) + N (parent_of its i) → 1 ≤ N i

module _ {its : List Rec} {q : ℕ} {N : ℕ → ℕ} (w : Whole its q N) where
  pub whole-downward : Downward its N
  whole-downward i l m = w.full i l (omega arith)

  pub child : (i : ℕ) → Alive its i → parent_of its i ≡ q → 1 ≤ N i
  child i l e = w.full i l (omega (arith, one_same q (parent_of its i) (sym e)))

module _ {its : List Rec} {q i : ℕ} {P : Process} {N : ℕ → ℕ} {h : Head} (o : Once q N) (c : Downward its N) (f : Front its q P N i h) (p : parent_of its i ≡ q) where
  pub front-inner : Whole its i (times f.inner)
  front-inner = record { once = λ j. omega (arith, o j, f.counts j); full = λ j l m. go j l m (dec_le 1 (times f.inner j)) (ℕ_discrete i j) }
    where
      go : (j : ℕ) → Alive its j → 1 ≤ one i (parent_of its j) + times f.inner (parent_of its j) → Dec (1 ≤ times f.inner j) → Dec (i ≡ j) → 1 ≤ times f.inner j
      go j l m (yes u) _ = u
      go j l m (no u) (yes v) =
          let e : parent_of its j ≡ q = ap (λ x. parent_of its x) (sym v) ∙ p in
          absurd (omega (arith, o q, one-self q, f.counts q, ap (one i) e, ap (times f.inner) e))
      go j l m (no u) (no v) =
          let k = parent_of its j in
          let n = c j l (omega (arith, f.counts k)) in
          absurd (omega (arith, climbs f.rest j (omega (arith, f.counts j, one-other i j v, n)), f.counts k, o k))

module _ {its : List Rec} {q i : ℕ} {P : Process} {N : ℕ → ℕ} {h : Head} (whole : Whole its q N) (f : Front its q P N i h) (p : parent_of its i ≡ q) where
  pub front-whole : Whole its i (times f.inner)
  front-whole = front-inner whole.once (whole-downward whole) f p

  pub front_rest : (j : ℕ) → Alive its j → parent_of its j ≡ q → i ≢ j → 1 ≤ times f.rest j
  front_rest j l e v = go (dec_le 1 (times f.inner j))
    where
      go : Dec (1 ≤ times f.inner j) → 1 ≤ times f.rest j
      go (yes u) = absurd (omega (arith, climbs f.inner j u, f.counts (parent_of its j), whole.once (parent_of its j), one_same q (parent_of its j) (sym e)))
      go (no u) = omega (arith, child whole j l e, f.counts j, one-other i j v)

  pub rest-once : Once q (times f.rest)
  rest-once j = omega (arith, whole.once j, f.counts j)
