-- Climbing in a forest given by a parent function p, where 0 is the root.
use Prim.Native.Nat.{◌+◌, ◌<◌, ◌≤◌, suc, zero, ℕ}
use Rattle.std.proofs.lemmas.Bool.{eqb-false, false≢true}
use Rattle.std.proofs.Common.{eqb-true, ne_eqb, ◌∙◌, ap, subst, sym}
use Rattle.std.proofs.Math.Dec.{eqb}
use Rattle.std.specs.Prelude.{Bool, ◌||◌, ◌≢◌, ◌≡◌}
use Rattle.std.proofs.Math.Bool.{false, true}
use Rattle.std.proofs.Math.Path.{refl}
use Rattle.std.proofs.Math.Decide.{ℕ_discrete}
use native.Mathlib.Omega.{arith}
use Rattle.model.specs.Finite.{one_if, tally}

-- i stands d climbs below the root
pub data Depth (p : ℕ → ℕ) : ℕ → ℕ → Type 0 where
  root : Depth p 0 0
  under : {i d : ℕ} → i ≢ 0 → Depth p (p i) d → Depth p i (suc d)

module _ {p : ℕ → ℕ} where
  pub depth-unique : {i d e : ℕ} → Depth p i d → Depth p i e → d ≡ e
  depth-unique root root = refl
  depth-unique root (under h r) = absurd (h refl)
  depth-unique (under h r) root = absurd (h refl)
  depth-unique (under h r) (under h' r') = ap suc (depth-unique r r')

pub one_if-le : (b : Bool) → one_if b ≤ 1
unfolding one_if
one_if-le true = omega arith
one_if-le false = omega arith

pub tally-le : (f : ℕ → Bool) (n : ℕ) → tally f n ≤ n
unfolding tally
tally-le f zero = omega arith
tally-le f (suc n) = omega (arith, tally-le f n, one_if-le (f (suc n)))

pub tally-same : (f g : ℕ → Bool) (n : ℕ) → ((x : ℕ) → x ≤ n → f x ≡ g x) → tally f n ≡ tally g n
unfolding tally
tally-same f g zero h = refl
tally-same f g (suc n) h = rw (h (suc n) (omega arith), tally-same f g n (λ x l. h x (omega arith)))

unfoldable pub mark : ℕ → (ℕ → Bool) → ℕ → Bool
mark j f x = eqb x j || f x

pub mark-other : (f : ℕ → Bool) (j x : ℕ) → x ≢ j → mark j f x ≡ f x
unfolding mark
mark-other f j x h = rw (ne_eqb x j h)

pub tally-mark : (f : ℕ → Bool) (j n : ℕ) → j ≢ 0 → j ≤ n → f j ≡ false → tally (mark j f) n ≡ suc (tally f n)
unfolding tally mark one_if
tally-mark f j zero z l e = absurd (z (omega arith))
tally-mark f j (suc n) z l e = go (eqb (suc n) j) refl (λ h. tally-mark f j n z h e)
  where
    go : (t : Bool) → eqb (suc n) j ≡ t → (j ≤ n → tally (mark j f) n ≡ suc (tally f n)) → one_if (mark j f (suc n)) + tally (mark j f) n ≡ suc (one_if (f (suc n)) + tally f n)
    go true q ih =
        let w : f (suc n) ≡ false = rw (eqb-true (suc n) j q) e in
        rw (q, w, tally-same (mark j f) f n (λ x l'. mark-other f j x (λ u. omega (arith, eqb-true (suc n) j q)))) (omega arith)
    go false q ih =
        let k : j ≢ suc n = λ u. eqb-false (suc n) j q (sym u) in
        let ih' = ih (omega arith) in
        rw (q, ih') (omega arith)

module _ {p : ℕ → ℕ} where
  on : {i d : ℕ} → Depth p i d → ℕ → Bool
  on root x = false
  on (under {i = i} h r) x = mark i (on r) x

  on-depth : {i d : ℕ} (r : Depth p i d) (x : ℕ) → on r x ≡ true → (e : ℕ) × (e ≤ d) × Depth p x e
  unfolding on mark
  on-depth root x q = (0, omega arith, absurd (false≢true q))
  on-depth (under {i = i} {d = d} h r) x q = go (eqb x i) refl (on-depth r x)
    where
      go : (t : Bool) → eqb x i ≡ t → (on r x ≡ true → (e : ℕ) × (e ≤ d) × Depth p x e) → (e : ℕ) × (e ≤ suc d) × Depth p x e
      go true w ih = (suc d, omega arith, rw (eqb-true x i w) (under h r))
      go false w ih =
          let z = ih (rw w at q) in
          (z.0, omega (arith, z.1), z.2)

  on-bound : (n : ℕ) → ((i : ℕ) → p i ≤ n) → {i d : ℕ} → i ≤ n → (r : Depth p i d) → d ≤ tally (on r) n
  unfolding on
  on-bound n h l root = omega arith
  on-bound n h l (under {i = i} {d = d} z r) = go (on r i) refl (on-bound n h (h i) r)
    where
      go : (t : Bool) → on r i ≡ t → d ≤ tally (on r) n → suc d ≤ tally (mark i (on r)) n
      go true q ih =
          let w = on-depth r i q in
          absurd (omega (arith, w.1, depth-unique w.2 (under z r)))
      go false q ih = rw (tally-mark (on r) i n z l q) (omega arith)

  -- a climb that ends passes each number at most once
  pub depth_le : (n : ℕ) → ((i : ℕ) → p i ≤ n) → {i d : ℕ} → i ≤ n → Depth p i d → d ≤ n
  depth_le n h l r = omega (arith, on-bound n h l r, tally-le (on r) n)

  -- the place above
  pub above : {i d : ℕ} → Depth p i d → i ≢ 0 → (e : ℕ) × (d ≡ suc e) × Depth p (p i) e
  above root h = absurd (h refl)
  above (under {d = d} z r) h = (d, refl, r)

  pub not-own-parent : {i d : ℕ} → Depth p i d → i ≢ 0 → p i ≢ i
  not-own-parent {i} r z q =
      let w = above r z in
      let u : Depth p i w.0 = rw q at w.2 in
      omega (arith, w.1, depth-unique r u)

pub under_of : {p : ℕ → ℕ} {i j d : ℕ} → i ≢ 0 → p i ≡ j → Depth p j d → Depth p i (suc d)
under_of {p} {d = d} z q r = under {d = d} z (rw q r)

same? : (i j : ℕ) → Dec (i ≡ j)
same? = ℕ_discrete

-- a gets the parent t
module _ {p p' : ℕ → ℕ} {a t : ℕ} (moved : p' a ≡ t) (stays : (i : ℕ) → i ≢ a → p' i ≡ p i) where
  pub reparent-high : {j e d : ℕ} → Depth p a d → Depth p j e → e < d → Depth p' j e
  reparent-high w root l = root
  reparent-high {d = d} w (under {i = j} {d = e} h r) l =
      under_of h (stays j (λ q. omega (arith, depth-unique (under h r) (rw (← q) at w)))) (reparent-high w r (omega arith))

  pub reparent-depth : {e i d : ℕ} → a ≢ 0 → Depth p' t e → Depth p i d → (f : ℕ) × Depth p' i f
  reparent-depth z w root = (0, root)
  reparent-depth {e} z w (under {i = i} {d = d} h r) = go (same? i a) (reparent-depth z w r)
    where
      go : Dec (i ≡ a) → (f : ℕ) × Depth p' (p i) f → (f : ℕ) × Depth p' i f
      go (yes q) ih = (suc e, under_of h (ap p' q ∙ moved) w)
      go (no q) ih = (suc ih.0, under_of h (stays i q) ih.1)

-- a forest p' whose place i stands for the place s i of p: its parent stands for the parent there, or, past x, for x's parent
pub data Follows (p p' s : ℕ → ℕ) (x i : ℕ) : Type 0 where
  follows : s (p' i) ≡ p (s i) → Follows p p' s x i
  past : p (s i) ≡ x → s (p' i) ≡ p x → Follows p p' s x i

module _ {p p' s : ℕ → ℕ} {x : ℕ} (xz : x ≢ 0) (s-pos : (i : ℕ) → i ≢ 0 → s i ≢ 0) (X : ℕ → Type 0) (closed : (i : ℕ) → X i → X (p' i))
    (follow : (i : ℕ) → X i → Follows p p' s x i) where
  higher : {i d : ℕ} → X i → i ≢ 0 → Depth p (s i) d → (e : ℕ) × (e < d) × Depth p (s (p' i)) e
  higher {i} {d} m n r = go (follow i m)
    where
      w : (e : ℕ) × (d ≡ suc e) × Depth p (p (s i)) e
      w = above r (s-pos i n)

      go : Follows p p' s x i → (e : ℕ) × (e < d) × Depth p (s (p' i)) e
      go (follows e) = (w.0, omega (arith, w.1), rw e w.2)
      go (past u e) =
          let v = above (subst (λ j. Depth p j w.0) u w.2) xz in
          (v.0, omega (arith, w.1, v.1), rw e v.2)

  pub depth-along : (k : ℕ) {i d : ℕ} → d ≤ k → X i → Depth p (s i) d → (e : ℕ) × Depth p' i e
  depth-along zero {i} {d} l m r = go (same? i 0)
    where
      go : Dec (i ≡ 0) → (e : ℕ) × Depth p' i e
      go (yes q) = (0, rw q root)
      go (no q) = let w = higher m q r in absurd (omega (arith, w.1))
  depth-along (suc k) {i} {d} l m r = go (same? i 0) (λ j e v c u. depth-along k {i = j} {d = e} v c u)
    where
      go : Dec (i ≡ 0) → ((j e : ℕ) → e ≤ k → X j → Depth p (s j) e → (f : ℕ) × Depth p' j f) → (e : ℕ) × Depth p' i e
      go (yes q) ih = (0, rw q root)
      go (no q) ih =
          let w = higher m q r in
          let t = ih (p' i) w.0 (omega (arith, w.1)) (closed i m) w.2 in
          (suc t.0, under q t.1)
