-- The walk of a valid itinerary visits every record that is not gone, and each of them once: bytes to text loses none.
use Prim.Native.Nat.{◌+◌, ◌-◌, ◌<◌, ◌≤◌, suc, zero, ℕ}
use borrow.Author.Tests.{eq-eqb, eqb-false, eqb-true, ne_eqb, not-true}
use Rattle.std.specs.Prelude.{eqb, length, Bool, false, not, true, List, [], ◌∷◌, ◌≢◌, ◌⊎◌, ◌≡◌, refl}
use Rattle.std.proofs.Common.{true≢false, ◌∙◌, ap, sym, arith}
use Rattle.std.proofs.Math.Logic.{inl, inr}
use Rattle.std.specs.Prelude.{Option, None, Some}
use Rattle.std.proofs.Math.Decide.{dec_le, ℕ_discrete}
use Rattle.model.specs.Finite.{one_if, tally}
use Rattle.model.proofs.Laws.Bytes.{valid-wf}
use Rattle.model.proofs.Laws.Finite.{lowest-none, lowest-some}
use Rattle.model.proofs.Laws.Forest.{Depth, depth-unique, one_if-le, mark, mark-other, root, tally-le, tally-mark, under, under_of}
use Rattle.model.proofs.Laws.Updates.{at-root}
use Rattle.model.proofs.Laws.WellFormed.{WellFormed, alive-in, alive-pos, parent-not-self}
use Rattle.model.proofs.Laws.Booleans.{and_left, and_right}
use Rattle.model.specs.Records.{at, parent_of, records}
use Rattle.model.specs.Refusals.{pass}
use Rattle.model.specs.Validity.{validity}
use Rattle.model.specs.declared.Rec.{Rec}
use Rattle.text_form.specs.Laws.Identity.{next-visited, walk_end}
use Rattle.text_form.specs.Laws.Nesting.{child-is, walk-next}
use Rattle.text_form.specs.Writing.{child_or, child_over, is_child, next_from, walk, walk_from}
use Rattle.text_form.specs.declared.Visit.{Visit}

-- a set of numbers, and one more
module _ (f : ℕ → Bool) (c : ℕ) where
  mark-self : mark c f c ≡ true
  unfolding mark
  mark-self = rw (eq-eqb c c refl)

  mark-keep : (x : ℕ) → f x ≡ true → mark c f x ≡ true
  mark-keep x h = go (ℕ_discrete x c)
    where
      go : Dec (x ≡ c) → mark c f x ≡ true
      go (yes e) = rw e mark-self
      go (no e) = mark-other f c x e ∙ h

-- a set with as many numbers as there are has them all
tally-full : (f : ℕ → Bool) (n : ℕ) → n ≤ tally f n → (x : ℕ) → x ≢ 0 → x ≤ n → f x ≡ true
unfolding tally one_if
tally-full f zero h x z l = absurd (omega arith)
tally-full f (suc n) h x z l = go (f (suc n)) refl (ℕ_discrete x (suc n)) (λ k. tally-full f n k x z)
  where
    go : (b : Bool) → f (suc n) ≡ b → Dec (x ≡ suc n) → (n ≤ tally f n → x ≤ n → f x ≡ true) → f x ≡ true
    go true e (yes q) ih = rw q e
    go b e (no q) ih = ih (omega (arith, one_if-le (f (suc n)))) (omega arith)
    go false e (yes q) ih = let u : one_if (f (suc n)) ≡ 0 = ap one_if e in absurd (omega (arith, tally-le f n))

-- record j is not gone and has parent p
record Child (its : List Rec) (p j : ℕ) : Type 0 where
  alive : (at its j).kind ≢ 0
  parent : parent_of its j ≡ p

module _ (its : List Rec) (p j : ℕ) where
  child-of : is_child its p j ≡ true → Child its p j
  unfolding is_child
  child-of h = record { alive = eqb-false _ _ (not-true _ (and_left _ _ h)); parent = eqb-true _ _ (and_right (not (eqb (at its j).kind 0)) _ h) }

  not-child : is_child its p j ≡ false → Child its p j → ⊥
  not-child h k = true≢false (sym (child-is its p j k.alive k.parent) ∙ h)

-- what the next child is
data NextChild (its : List Rec) (p after : ℕ) : Option ℕ → Type 0 where
  last : ((j : ℕ) → Child its p j → j ≤ after) → NextChild its p after None
  found : {c : ℕ} → Child its p c → after < c → c ≤ length its → ((j : ℕ) → Child its p j → j < c → j ≤ after) → NextChild its p after (Some c)

next-child : (its : List Rec) (p after : ℕ) → NextChild its p after (child_over its p after)
next-child its p after = go (child_over its p after) refl
  where
    small : (j : ℕ) → Child its p j → (after < j → is_child its p j ≡ false) → Dec (j ≤ after) → j ≤ after
    small j k h (yes l) = l
    small j k h (no l) = absurd (not-child its p j (h (omega arith)) k)

    go : (o : Option ℕ) → child_over its p after ≡ o → NextChild its p after o
    go None q = last (λ j k. small j k (λ l. lowest-none (is_child its p) (suc after) (length its - after) q j l (omega (arith, alive-in its j k.alive))) (dec_le j after))
    go (Some c) q =
        let w = lowest-some (is_child its p) (suc after) (length its - after) c q in
        found (child-of its p c w.2) w.0 (omega (arith, w.0, w.1)) (λ j k l. small j k (λ h. w.3 j h l) (dec_le j after))

-- f has those of p's children that have numbers up to after
record Sides (its : List Rec) (f : ℕ → Bool) (p after : ℕ) : Type 0 where
  past : (j : ℕ) → Child its p j → f j ≡ true → j ≤ after
  done : (j : ℕ) → Child its p j → j ≤ after → f j ≡ true

-- and, of the children of all that stand above p, those up to the one on the way to p
unfoldable Open : List Rec → (ℕ → Bool) → ℕ → ℕ → ℕ → Type 0
Open its f zero p after = Sides its f p after
Open its f (suc d) p after = Sides its f p after × Open its f d (parent_of its p) p

-- q is p or stands above it
unfoldable On : List Rec → ℕ → ℕ → ℕ → Type 0
On its q zero p = q ≡ p
On its q (suc d) p = (q ≡ p) ⊎ On its q d (parent_of its p)

-- f has all children of q
abbrev AllChildren : List Rec → (ℕ → Bool) → ℕ → Type 0
AllChildren its f q = (j : ℕ) → Child its q j → f j ≡ true

-- f are the numbers visited before the walk goes on after those up to number after under p
record Inv (its : List Rec) (f : ℕ → Bool) (d p after : ℕ) : Type 0 where
  deep : Depth (parent_of its) p d
  env : f 0 ≡ true
  seen : f p ≡ true
  known : (j : ℕ) → f j ≡ true → f (parent_of its j) ≡ true
  sides : Open its f d p after
  rest : (q : ℕ) → f q ≡ true → AllChildren its f q ⊎ On its q d p

depth-up : {p : ℕ → ℕ} {i d : ℕ} → Depth p i (suc d) → Depth p (p i) d
depth-up (under h r) = r

open-sides : (its : List Rec) (f : ℕ → Bool) (d p after : ℕ) → Open its f d p after → Sides its f p after
unfolding Open
open-sides its f zero p after o = o
open-sides its f (suc d) p after o = o.0

module _ (its : List Rec) (f : ℕ → Bool) (c : ℕ) where
  sides-mark : (q r : ℕ) → parent_of its c ≢ q → Sides its f q r → Sides its (mark c f) q r
  sides-mark q r n s = record {
    past = λ j k t. s.past j k (sym (mark-other f c j (λ e. n (ap (λ i. parent_of its i) (sym e) ∙ k.parent))) ∙ t);
    done = λ j k l. mark-keep f c j (s.done j k l);
  }

  apart : (q d e : ℕ) → Depth (parent_of its) q d → Depth (parent_of its) (parent_of its c) e → d < e → parent_of its c ≢ q
  apart q d e w x l u = let y : Depth (parent_of its) q e = rw u at x in omega (arith, depth-unique w y)

  open-mark : (d q r e : ℕ) → Depth (parent_of its) q d → Depth (parent_of its) (parent_of its c) e → d < e → Open its f d q r → Open its (mark c f) d q r
  unfolding Open
  open-mark zero q r e w x l o = sides-mark q r (apart q 0 e w x l) o
  open-mark (suc d) q r e w x l o = (sides-mark q r (apart q (suc d) e w x l) o.0, open-mark d (parent_of its q) q e (depth-up w) x (omega arith) o.1)

  module _ (p after : ℕ) (k : Child its p c) (l : after < c) (least : (j : ℕ) → Child its p j → j < c → j ≤ after) where
    sides-next : Sides its f p after → Sides its (mark c f) p c
    sides-next s = record { past = λ j h t. early j h t (ℕ_discrete j c); done = λ j h m. had j h m (ℕ_discrete j c) }
      where
        early : (j : ℕ) → Child its p j → mark c f j ≡ true → Dec (j ≡ c) → j ≤ c
        early j h t (yes e) = omega arith
        early j h t (no e) = omega (arith, s.past j h (sym (mark-other f c j e) ∙ t))

        had : (j : ℕ) → Child its p j → j ≤ c → Dec (j ≡ c) → mark c f j ≡ true
        had j h m (yes e) = rw e (mark-self f c)
        had j h m (no e) = mark-keep f c j (s.done j h (least j h (omega arith)))

    open_next : (d : ℕ) → Depth (parent_of its) p d → Open its f d p after → Open its (mark c f) d p c
    unfolding Open
    open_next zero w o = sides-next o
    open_next (suc d) w o = (sides-next o.0, open-mark d (parent_of its p) p (suc d) (depth-up w) (rw k.parent w) (omega arith) o.1)

    -- c is new
    fresh : Sides its f p after → f c ≡ false
    fresh s = go (f c) refl
      where
        go : (b : Bool) → f c ≡ b → f c ≡ false
        go true e = absurd (omega (arith, s.past c k e))
        go false e = e

    module _ (wf : WellFormed its) (d : ℕ) (i : Inv its f d p after) where
      new : f c ≡ false
      new = fresh (open-sides its f d p after i.sides)

      none_yet : Sides its (mark c f) c 0
      none_yet = record { past = λ j h t. absurd (early j h t (ℕ_discrete j c)); done = λ j h m. absurd (alive-pos its j h.alive (omega arith)) }
        where
          early : (j : ℕ) → Child its c j → mark c f j ≡ true → Dec (j ≡ c) → ⊥
          early j h t (yes e) = parent-not-self wf j (alive-pos its j h.alive) (h.parent ∙ sym e)
          early j h t (no e) = true≢false (sym (i.known j (sym (mark-other f c j e) ∙ t)) ∙ ap f h.parent ∙ new)

      known_next : (j : ℕ) → mark c f j ≡ true → Dec (j ≡ c) → mark c f (parent_of its j) ≡ true
      known_next j t (yes e) = mark-keep f c _ (ap (λ x. f (parent_of its x)) e ∙ ap f k.parent ∙ i.seen)
      known_next j t (no e) = mark-keep f c _ (i.known j (sym (mark-other f c j e) ∙ t))

      rest-next : (q : ℕ) → mark c f q ≡ true → Dec (q ≡ c) → AllChildren its (mark c f) q ⊎ On its q (suc d) c
      unfolding On
      rest-next q t (yes e) = inr (inl e)
      rest-next q t (no e) = go (i.rest q (sym (mark-other f c q e) ∙ t))
        where
          go : AllChildren its f q ⊎ On its q d p → AllChildren its (mark c f) q ⊎ On its q (suc d) c
          go (inl h) = inl (λ j x. mark-keep f c j (h j x))
          go (inr o) = inr (inr (rw k.parent o))

      open-child : Open its (mark c f) (suc d) c 0
      unfolding Open
      open-child = (none_yet, rw k.parent (open_next d i.deep i.sides))

      inv-next : Inv its (mark c f) (suc d) c 0
      inv-next = record {
        deep = under_of (alive-pos its c k.alive) k.parent i.deep;
        env = mark-keep f c 0 i.env;
        seen = mark-self f c;
        known = λ j t. known_next j t (ℕ_discrete j c);
        sides = open-child;
        rest = λ q t. rest-next q t (ℕ_discrete q c);
      }

-- p has no further child
module _ (its : List Rec) (f : ℕ → Bool) (p after : ℕ) (least : (j : ℕ) → Child its p j → j ≤ after) where
  closed : Sides its f p after → AllChildren its f p
  closed s j k = s.done j k (least j k)

  all_closed : Inv its f 0 p after → (q : ℕ) → f q ≡ true → AllChildren its f q
  unfolding On
  all_closed i q t = go (i.rest q t)
    where
      go : AllChildren its f q ⊎ On its q 0 p → AllChildren its f q
      go (inl h) = h
      go (inr e) = rw e (closed (open-sides its f 0 p after i.sides))

  inv-up : (d : ℕ) → Inv its f (suc d) p after → Inv its f d (parent_of its p) p
  unfolding Open On
  inv-up d i = record {
    deep = depth-up i.deep;
    env = i.env;
    seen = i.known p i.seen;
    known = i.known;
    sides = i.sides.1;
    rest = λ q t. go q (i.rest q t);
  }
    where
      go : (q : ℕ) → AllChildren its f q ⊎ On its q (suc d) p → AllChildren its f q ⊎ On its q d (parent_of its p)
      go q (inl h) = inl h
      go q (inr (inl e)) = inl (rw e (closed (open-sides its f (suc d) p after i.sides)))
      go q (inr (inr o)) = inr o

-- what the next visit is, after the numbers f
data Next (its : List Rec) (f : ℕ → Bool) : Option Visit → Type 0 where
  ended : ((q : ℕ) → f q ≡ true → AllChildren its f q) → Next its f None
  goes : {v : Visit} → v.number ≢ 0 → f v.number ≡ false → v.number ≤ length its → Inv its (mark v.number f) (suc v.depth) v.number 0 → Next its f (Some v)

next : (its : List Rec) → WellFormed its → (f : ℕ → Bool) (d p after : ℕ) → Inv its f d p after → Next its f (next_from its d p after)
unfolding next_from child_or
next its wf f zero p after i = go (child_over its p after) (next-child its p after)
  where
    go : (o : Option ℕ) → NextChild its p after o → Next its f (child_or o 0 None)
    go None (last h) = ended (all_closed its f p after h i)
    go (Some c) (found k l m h) = goes (alive-pos its c k.alive) (new its f c p after k l h wf 0 i) m (inv-next its f c p after k l h wf 0 i)
next its wf f (suc d) p after i = go (child_over its p after) (next-child its p after) (next its wf f d (parent_of its p) p)
  where
    go : (o : Option ℕ) → NextChild its p after o → (Inv its f d (parent_of its p) p → Next its f (next_from its d (parent_of its p) p)) → Next its f (child_or o (suc d) (next_from its d (parent_of its p) p))
    go None (last h) ih = ih (inv-up its f p after h d i)
    go (Some c) (found k l m h) ih = goes (alive-pos its c k.alive) (new its f c p after k l h wf (suc d) i) m (inv-next its f c p after k l h wf (suc d) i)

-- where every number of f is closed, f has every record
all_seen : (its : List Rec) → WellFormed its → (f : ℕ → Bool) → f 0 ≡ true → ((q : ℕ) → f q ≡ true → AllChildren its f q) → {j d : ℕ} → Depth (parent_of its) j d → (at its j).kind ≢ 0 → f j ≡ true
all_seen its wf f z h root a = z
all_seen its wf f z h (under {i = j} n r) a = h (parent_of its j) (go (ℕ_discrete (parent_of its j) 0) (all_seen its wf f z h r)) j (record { alive = a; parent = refl })
  where
    go : Dec (parent_of its j ≡ 0) → ((at its (parent_of its j)).kind ≢ 0 → f (parent_of its j) ≡ true) → f (parent_of its j) ≡ true
    go (yes e) ih = ap f e ∙ z
    go (no e) ih = ih (wf.parents j e)

-- how often record j is visited
unfoldable pub times : ℕ → List Visit → ℕ
times j [] = 0
times j (v ∷ vs) = one_if (eqb v.number j) + times j vs

-- a visit of a new number
times-new : (f : ℕ → Bool) (c j n : ℕ) → f c ≡ false → n ≡ one_if (not (mark c f j)) → one_if (eqb c j) + n ≡ one_if (not (f j))
unfolding one_if
times-new f c j n e h = go (ℕ_discrete j c)
  where
    go : Dec (j ≡ c) → one_if (eqb c j) + n ≡ one_if (not (f j))
    go (yes q) = let u : n ≡ 0 = h ∙ ap (λ b. one_if (not b)) (ap (mark c f) q ∙ mark-self f c) in rw (eq-eqb c j (sym q), u, q, e)
    go (no q) = let u : n ≡ one_if (not (f j)) = h ∙ ap (λ b. one_if (not b)) (mark-other f c j q) in rw (ne_eqb c j (λ x. q (sym x)), u) (omega arith)

walk-times : (its : List Rec) → WellFormed its → (n : ℕ) (f : ℕ → Bool) (p d : ℕ) → Inv its f d p 0 → tally f (length its) + n ≡ length its → (j : ℕ) → (at its j).kind ≢ 0 → times j (walk_from its n p d) ≡ one_if (not (f j))
unfolding walk_from times one_if
walk-times its wf zero f p d i t j a = rw (tally-full f (length its) (omega arith) j (alive-pos its j a) (alive-in its j a))
walk-times its wf (suc n) f p d i t j a = go (next_from its d p 0) refl (next its wf f d p 0 i) (walk-times its wf n)
  where
    go : (o : Option Visit) → next_from its d p 0 ≡ o → Next its f o →
        ((f : ℕ → Bool) (p d : ℕ) → Inv its f d p 0 → tally f (length its) + n ≡ length its → (j : ℕ) → (at its j).kind ≢ 0 → times j (walk_from its n p d) ≡ one_if (not (f j))) →
        times j (walk_from its (suc n) p d) ≡ one_if (not (f j))
    go None e (ended h) ih = rw (walk_end its n p d e, all_seen its wf f i.env h (wf.reach j).1 a)
    go (Some v) e (goes z x m k) ih =
        rw (walk-next its n p d v e)
        (times-new f v.number j _ x (ih (mark v.number f) v.number (suc v.depth) k (omega (arith, tally-mark f v.number (length its) z m x)) j a))

-- at first, only the environment
unfoldable start : ℕ → Bool
start x = eqb x 0

start-tally : (n : ℕ) → tally start n ≡ 0
unfolding tally start one_if
start-tally zero = refl
start-tally (suc n) = rw (ne_eqb (suc n) 0 (omega arith), start-tally n)

start-only : (x : ℕ) → start x ≡ true → x ≡ 0
unfolding start
start-only x h = eqb-true x 0 h

start-zero : start 0 ≡ true
unfolding start
start-zero = refl

start-inv : (its : List Rec) → Inv its start 0 0 0
unfolding Open On
start-inv its = record {
  deep = root;
  env = start-zero;
  seen = start-zero;
  known = λ j t. ap (λ x. start (parent_of its x)) (start-only j t) ∙ ap (λ r. start r.parent) (at-root its) ∙ start-zero;
  sides = record { past = λ j k t. omega (arith, start-only j t); done = λ j k l. absurd (alive-pos its j k.alive (omega arith)) };
  rest = λ q t. inr (start-only q t);
}

-- each record that is not gone is visited once
pub walk-once : (its : List Rec) → WellFormed its → (j : ℕ) → (at its j).kind ≢ 0 → times j (walk its) ≡ 1
unfolding walk start one_if
walk-once its wf j a = walk-times its wf (length its) start 0 0 (start-inv its) (omega (arith, start-tally (length its))) j a ∙ rw (ne_eqb j 0 (alive-pos its j a))

-- a record that is gone is not visited
walk-gone : (its : List Rec) (j : ℕ) → (at its j).kind ≡ 0 → (n p d : ℕ) → times j (walk_from its n p d) ≡ 0
unfolding walk_from times one_if
walk-gone its j a zero p d = refl
walk-gone its j a (suc n) p d = go (next_from its d p 0) refl (walk-gone its j a n)
  where
    go : (o : Option Visit) → next_from its d p 0 ≡ o → ((p d : ℕ) → times j (walk_from its n p d) ≡ 0) → times j (walk_from its (suc n) p d) ≡ 0
    go None e ih = rw (walk_end its n p d e)
    go (Some v) e ih =
        let x : v.number ≢ j = λ q. (next-visited its d p 0 v e).alive (ap (λ i. (at its i).kind) q ∙ a) in
        rw (walk-next its n p d v e) (rw (ne_eqb v.number j x, ih v.number (suc v.depth)))

pub walk-none-gone : (its : List Rec) (j : ℕ) → (at its j).kind ≡ 0 → times j (walk its) ≡ 0
unfolding walk
walk-none-gone its j a = walk-gone its j a (length its) 0 0

-- a visit of record j is in a list
pub data Visits (j : ℕ) : List Visit → Type 0 where
  now : {v : Visit} {vs : List Visit} → v.number ≡ j → Visits j (v ∷ vs)
  later : {v : Visit} {vs : List Visit} → Visits j vs → Visits j (v ∷ vs)

times-visits : (j : ℕ) (vs : List Visit) → 1 ≤ times j vs → Visits j vs
unfolding times one_if
times-visits j [] h = absurd (omega arith)
times-visits j (v ∷ vs) h = go (ℕ_discrete v.number j) (times-visits j vs)
  where
    go : Dec (v.number ≡ j) → (1 ≤ times j vs → Visits j vs) → Visits j (v ∷ vs)
    go (yes e) ih = now e
    go (no e) ih = let w = rw (ne_eqb v.number j e) at h in later (ih (omega (arith, w)))

-- the walk of a valid itinerary visits each record that is not gone, and no such record twice
module _ (s : List ℕ) (v : validity s ≡ pass) (j : ℕ) (a : (at (records s) j).kind ≢ 0) where
  pub walk-visits-once : times j (walk (records s)) ≡ 1
  walk-visits-once = walk-once (records s) (valid-wf s v) j a

  pub walk-visits : Visits j (walk (records s))
  walk-visits = times-visits j (walk (records s)) (omega (arith, walk-visits-once))
