-- What the two changes of an itinerary, and a step that is done, do to any view of it, and to what a table says of
-- every record and the value above it: one theorem, of which nesting and hiding are instances.
use Rattle.std.specs.Prelude.{◌<◌, ◌≤◌, ℕ, false, true, List, ◌≢◌, ◌≡◌, refl}
use Rattle.std.proofs.Common.{true≢false, ◌∙◌, ap, sym, arith}
use Rattle.std.proofs.Math.Decide.{ℕ_discrete}
use Rattle.model.specs.Analysis.{Permit}
use Rattle.model.specs.Climbing.{View, view}
use Rattle.model.proofs.Laws.Done.{Done, Stays, cap-pos, first-cap, first-wf, halfway, in-live, in-place-wf, move-first, out-live, out-place-wf, partner-pos}
use Rattle.model.proofs.Laws.Forest.{Depth, above, depth-unique, under_of}
use Rattle.model.proofs.Laws.Updates.{dissolve-self}
use Rattle.model.proofs.Laws.Views.{fold-carry, view_laws, view-on}
use Rattle.model.proofs.Laws.WellFormed.{Alive, SameBut, WellFormed, alive-pos, dissolve-closed, dissolve-parent-moved, dissolve-parent-stays, dissolve-same, dissolve-wf, labels, place-parent, place-parent-other, place_same, same-nested}
use Rattle.model.specs.Records.{Capability, at, cap-in, cap-open, cap-out, is_ambient, nested, parent_of}
use Rattle.model.specs.Steps.{dissolve, move, place}
use Rattle.model.specs.declared.Rec.{Rec}

-- what is said of each record's kind, label and name alone
module _ {its : List Rec} (wf : WellFormed its) (P : ℕ → ℕ → ℕ → Type 0) (each : (i : ℕ) → Alive its i → P (at its i).kind (at its i).label (at its i).name) where
  pub out-each : (x : ℕ) → x ≢ 0 → (i : ℕ) → Alive (dissolve x its) i → P (at (dissolve x its) i).kind (at (dissolve x its) i).label (at (dissolve x its) i).name
  out-each x z i live = go (ℕ_discrete i x)
    where
      go : Dec (i ≡ x) → P (at (dissolve x its) i).kind (at (dissolve x its) i).label (at (dissolve x its) i).name
      go (yes e) = absurd (live (rw (e, dissolve-self x its z)))
      go (no e) = let s = dissolve-same wf x z i e in rw (s.kind, s.label, s.name) (each i (rw s.kind at live))

  pub put-each : (a t : ℕ) → Alive its a → (i : ℕ) → Alive (place a t its) i → P (at (place a t its) i).kind (at (place a t its) i).label (at (place a t its) i).name
  put-each a t al i live = let s = place_same wf a t al i in rw (s.kind, s.label, s.name) (each i (rw s.kind at live))

-- how two values of a view are compared
pub record Ordered {A : Type 0} (v : View A) (R : A → A → Type 0) : Type 0 where
  pub same : (i : ℕ) {r r' : Rec} (x : A) → SameBut r r' → v.make i r' x ≡ v.make i r x
  pub rr : (x : A) → R x x
  pub tr : {x y w : A} → R x y → R y w → R x w

-- here a record makes more from more
abbrev pub Mono : {A : Type 0} → View A → (A → A → Type 0) → List Rec → Type 0
Mono {A} v R its = (i : ℕ) (y : A) → R (view v its (parent_of its i)) y → R (v.make i (at its i) (view v its (parent_of its i))) (v.make i (at its i) y)

module _ {A : Type 0} {v : View A} {R : A → A → Type 0} (o : Ordered v R) {its : List Rec} (wf : WellFormed its) (mono : Mono v R its) where
  -- x is taken out
  module _ (x : ℕ) (xz : x ≢ 0) (cross : R (view v its x) (view v its (parent_of its x))) where
    local : (i : ℕ) → i ≢ x → R (view v its (parent_of its i)) (view v its (parent_of (dissolve x its) i))
    local i h = go (ℕ_discrete (parent_of its i) x)
      where
        go : Dec (parent_of its i ≡ x) → R (view v its (parent_of its i)) (view v its (parent_of (dissolve x its) i))
        go (yes e) = rw (dissolve-parent-moved wf x xz i h e, e) cross
        go (no e) = rw (dissolve-parent-stays wf x xz i h e) (o.rr _)

    pub out-view : (i : ℕ) → i ≢ x → R (view v its i) (view v (dissolve x its) i)
    out-view i h = fold-carry R (o.rr _) (view_laws v wf) (view_laws v (dissolve-wf wf x xz)) (λ j. j ≢ x) (λ j n _. dissolve-closed wf x xz j n)
        (λ j n _ ih. rw (o.same _ _ (dissolve-same wf x xz j n)) (mono j _ (o.tr (local j n) ih))) h ((dissolve-wf wf x xz).reach i).1

    -- what the places above the records become
    pub out-over : (i : ℕ) → i ≢ x → R (view v its (parent_of its i)) (view v (dissolve x its) (parent_of (dissolve x its) i))
    out-over i h = o.tr (local i h) (out-view _ (dissolve-closed wf x xz i h))

  -- a gets the parent t
  module _ (a t : ℕ) (live : Alive its a) (wf' : WellFormed (place a t its)) where
    -- the way up from t doesn't pass a
    pub put-still : view v its t ≡ view v (place a t its) t
    put-still = fold-carry ◌≡◌ refl (view_laws v wf) (view_laws v wf') Low
        (λ j w n. let u = above w.2 n in (u.0, omega (arith, u.1, w.1), u.2))
        (λ j w _ ih. ap (λ q. v.make j (at its j) (view v its q)) (sym (place-parent-other wf a t live j (other j w))) ∙ ap (v.make j (at its j)) ih ∙ sym (o.same _ _ (place_same wf a t live j))) ((wf'.reach t).0, omega arith, (wf'.reach t).1) (wf'.reach t).1
      where
        Low : ℕ → Type 0
        Low j = (d : ℕ) × (d ≤ (wf'.reach t).0) × Depth (parent_of (place a t its)) j d

        other : (j : ℕ) → Low j → j ≢ a
        other j w e = omega (arith, w.1, depth-unique (rw e at w.2) (under_of (alive-pos its a live) (place-parent wf a t live) (wf'.reach t).1))

    module _ (along : R (v.make a (at its a) (view v its (parent_of its a))) (v.make a (at its a) (view v its t))) where
      pub put_view : (i : ℕ) → R (view v its i) (view v (place a t its) i)
      put_view i = fold-carry R (o.rr _) (view_laws v wf) (view_laws v wf') (λ j. Unit {0}) (λ j _ _. tt)
          (λ j _ _ ih. rw (o.same _ _ (place_same wf a t live j)) (go j (ℕ_discrete j a) ih)) tt (wf'.reach i).1
        where
          go : (j : ℕ) → Dec (j ≡ a) → R (view v its (parent_of (place a t its) j)) (view v (place a t its) (parent_of (place a t its) j)) →
              R (v.make j (at its j) (view v its (parent_of its j))) (v.make j (at its j) (view v (place a t its) (parent_of (place a t its) j)))
          go j (yes e) ih = rw (e, place-parent wf a t live, ← put-still) along
          go j (no e) ih = rw (place-parent-other wf a t live j e) (mono j _ (rw (place-parent-other wf a t live j e) at ih))

      pub put-over : (i : ℕ) → i ≢ a → R (view v its (parent_of its i)) (view v (place a t its) (parent_of (place a t its) i))
      put-over i e = rw (place-parent-other wf a t live i e) (put_view (parent_of its i))

-- what a table says of every ambient and capability and the value above it: In says what may stand at a value
abbrev pub Nest : {A : Type 0} → View A → (A → ℕ → Type 0) → List Rec → Type 0
Nest v In its = (i : ℕ) → nested (at its i) ≡ true → In (view v its (parent_of its i)) (at its i).label

module _ {A : Type 0} {v : View A} {R : A → A → Type 0} (o : Ordered v R) (In : A → ℕ → Type 0) (more : (x y : A) (l : ℕ) → l < 128 → R x y → In x l → In y l)
    {its : List Rec} (wf : WellFormed its) (mono : Mono v R its) (nest : Nest v In its) where
  pub out-nest : (x : ℕ) → x ≢ 0 → R (view v its x) (view v its (parent_of its x)) → Nest v In (dissolve x its)
  unfolding nested
  out-nest x z cross i live = go (ℕ_discrete i x)
    where
      go : Dec (i ≡ x) → In (view v (dissolve x its) (parent_of (dissolve x its) i)) (at (dissolve x its) i).label
      go (yes e) = absurd (true≢false (sym (rw (e, dissolve-self x its z) at live)))
      go (no e) = let s = dissolve-same wf x z i e in rw s.label (more _ _ _ (labels wf i) (out-over o wf mono x z cross i e) (nest i (sym (same-nested s) ∙ live)))

  pub put-nest : (a t : ℕ) → Alive its a → WellFormed (place a t its) → In (view v its t) (at its a).label →
      R (v.make a (at its a) (view v its (parent_of its a))) (v.make a (at its a) (view v its t)) → Nest v In (place a t its)
  put-nest a t live wf' fits along i alive = go (ℕ_discrete i a)
    where
      go : Dec (i ≡ a) → In (view v (place a t its) (parent_of (place a t its) i)) (at (place a t its) i).label
      go (yes e) = rw (e, (place_same wf a t live a).label, place-parent wf a t live, ← (put-still o wf mono a t live wf')) fits
      go (no e) = let s = place_same wf a t live i in rw s.label (more _ _ _ (labels wf i) (put-over o wf mono a t live wf' along i e) (nest i (sym (same-nested s) ∙ alive)))

-- what is said of each record's kind, label and name alone, after a step
module _ {permit : Permit} {its : List Rec} (wf : WellFormed its) {c b : ℕ} where
  module _ (P : ℕ → ℕ → ℕ → Type 0) (each : (i : ℕ) → Alive its i → P (at its i).kind (at its i).label (at its i).name) where
    first-each : (k : Capability) → Done permit k its c b → (i : ℕ) → Alive (halfway k its c b) i → P (at (halfway k its c b) i).kind (at (halfway k its c b) i).label (at (halfway k its c b) i).name
    first-each cap-in d = put-each wf P each (parent_of its c) b (in-live wf d)
    first-each cap-out d = put-each wf P each (parent_of its c) (parent_of its b) (out-live wf d)
    first-each cap-open d = out-each wf P each b (partner-pos wf cap-open d)

    pub move-each : (k : Capability) → Done permit k its c b → (i : ℕ) → Alive (move k its c b) i → P (at (move k its c b) i).kind (at (move k its c b) i).label (at (move k its c b) i).name
    move-each k d = rw (move-first k its c b) (out-each (first-wf wf k d) P (first-each k d) c (cap-pos wf k d))

-- a table over a view
pub record Nesting {A : Type 0} (v : View A) (R : A → A → Type 0) (In : A → ℕ → Type 0) : Type 0 where
  pub order : Ordered v R
  pub through : (i : ℕ) (r : Rec) (x : A) → is_ambient r ≡ false → v.make i r x ≡ x
  pub more : (x y : A) (l : ℕ) → l < 128 → R x y → In x l → In y l

-- what the rules have to give for a step
abbrev pub Gives : {A : Type 0} → View A → (A → A → Type 0) → (A → ℕ → Type 0) → Capability → List Rec → ℕ → ℕ → Type 0
Gives v R In cap-in its c b = let q = parent_of its c in
    In (view v its b) (at its q).label × R (v.make q (at its q) (view v its (parent_of its q))) (v.make q (at its q) (view v its b))
Gives v R In cap-out its c b = let q = parent_of its c in
    In (view v its (parent_of its b)) (at its q).label × R (v.make q (at its q) (view v its (parent_of its q))) (v.make q (at its q) (view v its (parent_of its b)))
Gives v R In cap-open its c b = R (view v its b) (view v its (parent_of its b))

pub record Moved {A : Type 0} (v : View A) (R : A → A → Type 0) (In : A → ℕ → Type 0) (its its₁ : List Rec) (X : ℕ → Type 0) : Type 0 where
  pub nest : Nest v In its₁
  pub kept : (i : ℕ) → X i → R (view v its i) (view v its₁ i)

-- who is still there before c itself is taken out
abbrev pub Stays₁ : Capability → ℕ → ℕ → Type 0
Stays₁ cap-in b i = Unit {0}
Stays₁ cap-out b i = Unit {0}
Stays₁ cap-open b i = i ≢ b

stays₁ : (k : Capability) (c b i : ℕ) → Stays k c b i → (i ≢ c) × Stays₁ k b i
stays₁ cap-in c b i s = (s, tt)
stays₁ cap-out c b i s = (s, tt)
stays₁ cap-open c b i s = s

module _ {A : Type 0} {v : View A} {R : A → A → Type 0} {In : A → ℕ → Type 0} (n : Nesting v R In) (mono : (its : List Rec) → WellFormed its → Nest v In its → Mono v R its)
    {permit : Permit} {its : List Rec} (wf : WellFormed its) (nest : Nest v In its) {c b : ℕ} where
  first-moved : (k : Capability) → Done permit k its c b → Gives v R In k its c b → Moved v R In its (halfway k its c b) (Stays₁ k b)
  first-moved cap-in d g = record {
    nest = put-nest n.order In n.more wf (mono its wf nest) nest (parent_of its c) b (in-live wf d) (in-place-wf wf d) g.0 g.1;
    kept = λ i _. put_view n.order wf (mono its wf nest) (parent_of its c) b (in-live wf d) (in-place-wf wf d) g.1 i;
  }
  first-moved cap-out d g = record {
    nest = put-nest n.order In n.more wf (mono its wf nest) nest (parent_of its c) (parent_of its b) (out-live wf d) (out-place-wf wf d) g.0 g.1;
    kept = λ i _. put_view n.order wf (mono its wf nest) (parent_of its c) (parent_of its b) (out-live wf d) (out-place-wf wf d) g.1 i;
  }
  first-moved cap-open d g = record {
    nest = out-nest n.order In n.more wf (mono its wf nest) nest b (partner-pos wf cap-open d) g;
    kept = out-view n.order wf (mono its wf nest) b (partner-pos wf cap-open d) g;
  }

  pub move-moved : (k : Capability) → Done permit k its c b → Gives v R In k its c b → Moved v R In its (move k its c b) (Stays k c b)
  move-moved k d g = rw (move-first k its c b) (record {
    nest = out-nest n.order In n.more wf₁ (mono _ wf₁ m.nest) m.nest c z cross;
    kept = λ i s. let w = stays₁ k c b i s in n.order.tr (m.kept i w.1) (out-view n.order wf₁ (mono _ wf₁ m.nest) c z cross i w.0);
  })
    where
      m : Moved v R In its (halfway k its c b) (Stays₁ k b)
      m = first-moved k d g

      wf₁ : WellFormed (halfway k its c b)
      wf₁ = first-wf wf k d

      z : c ≢ 0
      z = cap-pos wf k d

      cross : R (view v (halfway k its c b) c) (view v (halfway k its c b) (parent_of (halfway k its c b) c))
      cross = rw (view-on v wf₁ c z, n.through _ _ (view v (halfway k its c b) (parent_of (halfway k its c b) c)) (first-cap wf k d)) (n.order.rr _)
