-- Itineraries that validation passes, as records: what taking a record out and giving it another parent keep.
use Rattle.std.specs.Prelude.{◌<◌, ◌≤◌, suc, ℕ, leb, length, Bool, false, List, ◌≢◌, ◌≡◌, ◌&&◌}
use Rattle.std.proofs.Common.{eqb-true, leb-true, true≢false, ◌∙◌, ap, sym, arith}
use Rattle.std.proofs.Math.Bool.{true}
use Rattle.std.proofs.Math.Decide.{dec_le, ℕ_discrete}
use Rattle.model.proofs.Laws.Booleans.{and_left, and_right}
use Rattle.model.proofs.Laws.Forest.{Depth, Follows, depth-along, depth_le, follows, not-own-parent, past, reparent-depth, reparent-high, root, under_of}
use Rattle.model.proofs.Laws.Updates.{at-over, at-root, dissolve-moved, dissolve-self, dissolve-stays, place_other, place-self}
use Rattle.model.specs.Records.{at, gone, is_ambient, nested, parent_of}
use Rattle.model.specs.Steps.{dissolve, place, to}
use Rattle.model.specs.Validity.{client_right, kind_right, label_by, label_in, label_right, name_by, name_right, shape}
use Rattle.model.specs.declared.Rec.{Rec}

pub record WellFormed (its : List Rec) : Type 0 where
  pub parents : (i : ℕ) → parent_of its i ≢ 0 → (at its (parent_of its i)).kind ≢ 0
  pub gones : (i : ℕ) → (at its i).kind ≡ 0 → at its i ≡ gone
  pub shaped : (i : ℕ) → shape (at its i) ≡ true
  pub reach : (i : ℕ) → (d : ℕ) × Depth (parent_of its) i d

pub label_small : (t : Bool) (l : ℕ) → label_in t l ≡ true → t ≡ true → l < 64
unfolding label_in
label_small true l h e = omega (arith, leb-true l 63 (and_right (leb 1 l) _ h))
label_small false l h e = absurd (true≢false (sym e))

pub label-in : (t : Bool) (l : ℕ) → label_in t l ≡ true → l < 128
unfolding label_in
label-in true l h = omega (arith, leb-true l 63 (and_right (leb 1 l) _ h))
label-in false l h = omega (arith, leb-true l 127 (and_right (leb 64 l) _ h))

pub shape-labelled : (r : Rec) → shape r ≡ true → label_right r ≡ true
unfolding shape
shape-labelled r h = and_left _ (name_right r && client_right r) (and_right (kind_right r) _ h)

pub shape-named : (r : Rec) → shape r ≡ true → name_right r ≡ true
unfolding shape
shape-named r h = and_left _ (client_right r) (and_right (label_right r) _ (and_right (kind_right r) _ h))

pub shape-client : (r : Rec) → shape r ≡ true → client_right r ≡ true
unfolding shape
shape-client r h = and_right (name_right r) _ (and_right (label_right r) _ (and_right (kind_right r) _ h))

pub shape-make : (r : Rec) → kind_right r ≡ true → label_right r ≡ true → name_right r ≡ true → client_right r ≡ true → shape r ≡ true
unfolding shape
shape-make r k l n c = rw (k, l, n, c)

pub shape-label : (r : Rec) → shape r ≡ true → nested r ≡ true → label_in (is_ambient r) r.label ≡ true
unfolding label_right label_by
shape-label r h n = rw (n, label_by) at (shape-labelled r h)

pub amb-nested : (r : Rec) → is_ambient r ≡ true → nested r ≡ true
unfolding is_ambient nested
amb-nested r h = rw (eqb-true r.kind 1 h)

pub nested-alive : (r : Rec) → nested r ≡ true → r.kind ≢ 0
unfolding nested
nested-alive r h e = omega (arith, leb-true 1 r.kind (and_left _ _ h))

pub name-by : (t : Bool) (n : ℕ) → name_by t n ≡ true → n < 64
unfolding name_by
name-by true n h = omega (arith, leb-true n 63 h)
name-by false n h = omega (arith, eqb-true n 0 h)

label-not-zero : (t : Bool) (l : ℕ) → label_in t l ≡ true → l ≢ 0
unfolding label_in
label-not-zero true l h e = omega (arith, leb-true 1 l (and_left _ _ h))
label-not-zero false l h e = omega (arith, leb-true 64 l (and_left _ _ h))

pub label-by : (n a : Bool) (l : ℕ) → label_by n a l ≡ true → l < 128
unfolding label_by
label-by true a l h = label-in a l h
label-by false a l h = omega (arith, eqb-true l 0 h)

module _ {its : List Rec} (wf : WellFormed its) where
  pub small : (i : ℕ) → is_ambient (at its i) ≡ true → (at its i).label < 64
  small i h = label_small _ _ (shape-label (at its i) (wf.shaped i) (amb-nested _ h)) h

  pub labels : (i : ℕ) → (at its i).label < 128
  unfolding label_right
  labels i = label-by _ _ _ (shape-labelled (at its i) (wf.shaped i))

  pub named : (i : ℕ) → (at its i).name < 64
  unfolding name_right
  named i = name-by _ _ (shape-named (at its i) (wf.shaped i))

  pub label-pos : (i : ℕ) → nested (at its i) ≡ true → (at its i).label ≢ 0
  label-pos i n e = label-not-zero _ _ (shape-label (at its i) (wf.shaped i) n) e

abbrev pub Alive : List Rec → ℕ → Type 0
Alive its i = (at its i).kind ≢ 0

module _ (its : List Rec) where
  pub alive-pos : (i : ℕ) → Alive its i → i ≢ 0
  alive-pos i h e = h (rw (e, at-root its))

  pub alive-in : (i : ℕ) → Alive its i → i ≤ length its
  alive-in i h = go (dec_le i (length its))
    where
      go : Dec (i ≤ length its) → i ≤ length its
      go (yes l) = l
      go (no l) = absurd (h (rw (at-over its i (omega arith))))

module _ {its : List Rec} (wf : WellFormed its) where
  pub parent_in : (i : ℕ) → parent_of its i ≤ length its
  parent_in i = go (ℕ_discrete (parent_of its i) 0)
    where
      go : Dec (parent_of its i ≡ 0) → parent_of its i ≤ length its
      go (yes e) = omega arith
      go (no e) = alive-in its (parent_of its i) (wf.parents i e)

  pub depths : (i : ℕ) → (d : ℕ) × (d ≤ suc (length its)) × Depth (parent_of its) i d
  depths i = go (dec_le i (length its))
    where
      go : Dec (i ≤ length its) → (d : ℕ) × (d ≤ suc (length its)) × Depth (parent_of its) i d
      go (yes l) = let w = wf.reach i in (w.0, omega (arith, depth_le (length its) parent_in l w.1), w.1)
      go (no l) = (1, omega arith, under_of (λ u. omega arith) (ap (λ r. r.parent) (at-over its i (omega arith))) root)

  pub parent-not-self : (i : ℕ) → i ≢ 0 → parent_of its i ≢ i
  parent-not-self i z = not-own-parent (wf.reach i).1 z

-- what a record says but for its parent
pub record SameBut (r r' : Rec) : Type 0 where
  pub kind : r'.kind ≡ r.kind
  pub label : r'.label ≡ r.label
  pub name : r'.name ≡ r.name
  pub client : r'.client ≡ r.client

pub same_shape : {r r' : Rec} → SameBut r r' → shape r' ≡ shape r
unfolding shape label_right kind_right name_right client_right nested is_ambient
same_shape s = rw (s.kind, s.label, s.name, s.client)

pub same-nested : {r r' : Rec} → SameBut r r' → nested r' ≡ nested r
unfolding nested
same-nested s = rw s.kind

pub same_of : {r r' : Rec} → r' ≡ r → SameBut r r'
same_of e = record { kind = ap (λ r. r.kind) e; label = ap (λ r. r.label) e; name = ap (λ r. r.name) e; client = ap (λ r. r.client) e }

pub same-to : {r r' : Rec} (q : ℕ) → r' ≡ to q r → SameBut r r'
same-to q e = record { kind = ap (λ r. r.kind) e; label = ap (λ r. r.label) e; name = ap (λ r. r.name) e; client = ap (λ r. r.client) e }

-- what becomes of record i where x is taken out
pub data Out (its : List Rec) (x i : ℕ) : Type 0 where
  itself : i ≡ x → at (dissolve x its) i ≡ gone → Out its x i
  moved : i ≢ x → parent_of its i ≡ x → at (dissolve x its) i ≡ to (parent_of its x) (at its i) → Out its x i
  stays : i ≢ x → parent_of its i ≢ x → at (dissolve x its) i ≡ at its i → Out its x i

pub out : (its : List Rec) (x : ℕ) → x ≢ 0 → (i : ℕ) → Out its x i
out its x z i = go (ℕ_discrete i x) (ℕ_discrete (parent_of its i) x)
  where
    go : Dec (i ≡ x) → Dec (parent_of its i ≡ x) → Out its x i
    go (yes e) _ = itself e (ap (λ j. at (dissolve x its) j) e ∙ dissolve-self x its z)
    go (no e) (yes f) = moved e f (dissolve-moved x its z i e f)
    go (no e) (no f) = stays e f (dissolve-stays x its z i e f)

module _ {its : List Rec} (wf : WellFormed its) (x : ℕ) (z : x ≢ 0) where
  pub dissolve-same : (i : ℕ) → i ≢ x → SameBut (at its i) (at (dissolve x its) i)
  dissolve-same i h = go (out its x z i)
    where
      go : Out its x i → SameBut (at its i) (at (dissolve x its) i)
      go (itself e q) = absurd (h e)
      go (moved e f q) = same-to _ q
      go (stays e f q) = same_of q

  pub dissolve-alive : (i : ℕ) → i ≢ x → Alive its i → Alive (dissolve x its) i
  dissolve-alive i h a = rw (dissolve-same i h).kind a

  pub dissolve-parent-moved : (i : ℕ) → i ≢ x → parent_of its i ≡ x → parent_of (dissolve x its) i ≡ parent_of its x
  dissolve-parent-moved i h e = ap (λ r. r.parent) (dissolve-moved x its z i h e)

  pub dissolve-parent-stays : (i : ℕ) → i ≢ x → parent_of its i ≢ x → parent_of (dissolve x its) i ≡ parent_of its i
  dissolve-parent-stays i h e = ap (λ r. r.parent) (dissolve-stays x its z i h e)

  dissolve-parents : (i : ℕ) → parent_of (dissolve x its) i ≢ 0 → Alive (dissolve x its) (parent_of (dissolve x its) i)
  dissolve-parents i n = go (out its x z i)
    where
      go : Out its x i → Alive (dissolve x its) (parent_of (dissolve x its) i)
      go (itself e q) = absurd (n (ap (λ r. r.parent) q))
      go (moved e f q) = rw (dissolve-parent-moved i e f) (dissolve-alive (parent_of its x) (parent-not-self wf x z) (wf.parents x (rw (dissolve-parent-moved i e f) at n)))
      go (stays e f q) = rw (dissolve-parent-stays i e f) (dissolve-alive (parent_of its i) f (wf.parents i (rw (dissolve-parent-stays i e f) at n)))

  dissolve-gones : (i : ℕ) → (at (dissolve x its) i).kind ≡ 0 → at (dissolve x its) i ≡ gone
  dissolve-gones i k = go (out its x z i)
    where
      go : Out its x i → at (dissolve x its) i ≡ gone
      go (itself e q) = q
      go (moved e f q) = absurd (z (sym f ∙ ap (λ r. r.parent) (wf.gones i (rw q at k))))
      go (stays e f q) = q ∙ wf.gones i (rw q at k)

  pub dissolve-follows : (i : ℕ) → i ≢ x → Follows (parent_of its) (parent_of (dissolve x its)) (λ j. j) x i
  dissolve-follows i h = go (ℕ_discrete (parent_of its i) x)
    where
      go : Dec (parent_of its i ≡ x) → Follows (parent_of its) (parent_of (dissolve x its)) (λ j. j) x i
      go (yes e) = past e (dissolve-parent-moved i h e)
      go (no e) = follows (dissolve-parent-stays i h e)

  pub dissolve-closed : (i : ℕ) → i ≢ x → parent_of (dissolve x its) i ≢ x
  dissolve-closed i h = go (ℕ_discrete (parent_of its i) x)
    where
      go : Dec (parent_of its i ≡ x) → parent_of (dissolve x its) i ≢ x
      go (yes e) = rw (dissolve-parent-moved i h e) (parent-not-self wf x z)
      go (no e) = rw (dissolve-parent-stays i h e) e

  dissolve-reach : (i : ℕ) → (d : ℕ) × Depth (parent_of (dissolve x its)) i d
  dissolve-reach i = go (ℕ_discrete i x)
    where
      go : Dec (i ≡ x) → (d : ℕ) × Depth (parent_of (dissolve x its)) i d
      go (yes e) = (1, under_of (rw e z) (rw e (ap (λ r. r.parent) (dissolve-self x its z))) root)
      go (no e) = let w = wf.reach i in
          depth-along z (λ j h. h) (λ j. j ≢ x) dissolve-closed dissolve-follows w.0 (omega arith) e w.1

  dissolve-shaped : (i : ℕ) → shape (at (dissolve x its) i) ≡ true
  unfolding shape label_right kind_right name_right client_right nested label_by name_by
  dissolve-shaped i = go (ℕ_discrete i x)
    where
      go : Dec (i ≡ x) → shape (at (dissolve x its) i) ≡ true
      go (yes e) = rw (e, dissolve-self x its z)
      go (no e) = same_shape (dissolve-same i e) ∙ wf.shaped i

  pub dissolve-wf : WellFormed (dissolve x its)
  dissolve-wf = record { parents = dissolve-parents; gones = dissolve-gones; shaped = dissolve-shaped; reach = dissolve-reach }

module _ {its : List Rec} (wf : WellFormed its) (a t : ℕ) (live : Alive its a) where
  az : a ≢ 0
  az = alive-pos its a live

  pub place_at : at (place a t its) a ≡ to t (at its a)
  place_at = place-self a t its az (alive-in its a live)

  pub place_same : (i : ℕ) → SameBut (at its i) (at (place a t its) i)
  place_same i = go (ℕ_discrete i a)
    where
      go : Dec (i ≡ a) → SameBut (at its i) (at (place a t its) i)
      go (yes e) = rw e (same-to t place_at)
      go (no e) = same_of (place_other a t its i e)

  pub place-parent : parent_of (place a t its) a ≡ t
  place-parent = ap (λ r. r.parent) place_at

  pub place-parent-other : (i : ℕ) → i ≢ a → parent_of (place a t its) i ≡ parent_of its i
  place-parent-other i e = ap (λ r. r.parent) (place_other a t its i e)

  pub place-alive : (i : ℕ) → Alive its i → Alive (place a t its) i
  place-alive i h = rw (place_same i).kind h

  place-parents : (t ≢ 0 → Alive its t) → (i : ℕ) → parent_of (place a t its) i ≢ 0 → Alive (place a t its) (parent_of (place a t its) i)
  place-parents tl i n = go (ℕ_discrete i a)
    where
      go : Dec (i ≡ a) → Alive (place a t its) (parent_of (place a t its) i)
      go (yes e) = rw (e, place-parent) (place-alive t (tl (rw (e, place-parent) at n)))
      go (no e) = rw (place-parent-other i e) (place-alive (parent_of its i) (wf.parents i (rw (place-parent-other i e) at n)))

  place-gones : (i : ℕ) → (at (place a t its) i).kind ≡ 0 → at (place a t its) i ≡ gone
  place-gones i k = go (ℕ_discrete i a)
    where
      go : Dec (i ≡ a) → at (place a t its) i ≡ gone
      go (yes e) = absurd (live (sym (place_same a).kind ∙ (rw e at k)))
      go (no e) = place_other a t its i e ∙ wf.gones i (rw (place_same i).kind at k)

  -- the new parent of a: t climbs to the root in the new forest
  pub place-wf : (t ≢ 0 → Alive its t) → (e : ℕ) × Depth (parent_of (place a t its)) t e → WellFormed (place a t its)
  place-wf tl w = record {
    parents = place-parents tl;
    gones = place-gones;
    shaped = λ i. same_shape (place_same i) ∙ wf.shaped i;
    reach = λ i. reparent-depth place-parent place-parent-other az w.1 (wf.reach i).1;
  }

  -- what stands higher than a in the old forest keeps its way
  pub place-high : {j e d : ℕ} → Depth (parent_of its) a d → Depth (parent_of its) j e → e < d → Depth (parent_of (place a t its)) j e
  place-high = reparent-high place-parent place-parent-other
