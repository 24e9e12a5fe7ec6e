-- A way grows at its end by the number above; what a view finds at its numbers is noted from its top back.
use Rattle.std.specs.Prelude.{◌*◌, ◌+◌, ◌-◌, ◌<◌, ◌≤◌, suc, zero, ℕ, get_or, length, replicate, set, false, is_some, IfSome, List, Option, None, Some, ◌≢◌, ◌≡◌, refl}
use Rattle.std.proofs.Common.{true≢false, length-set, get_or-set_other, get_or-set_same, ◌∙◌, ap, sym, add-one, arith}
use Rattle.std.proofs.lemmas.List.{get_or_default, get_or-replicate, length-replicate}
use Rattle.std.proofs.Math.Decide.{ℕ_discrete}
use Rattle.model.specs.Climbing.{View, climb, view, view_from}
use Rattle.model.proofs.Laws.Bytes.{at-whole, length-records}
use Rattle.model.proofs.Laws.Forest.{Depth, above, depth_le, root, under_of}
use Rattle.model.proofs.Laws.Views.{from_more, from_on, from-top}
use Rattle.model.specs.Records.{at, count, decode, parent_of, records}
use Rattle.model.specs.declared.Rec.{Rec}
use Rattle.ways.specs.Ways.{Bounded, Finding, Leads, Lost, Noted, Noting, Parented, Passable, Starts, Viewable}
use Rattle.ways.specs.declared.Way.{Way}

-- one climb more, at the end
pub climb-end : (p : ℕ → ℕ) (k i : ℕ) → climb p (suc k) i ≡ p (climb p k i)
climb-end p zero i = refl
climb-end p (suc k) i = climb-end p k (p i)

-- the numbers of a way so far, and the number above them
pub record Going (s : List ℕ) (i : ℕ) (numbers : List ℕ) (len top : ℕ) : Type 0 where
  pub some : 1 ≤ len
  pub few : len ≤ 32
  pub size : length numbers ≡ 32
  pub at : (k : ℕ) → k < len → get_or numbers k 0 ≡ climb (parent_of (records s)) k i
  pub records-all : (k : ℕ) → k < len → (1 ≤ climb (parent_of (records s)) k i) × (climb (parent_of (records s)) k i ≤ count s)
  pub above : top ≡ climb (parent_of (records s)) len i
  pub inside : top ≤ count s

module _ {s : List ℕ} (c : Bounded s) where
  -- the parent read is the number above
  pub parent-read : (j q : ℕ) → q ≡ (decode s j).parent → q ≡ parent_of (records s) j
  parent-read j q e = e ∙ sym (ap (λ r. r.parent) (at-whole s c.whole j))

  pub parent-inside : (j q : ℕ) → q ≡ (decode s j).parent → q ≤ count s
  parent-inside j q e = rw (parent-read j q e) (c.parents j)

  pub going_start : {i : ℕ} {w : Way} → Starts s i w → Going s i w.numbers w.len w.top
  going_start {i} {w} b = record {
    some = omega (arith, b.one);
    few = omega (arith, b.one);
    size = b.size;
    at = λ k h. first k (rw b.one at h);
    records-all = λ k h. own k (rw b.one at h);
    above = rw b.one (parent-read i w.top b.above);
    inside = parent-inside i w.top b.above;
  }
    where
      first : (k : ℕ) → k < 1 → get_or w.numbers k 0 ≡ climb (parent_of (records s)) k i
      first zero h = b.first
      first (suc k) h = absurd (omega arith)

      own : (k : ℕ) → k < 1 → (1 ≤ climb (parent_of (records s)) k i) × (climb (parent_of (records s)) k i ≤ count s)
      own zero h = (b.some, b.inside)
      own (suc k) h = absurd (omega arith)

  pub going_next : {i : ℕ} {numbers : List ℕ} {len top q : ℕ} → len < 32 → Going s i numbers len top → 1 ≤ top → q ≡ (decode s top).parent →
      Going s i (set numbers len top) (len + 1) q
  going_next {i} {numbers} {len} {top} {q} l g o e = record {
    some = omega arith;
    few = omega arith;
    size = simp length-set g.size;
    at = λ k h. here k h (ℕ_discrete k len);
    records-all = λ k h. own k h (ℕ_discrete k len);
    above = parent-read top q e ∙ ap (parent_of (records s)) g.above ∙ sym (climb-end (parent_of (records s)) len i) ∙ ap (λ (n : ℕ). climb (parent_of (records s)) n i) (sym (add-one len));
    inside = parent-inside top q e;
  }
    where
      here : (k : ℕ) → k < len + 1 → Dec (k ≡ len) → get_or (set numbers len top) k 0 ≡ climb (parent_of (records s)) k i
      here k h (yes y) = ap (λ (x : ℕ). get_or (set numbers len top) x 0) y ∙ get_or-set_same numbers len top 0 (omega (arith, g.size)) ∙ g.above ∙ ap (λ (x : ℕ). climb (parent_of (records s)) x i) (sym y)
      here k h (no n) = get_or-set_other numbers len k top 0 n ∙ g.at k (omega (arith, n))

      own : (k : ℕ) → k < len + 1 → Dec (k ≡ len) → (1 ≤ climb (parent_of (records s)) k i) × (climb (parent_of (records s)) k i ≤ count s)
      own k h (yes y) =
          let w : climb (parent_of (records s)) k i ≡ top = ap (λ (x : ℕ). climb (parent_of (records s)) x i) y ∙ sym g.above in
          (rw w o, rw w g.inside)
      own k h (no n) = g.records-all k (omega (arith, n))

module _ {s : List ℕ} (c : Parented s) where
  pub bounded : Bounded s
  bounded = record { whole = c.whole; parents = c.parents }

  pub few-records : count s ≤ 1024
  unfolding count
  few-records = omega (arith, c.few)

pub label-few : {s : List ℕ} → Viewable s → (j : ℕ) (r : Rec) → r ≡ decode s j → r.kind ≡ 1 → r.label < 64
label-few c j r e h = rw e (c.labels j (sym (ap (λ x. x.kind) e) ∙ h))

-- a note that is read as none is none
pub no-note : {A : Type 0} {s : List ℕ} {notes : List (Option A)} → Passable s notes → (top : ℕ) → top ≤ count s → (o : Option A) → o ≡ get_or notes top o → is_some o ≡ false → get_or notes top None ≡ None
no-note {notes = notes} c top l None e f = sym e
no-note {notes = notes} c top l (Some x) e f = absurd (true≢false f)

-- a note that is read is there
pub noted-there : {A : Type 0} {s : List ℕ} {notes : List (Option A)} → Passable s notes → (j : ℕ) → j ≤ count s → (d : Option A) → {x : A} → get_or notes j d ≡ Some x → get_or notes j None ≡ Some x
noted-there {notes = notes} c j l d e = get_or_default notes j None d (omega (arith, l, c.room)) ∙ e

-- a number without a note is a record
pub unset-record : {A : Type 0} {s : List ℕ} {notes : List (Option A)} → Passable s notes → (top : ℕ) → get_or notes top None ≡ None → 1 ≤ top
unset-record c zero e = absurd (c.root e)
unset-record c (suc top) e = omega arith

-- a way that ends
pub going_end : {s : List ℕ} {i : ℕ} {numbers : List ℕ} {len top : ℕ} → Going s i numbers len top → Leads s i (record { numbers = numbers; len = len; top = top })
going_end g = record { some = g.some; few = g.few; size = g.size; at = g.at; records-all = g.records-all; top = g.above; top-inside = g.inside }

-- a record within the count is whole
pub whole_in : (s : List ℕ) (i : ℕ) → i ≤ count s → 8 * i ≤ length s
unfolding count
whole_in s i l = omega (arith, l)

-- climbing from the start of a way comes to its top, as many climbs up as it has numbers
module _ {s : List ℕ} {i : ℕ} {w : Way} (g : Leads s i w) where
  depth-way : {d : ℕ} → Depth (parent_of (records s)) i d → (k : ℕ) → k ≤ w.len → (k ≤ d) × Depth (parent_of (records s)) (climb (parent_of (records s)) k i) (d - k)
  depth-way {d} r zero l = let u : d - 0 ≡ d = omega arith in (omega arith, rw u r)
  depth-way {d} r (suc k) l =
      let h = depth-way r k (omega arith) in
      let a = above h.1 (λ e. omega (arith, (g.records-all k (omega arith)).0, e)) in
      let u : d - suc k ≡ a.0 = omega (arith, a.1) in
      (omega (arith, h.0, a.1), rw (u, climb-end (parent_of (records s)) k i) a.2)

  pub lost-short : {left : ℕ} → left < w.len → Lost s left i
  lost-short l d m r = omega (arith, (depth-way r w.len (omega arith)).0)

  pub lost-above : {left : ℕ} → w.len ≤ left → Lost s (left - w.len) w.top → Lost s left i
  lost-above l h d m r = let u = depth-way r w.len (omega arith) in h (d - w.len) (omega arith) (rw g.top u.1)

module _ {A : Type 0} (v : View A) {s : List ℕ} (c : Parented s) where
  pub finding-root : Finding v s 0 v.top
  unfolding view
  finding-root = record { depth = 0; reaches = root; is = sym (from-top v (records s) (suc (length (records s)))) }

  -- at record j, which is r, by what is found at its parent
  pub finding-next : (j : ℕ) → 1 ≤ j → (r : Rec) → r ≡ decode s j → (q : ℕ) → q ≡ parent_of (records s) j → {x : A} → Finding v s q x → Finding v s j (v.make j r x)
  unfolding view
  finding-next j l r e q f {x} w =
      let its = records s in
      let z : j ≢ 0 = λ u. omega (arith, u) in
      let m : length its ≡ count s = length-records s in
      let here : at its j ≡ r = at-whole s c.whole j ∙ sym e in
      let at_parent : Depth (parent_of its) (parent_of its j) w.depth = rw (← f) w.reaches in
      let few : w.depth ≤ length its = depth_le (length its) (λ k. rw m (c.parents k)) (rw m (c.parents j)) at_parent in
      record {
        depth = suc w.depth;
        reaches = under_of z (sym f) w.reaches;
        is =
            ap (v.make j r) (w.is ∙ ap (λ (k : ℕ). view_from v its (suc (length its)) k) f ∙ from_more v its (length its) at_parent few)
            ∙ ap (λ (y : Rec). v.make j y (view_from v its (length its) (parent_of its j))) (sym here)
            ∙ sym (from_on v its (length its) j z);
      }

-- notes, one more and several
module _ {A : Type 0} {v : View A} {s : List ℕ} where
  pub noted-none : {notes : List (Option A)} → Noting v s notes → Noted v s notes notes
  noted-none n = record { noting = n; stays = λ j h. h; past = λ j l. refl }

  pub noted-then : {a b c : List (Option A)} → Noted v s a b → Noted v s b c → Noted v s a c
  noted-then m n = record { noting = n.noting; stays = λ j h. n.stays j (m.stays j h); past = λ j l. n.past j l ∙ m.past j l }

  module _ {notes : List (Option A)} (n : Noting v s notes) (j : ℕ) (l : j ≤ count s) (x : A) (f : Finding v s j x) where
    pub note-here : get_or (set notes j (Some x)) j None ≡ Some x
    note-here = get_or-set_same notes j (Some x) None (omega (arith, l, n.passable.room))

    note-other : (k : ℕ) → k ≢ j → get_or (set notes j (Some x)) k None ≡ get_or notes k None
    note-other k q = get_or-set_other notes j k (Some x) None q

    note-stays : (k : ℕ) → get_or notes k None ≢ None → get_or (set notes j (Some x)) k None ≢ None
    note-stays k h = go (ℕ_discrete k j)
      where
        go : Dec (k ≡ j) → get_or (set notes j (Some x)) k None ≢ None
        go (yes q) u = let e : ◌≡◌ {A = Option A} (Some x) None = sym note-here ∙ ap (λ (y : ℕ). get_or (set notes j (Some x)) y None) (sym q) ∙ u in cc
        go (no q) u = h (sym (note-other k q) ∙ u)

    pub note-more : Noted v s notes (set notes j (Some x))
    note-more = record {
      noting = record { viewable = n.viewable; passable = record { bounded = n.passable.bounded; room = simp length-set n.passable.room; root = note-stays 0 n.passable.root }; told = λ k y m h. go k y m h (ℕ_discrete k j) };
      stays = note-stays;
      past = λ k m. note-other k (λ q. omega (arith, q, m, l));
    }
      where
        go : (k : ℕ) (y : A) → k ≤ count s → get_or (set notes j (Some x)) k None ≡ Some y → Dec (k ≡ j) → Finding v s k y
        go k y m h (yes q) = let e : ◌≡◌ {A = Option A} (Some x) (Some y) = sym note-here ∙ ap (λ (u : ℕ). get_or (set notes j (Some x)) u None) (sym q) ∙ h in
            let u : x ≡ y = cc in rw (q, ← u) f
        go k y m h (no q) = n.told k y m (sym (note-other k q) ∙ h)

-- the numbers from the k-th of a way on are noted, and found is what the view finds at the k-th
pub record Back {A : Type 0} (v : View A) (s : List ℕ) (notes₀ : List (Option A)) (i len : ℕ) (notes : List (Option A)) (found : A) (k : ℕ) : Type 0 where
  pub most : k ≤ len
  pub long : length notes ≡ length notes₀
  pub is : Finding v s (climb (parent_of (records s)) k i) found
  pub noted : Noted v s notes₀ notes
  pub done : k < len → get_or notes (climb (parent_of (records s)) k i) None ≡ Some found

module _ {A : Type 0} {v : View A} {s : List ℕ} {notes₀ : List (Option A)} {i : ℕ} {w : Way} (g : Leads s i w) where
  pub back_start : {above : A} → Noting v s notes₀ → Finding v s w.top above → Back v s notes₀ i w.len notes₀ above w.len
  back_start n f = record {
    most = omega arith;
    long = refl;
    is = rw (← g.top) f;
    noted = noted-none n;
    done = λ h. absurd (omega arith);
  }

  module _ {notes : List (Option A)} {found : A} {k : ℕ} (b : Back v s notes₀ i w.len notes found k) (p : 0 < k) where
    pub back_inside : get_or w.numbers (k - 1) 0 ≤ count s
    back_inside = rw (g.at (k - 1) (omega (arith, b.most))) (g.records-all (k - 1) (omega (arith, b.most))).1

    pub back-record : 1 ≤ get_or w.numbers (k - 1) 0
    back-record = rw (g.at (k - 1) (omega (arith, b.most))) (g.records-all (k - 1) (omega (arith, b.most))).0

    pub back-next : (r : Rec) → r ≡ decode s (get_or w.numbers (k - 1) 0) → (x : A) → x ≡ v.make (get_or w.numbers (k - 1) 0) r found →
        Back v s notes₀ i w.len (set notes (get_or w.numbers (k - 1) 0) (Some x)) x (k - 1)
    back-next r e x f =
        let j = get_or w.numbers (k - 1) 0 in
        let q : j ≡ climb (parent_of (records s)) (k - 1) i = g.at (k - 1) (omega (arith, b.most)) in
        let u : suc (k - 1) ≡ k = omega arith in
        let above : climb (parent_of (records s)) k i ≡ parent_of (records s) j = ap (λ (n : ℕ). climb (parent_of (records s)) n i) (sym u) ∙ climb-end (parent_of (records s)) (k - 1) i ∙ ap (parent_of (records s)) (sym q) in
        let value : Finding v s j x = rw f (finding-next v b.noted.noting.viewable.parented j back-record r e _ above b.is) in
        record {
          most = omega (arith, b.most);
          long = simp length-set b.long;
          is = rw (← q) value;
          noted = noted-then b.noted (note-more b.noted.noting j back_inside x value);
          done = λ h. rw (← q) (note-here b.noted.noting j back_inside x value);
        }

  pub back_end : {notes : List (Option A)} {found : A} {k : ℕ} → Back v s notes₀ i w.len notes found k → k ≡ 0 → (Noted v s notes₀ notes) × (get_or notes i None ≡ Some found)
  back_end {notes} {found} b e = (b.noted, rw e at (b.done (omega (arith, g.some, e))))

-- before the first climb the environment alone has a note
pub noting-root : {A : Type 0} (v : View A) {s : List ℕ} → Viewable s → Noting v s (set (replicate 1025 None) 0 (Some v.top))
noting-root {A} v {s} c = record {
  viewable = c;
  passable = record { bounded = bounded c.parented; room = simp length-set (rw length-replicate (omega (arith, few-records c.parented))); root = λ e. let u : ◌≡◌ {A = Option A} (Some v.top) None = e in cc };
  told = λ j x l e. go j x l e (ℕ_discrete j 0);
}
  where
    go : (j : ℕ) (x : A) → j ≤ count s → get_or (set (replicate {A = Option A} 1025 None) 0 (Some v.top)) j None ≡ Some x → Dec (j ≡ 0) → Finding v s j x
    go j x l e (yes q) = let h : ◌≡◌ {A = Option A} (Some v.top) (Some x) = rw q at e in let u : v.top ≡ x = cc in rw (q, ← u) (finding-root v c.parented)
    go j x l e (no q) =
        let n : List (Option A) = replicate 1025 None in
        let h : ◌≡◌ {A = Option A} None (Some x) = sym (get_or-replicate {A = Option A} 1025 j None None (omega (arith, l, few-records c.parented))) ∙ sym (get_or-set_other n 0 j (Some v.top) None q) ∙ e in cc

-- what is found is what the view finds there
pub found-is : {A : Type 0} {v : View A} {s : List ℕ} {notes₀ notes : List (Option A)} → Noted v s notes₀ notes → (i : ℕ) → i ≤ count s → (o : Option A) → IfSome o (λ x. get_or notes i None ≡ Some x) → {x : A} → o ≡ Some x → Finding v s i x
found-is n i l (Some y) h {x} e = let u : y ≡ x = cc in rw (← u) (n.noting.told i y l h)
found-is n i l None h {x} e = let u : ◌≡◌ {A = ℕ} 0 1 = cc in absurd (omega arith)
