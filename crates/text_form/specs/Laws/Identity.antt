-- Text to bytes to text is the identity on what is written, and what is read is valid.
use Prim.Native.Nat.{◌+◌, ◌-◌, ◌<◌, ◌≤◌, suc, zero, ℕ}
use Rattle.std.proofs.lemmas.Bool.{eqb-false, not-true}
use Rattle.std.proofs.Common.{le-leb, leb-true, get_or-set_other, get_or-set_same, ◌∙◌, sym, arith}
use Rattle.std.specs.Prelude.{eqb, leb, get_or, set, Bool, false, true, List, [], ◌∷◌, map, ◌≢◌, ◌≡◌}
use Rattle.std.proofs.Math.ListN.{length, length-map}
use Rattle.std.proofs.Math.Seq.{set_out}
use Rattle.std.specs.Prelude.{Option, None, Some, Ok}
use Rattle.std.proofs.Math.Path.{ap, refl}
use Rattle.std.proofs.Math.Decide.{dec_lt, ℕ_discrete}
use Rattle.model.proofs.Laws.Bytes.{count-encode, length-records, records-encode, shape-kind, valid-few, valid-wf, wf-valid}
use Rattle.model.proofs.Laws.Finite.{lowest-some}
use Rattle.model.proofs.Laws.Forest.{Depth, root, under_of}
use Rattle.model.proofs.Laws.Updates.{at-over}
use Rattle.model.proofs.Laws.WellFormed.{WellFormed, shape-client, shape-labelled, shape-make, shape-named}
use Rattle.model.specs.Validity.{client_right, kind_right, label_by, label_right, name_by, name_right, shape, validity}
use Rattle.model.proofs.Laws.Booleans.{and_left}
use Rattle.model.specs.Records.{at, count, encode, gone, is_ambient, nested, parent_of, records}
use Rattle.model.specs.Refusals.{content, pass}
use Rattle.model.specs.declared.Rec.{Rec}
use Rattle.text_put.specs.Puts.{over}
use Rattle.text_form.specs.Laws.Lines.{scan-nested, scan-render}
use Rattle.text_form.specs.Laws.Nesting.{Nested, Right, byte-ambient, byte-high, byte-low, byte-nested, cons, kind-known, length-placed, nil, none-zero, walk-next, walk-placed}
use Rattle.text_form.specs.Lines.{ambient_kind, kind_byte, nested_kind, render}
use Rattle.text_form.specs.Reading.{bytes_of, length_told, lines_answer, none_above, placed, placed_from, read_after, read_answer, read_by, read_into, record_of, room_in, scan, scan_answer}
use Rattle.text_form.specs.Writing.{Length, child_or, child_over, fits, is_child, line_at, next_from, over_if, text_of, told, told_after, walk, walk_from, write_after, write_answer}
use Rattle.text_form.specs.declared.Line.{Line}
use Rattle.text_form.specs.declared.Visit.{Visit}

-- a record that is visited is none that is gone, and stands no deeper than d
pub record Visited (its : List Rec) (d : ℕ) (v : Visit) : Type 0 where
  pub deep : v.depth ≤ d
  pub alive : (at its v.number).kind ≢ 0

child-alive : (its : List Rec) (p after j : ℕ) → child_over its p after ≡ Some j → (at its j).kind ≢ 0
unfolding is_child
child-alive its p after j e = eqb-false _ _ (not-true _ (and_left _ _ (lowest-some (is_child its p) (suc after) (length its - after) j e).2))

or-visited : (its : List Rec) (d : ℕ) (o : Option ℕ) (up : Option Visit) → ((j : ℕ) → o ≡ Some j → (at its j).kind ≢ 0) → ((v : Visit) → up ≡ Some v → Visited its d v) →
    (v : Visit) → child_or o d up ≡ Some v → Visited its d v
unfolding child_or
or-visited its d None up a w v e = w v e
or-visited its d (Some j) up a w v e = let u : record { number = j; depth = d } ≡ v = cc in rw (← u) (record { deep = omega arith; alive = a j refl })

pub next-visited : (its : List Rec) (d p after : ℕ) (v : Visit) → next_from its d p after ≡ Some v → Visited its d v
unfolding next_from
next-visited its zero p after v e = or-visited its 0 _ None (child-alive its p after) (λ x q. let k : ◌≡◌ {A = ℕ} 0 1 = cc in absurd (omega arith)) v e
next-visited its (suc d) p after v e =
    or-visited its (suc d) _ (next_from its d (parent_of its p) p) (child-alive its p after) (λ x q. let w = next-visited its d (parent_of its p) p x q in record { deep = omega (arith, w.deep); alive = w.alive }) v e

-- the end of a walk
pub walk_end : (its : List Rec) (n p d : ℕ) → next_from its d p 0 ≡ None → walk_from its (suc n) p d ≡ []
unfolding walk_from
walk_end its n p d e = rw (e, walk_from)

-- a record that is visited, as a line
line-right : (its : List Rec) → WellFormed its → (v : Visit) → (at its v.number).kind ≢ 0 → Right (line_at its v)
unfolding line_at is_ambient kind_right label_right name_right nested client_right
line-right its wf v z =
    let r = at its v.number in
    let k : r.kind ≤ 5 = leb-true _ _ (shape-kind r (wf.shaped v.number)) in
    let x = kind-known r.kind z k in
    record {
      kind = x.0;
      known = x.1;
      label = rw (x.2, x.3) (rw (le-leb 1 r.kind (omega arith)) at (shape-labelled r (wf.shaped v.number)));
      name = rw (x.3) (rw (le-leb 1 r.kind (omega arith)) at (shape-named r (wf.shaped v.number)));
      client = leb-true _ _ (shape-client _ (wf.shaped v.number));
    }

line-nested : (its : List Rec) (d : ℕ) (v : Visit) (ls : List Line) → v.depth ≤ d → Right (line_at its v) → Nested (suc v.depth) ls → Nested d (line_at its v ∷ ls)
unfolding line_at
line-nested its d v ls h r n = cons h r n

-- the lines of a walk are well nested, and no more than the records
walk-nested : (its : List Rec) → WellFormed its → (n p d : ℕ) → Nested d (map (line_at its) (walk_from its n p d)) × (length (walk_from its n p d) ≤ n)
unfolding walk_from
walk-nested its wf zero p d = (nil, omega arith)
walk-nested its wf (suc n) p d = go (next_from its d p 0) refl (walk-nested its wf n)
  where
    go : (o : Option Visit) → next_from its d p 0 ≡ o → ((p d : ℕ) → Nested d (map (line_at its) (walk_from its n p d)) × (length (walk_from its n p d) ≤ n)) →
        Nested d (map (line_at its) (walk_from its (suc n) p d)) × (length (walk_from its (suc n) p d) ≤ suc n)
    go None e ih = rw (walk_end its n p d e) (nil, omega arith)
    go (Some v) e ih =
        let w = next-visited its d p 0 v e in
        let h = ih v.number (suc v.depth) in
        rw (walk-next its n p d v e) (line-nested its d v _ w.deep (line-right its wf v w.alive) h.0, omega (arith, h.1))

-- the parent of a line that is placed stands before it
placed-lower : (k : ℕ) (above : List ℕ) (ls : List Line) → ((e : ℕ) → get_or above e 0 < k) → (i : ℕ) → i < length ls → (get_or (placed_from k above ls) i gone).parent < k + i
unfolding placed_from record_of
placed-lower k above [] h i l = absurd (omega arith)
placed-lower k above (x ∷ ls) h zero l = omega (arith, h x.depth)
placed-lower k above (x ∷ ls) h (suc i) l = omega (arith, placed-lower (suc k) (set above (suc x.depth) k) ls lower i (omega arith))
  where
    entry : (e : ℕ) → Dec (e ≡ suc x.depth) → Dec (suc x.depth < length above) → get_or (set above (suc x.depth) k) e 0 < suc k
    entry e (yes u) (yes v) = rw u (omega (arith, get_or-set_same above (suc x.depth) k 0 v))
    entry e (yes u) (no v) = rw (set_out above (suc x.depth) k (omega arith)) (omega (arith, h e))
    entry e (no u) v = omega (arith, get_or-set_other above (suc x.depth) e k 0 u, h e)

    lower : (e : ℕ) → get_or (set above (suc x.depth) k) e 0 < suc k
    lower e = entry e (ℕ_discrete e (suc x.depth)) (dec_lt (suc x.depth) (length above))

-- a record of a line: its kind, label and name fit together, and its client is in range
record-shape : (l : Line) (p : ℕ) → Right l → shape (record_of l p) ≡ true
unfolding record_of kind_right label_right label_by name_right name_by client_right nested is_ambient
record-shape l p r =
    let k = kind_byte l.kind in
    let q = ap kind_byte r.known in
    let a : leb 1 k ≡ true = le-leb 1 k (omega (arith, q, byte-low r.kind)) in
    let b : leb k 4 ≡ nested_kind r.kind = ap (λ x. leb x 4) q ∙ byte-nested r.kind in
    let c : eqb k 1 ≡ ambient_kind r.kind = ap (λ x. eqb x 1) q ∙ byte-ambient r.kind in
    shape-make _ (le-leb k 5 (omega (arith, q, byte-high r.kind))) (rw (a, b, c) r.label) (rw (a, b) r.name) (le-leb l.client 999 r.client)

placed-shape : (k d : ℕ) (above : List ℕ) (ls : List Line) → Nested d ls → (i : ℕ) → i < length ls → (shape (get_or (placed_from k above ls) i gone) ≡ true) × ((get_or (placed_from k above ls) i gone).kind ≢ 0)
unfolding placed_from record_of
placed-shape k d above [] n i l = absurd (omega arith)
placed-shape k d above (x ∷ ls) (cons deep r n) zero l = (record-shape x _ r, omega (arith, ap kind_byte r.known, byte-low r.kind))
placed-shape k d above (x ∷ ls) (cons deep r n) (suc i) l = placed-shape (suc k) (suc x.depth) (set above (suc x.depth) k) ls n i (omega arith)

module _ (ls : List Line) (n : Nested 0 ls) where
  -- a line's record, and otherwise gone
  data Placed (j : ℕ) : Type 0 where
    inside : j ≢ 0 → j ≤ length ls → parent_of (placed ls) j < j → shape (at (placed ls) j) ≡ true → (at (placed ls) j).kind ≢ 0 → Placed j
    outside : (j ≢ 0 → length ls < j) → at (placed ls) j ≡ gone → Placed j

  placed_at : (j : ℕ) → Placed j
  unfolding placed at
  placed_at zero = outside (λ z. absurd (z refl)) refl
  placed_at (suc i) = go (dec_lt i (length ls))
    where
      go : Dec (i < length ls) → Placed (suc i)
      go (yes l) =
          let s = placed-shape 1 0 none_above ls n i l in
          inside (omega arith) l (omega (arith, placed-lower 1 none_above ls (λ e. omega (arith, none-zero e)) i l)) s.0 s.1
      go (no l) = outside (λ z. omega arith) (at-over (placed_from 1 none_above ls) (suc i) (omega (arith, length-placed 1 none_above ls)))

  gone-shape : shape gone ≡ true
  unfolding kind_right label_right label_by name_right name_by client_right nested is_ambient
  gone-shape = shape-make gone refl refl refl refl

  shaped-by : (j : ℕ) → Placed j → shape (at (placed ls) j) ≡ true
  shaped-by j (inside z l p s k) = s
  shaped-by j (outside f e) = rw e gone-shape

  gone-by : (j : ℕ) → Placed j → (at (placed ls) j).kind ≡ 0 → at (placed ls) j ≡ gone
  gone-by j (inside z l p s k) h = absurd (k h)
  gone-by j (outside f e) h = e

  alive-by : (j : ℕ) → Placed j → j ≢ 0 → j ≤ length ls → (at (placed ls) j).kind ≢ 0
  alive-by j (inside z l p s k) h m = k
  alive-by j (outside f e) h m = absurd (omega (arith, f h))

  parent_by : (j : ℕ) → Placed j → parent_of (placed ls) j ≢ 0 → (at (placed ls) (parent_of (placed ls) j)).kind ≢ 0
  parent_by j (inside z l p s k) h = alive-by _ (placed_at (parent_of (placed ls) j)) h (omega arith)
  parent_by j (outside f e) h = absurd (h (ap (λ r. r.parent) e))

  depth-by : (m j : ℕ) → j ≤ m → (d : ℕ) × Depth (parent_of (placed ls)) j d
  depth-by zero j l = let u : j ≡ 0 = omega arith in rw u (0, root)
  depth-by (suc m) j l = go (placed_at j) (ℕ_discrete j 0) (depth-by m)
    where
      go : Placed j → Dec (j ≡ 0) → ((j : ℕ) → j ≤ m → (d : ℕ) × Depth (parent_of (placed ls)) j d) → (d : ℕ) × Depth (parent_of (placed ls)) j d
      go x (yes u) ih = rw u (0, root)
      go (inside z a p s k) (no u) ih = let r = ih (parent_of (placed ls) j) (omega arith) in (suc r.0, under_of u refl r.1)
      go (outside f e) (no u) ih = (1, under_of u (ap (λ r. r.parent) e) root)

  placed-wf : WellFormed (placed ls)
  placed-wf = record {
    parents = λ i. parent_by i (placed_at i);
    gones = λ i. gone-by i (placed_at i);
    shaped = λ i. shaped-by i (placed_at i);
    reach = λ i. depth-by i i (omega arith);
  }

-- well-nested lines are a valid itinerary
pub placed-valid : (ls : List Line) → Nested 0 ls → length ls ≤ 1024 → validity (encode (placed ls)) ≡ pass
unfolding placed
placed-valid ls n few = wf-valid (placed-wf ls n) (omega (arith, length-placed 1 none_above ls))

-- what is read is a valid itinerary
pub read-valid : (room : ℕ) (text : List ℕ) → room ≤ 1024 → validity (encode (placed (scan room text).lines)) ≡ pass
unfolding scan
read-valid room text few = let w = scan-nested room 0 text in placed-valid _ w.0 (omega (arith, w.1))

valid-count : (s : List ℕ) → validity s ≡ pass → count s ≤ 1024
unfolding count
valid-count s v = omega (arith, valid-few s v)

module _ (s : List ℕ) (v : validity s ≡ pass) where
  pub written-nested : Nested 0 (map (line_at (records s)) (walk (records s))) × (length (map (line_at (records s)) (walk (records s))) ≤ 1024)
  unfolding walk
  written-nested = let w = walk-nested (records s) (valid-wf s v) (length (records s)) 0 0 in (w.0, rw length-map (omega (arith, w.1, length-records s, valid-count s v)))

  -- what is written is read, to its end
  pub accepted : scan 1024 (text_of (records s)) ≡ record { lines = map (line_at (records s)) (walk (records s)); fault = None }
  unfolding scan text_of
  accepted = scan-render 1024 0 _ written-nested.0 written-nested.1

  pub accepted-lines : bytes_of (text_of (records s)) ≡ encode (placed (map (line_at (records s)) (walk (records s))))
  unfolding bytes_of
  accepted-lines = ap (λ x. encode (placed x.lines)) accepted

  -- text to bytes to text is the identity on what is written
  pub identity : text_of (records (bytes_of (text_of (records s)))) ≡ text_of (records s)
  unfolding text_of
  identity = ap (λ x. text_of (records x)) accepted-lines ∙ rw (records-encode (placed (map (line_at (records s)) (walk (records s))))) (ap render (walk-placed _ written-nested.0 written-nested.1))

bytes-valid : (text : List ℕ) → validity (bytes_of text) ≡ pass
unfolding bytes_of
bytes-valid text = read-valid 1024 text (omega arith)

written_count : (s : List ℕ) → validity s ≡ pass → length (map (line_at (records s)) (walk (records s))) ≡ count (bytes_of (text_of (records s)))
unfolding placed
written_count s v = sym (ap count (accepted-lines s v) ∙ count-encode _ ∙ length-placed 1 none_above _)

-- a text's length is no fault
records-told : (b : Bool) (n : ℕ) → length_told b (Ok n) ≡ Ok n
unfolding length_told
records-told true n = refl
records-told false n = refl

-- the same of the calls: what the writer wrote of a valid itinerary the reader takes, and the writer gives back
pub calls-identity : (s it t : List ℕ) → validity s ≡ pass → length it ≡ 8192 → length (text_of (records s)) ≤ length t →
    (read_answer (text_of (records s)) it ≡ Ok (count (bytes_of (text_of (records s))))) × (read_after (text_of (records s)) it ≡ over (bytes_of (text_of (records s))) it)
    × (write_answer (bytes_of (text_of (records s))) t ≡ Length (length (text_of (records s)))) × (write_after (bytes_of (text_of (records s))) t ≡ over (text_of (records s)) t)
unfolding read_answer lines_answer read_after read_by read_into scan_answer room_in write_answer write_after told told_after content fits over_if
calls-identity s it t v l h =
    let a = accepted s v in
    let w : validity (bytes_of (text_of (records s))) ≡ pass = bytes-valid (text_of (records s)) in
    let i = identity s v in
    let r = le-leb (length (text_of (records s))) (length t) h in
    (rw l (rw a (records-told _ _ ∙ ap Ok (written_count s v))), rw l (rw a (ap (λ x. over x it) (sym (accepted-lines s v)))), rw w (rw (i, r)), rw w (rw (i, r)))
