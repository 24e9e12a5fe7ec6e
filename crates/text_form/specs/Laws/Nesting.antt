-- Lines that are placed and walked again are the same lines.
use Prim.Native.Nat.{◌+◌, ◌-◌, ◌<◌, ◌≤◌, suc, zero, ℕ}
use Rattle.std.proofs.Common.{eq-eqb, ne_eqb, inl, inr, ◌∙◌}
use Rattle.std.specs.Prelude.{eqb, leb, get_or, set, false, not, true, List, [], ◌∷◌, map, ◌≢◌, ◌⊎◌, ◌≡◌, refl}
use Rattle.std.specs.Prelude.{Option, None, Some}
use Rattle.std.proofs.Math.ListN.{length, length-set}
use Rattle.std.proofs.lemmas.List.{length-replicate}
use Rattle.std.proofs.Math.Seq.{get_or-set_other, get_or-set_same}
use Rattle.std.proofs.Math.Bool.{and-false}
use Rattle.std.proofs.Math.Path.{ap, sym}
use Rattle.std.proofs.Math.Decide.{dec_le, ℕ_discrete}
use native.Mathlib.Omega.{arith}
use Rattle.model.proofs.Laws.Finite.{replicated}
use Rattle.model.proofs.Laws.Finite.{lowest-make, lowest-nothing}
use Rattle.model.specs.Records.{at, capability, gone, parent_of}
use Rattle.model.specs.declared.Capability.TheVariants.{In as cap-in, Open as cap-open, Out as cap-out}
use Rattle.model.specs.Scripts.{kind_of}
use Rattle.model.specs.Validity.{label_by, name_by}
use Rattle.model.specs.declared.Rec.{Rec}
use Rattle.text_form.specs.Lines.{acting, ambient_kind, kind_at, kind_byte, nested_kind}
use Rattle.text_form.specs.Reading.{none_above, placed, placed_from, record_of}
use Rattle.text_form.specs.Writing.{child_or, child_over, is_child, line_at, next_from, walk, walk_from}
use Rattle.text_form.specs.declared.Kind.{Kind}
use Rattle.text_form.specs.declared.Kind.TheVariants.{Acts, Ambient, Replication}
use Rattle.text_form.specs.declared.Line.{Line}
use Rattle.text_form.specs.declared.Visit.{Visit}

-- the number of a kind is 1 to 5, that of an ambient alone is 1, that of a replication alone is 5, and it gives the kind back
pub byte-low : (k : Kind) → 1 ≤ kind_byte (Some k)
unfolding kind_byte kind_of
byte-low Ambient = omega arith
byte-low (Acts cap-in) = omega arith
byte-low (Acts cap-out) = omega arith
byte-low (Acts cap-open) = omega arith
byte-low Replication = omega arith

pub byte-high : (k : Kind) → kind_byte (Some k) ≤ 5
unfolding kind_byte kind_of
byte-high Ambient = omega arith
byte-high (Acts cap-in) = omega arith
byte-high (Acts cap-out) = omega arith
byte-high (Acts cap-open) = omega arith
byte-high Replication = omega arith

pub byte-ambient : (k : Kind) → eqb (kind_byte (Some k)) 1 ≡ ambient_kind k
unfolding kind_byte kind_of ambient_kind
byte-ambient Ambient = refl
byte-ambient (Acts cap-in) = refl
byte-ambient (Acts cap-out) = refl
byte-ambient (Acts cap-open) = refl
byte-ambient Replication = refl

pub byte-nested : (k : Kind) → leb (kind_byte (Some k)) 4 ≡ nested_kind k
unfolding kind_byte kind_of nested_kind
byte-nested Ambient = refl
byte-nested (Acts cap-in) = refl
byte-nested (Acts cap-out) = refl
byte-nested (Acts cap-open) = refl
byte-nested Replication = refl

byte-back : (k : Option Kind) → kind_at (kind_byte k) ≡ k
unfolding kind_byte kind_of kind_at acting capability
byte-back None = refl
byte-back (Some Ambient) = refl
byte-back (Some (Acts cap-in)) = refl
byte-back (Some (Acts cap-out)) = refl
byte-back (Some (Acts cap-open)) = refl
byte-back (Some Replication) = refl

-- the other way round: what a number from 1 to 5 stands for
pub kind-known : (n : ℕ) → n ≢ 0 → n ≤ 5 → (k : Kind) × (kind_at n ≡ Some k) × (ambient_kind k ≡ eqb n 1) × (nested_kind k ≡ leb n 4)
unfolding kind_at acting capability ambient_kind nested_kind
kind-known zero z h = absurd (z refl)
kind-known (suc zero) z h = (Ambient, refl, refl, refl)
kind-known (suc (suc zero)) z h = (Acts cap-in, refl, refl, refl)
kind-known (suc (suc (suc zero))) z h = (Acts cap-out, refl, refl, refl)
kind-known (suc (suc (suc (suc zero)))) z h = (Acts cap-open, refl, refl, refl)
kind-known (suc (suc (suc (suc (suc zero))))) z h = (Replication, refl, refl, refl)
kind-known (suc (suc (suc (suc (suc (suc n)))))) z h = absurd (omega arith)

-- a line whose kind, label and name fit together, and whose client is in range
pub record Right (l : Line) : Type 0 where
  pub kind : Kind
  pub known : l.kind ≡ Some kind
  pub label : label_by (nested_kind kind) (ambient_kind kind) l.label ≡ true
  pub name : name_by (nested_kind kind) l.name ≡ true
  pub client : l.client ≤ 999

-- each line is indented by at most one step more than the one before, and the first by at most d
pub data Nested : ℕ → List Line → Type 0 where
  nil : {d : ℕ} → Nested d []
  cons : {d : ℕ} {l : Line} {ls : List Line} → l.depth ≤ d → Right l → Nested (suc l.depth) ls → Nested d (l ∷ ls)

pub length-placed : (k : ℕ) (above : List ℕ) (ls : List Line) → length (placed_from k above ls) ≡ length ls
unfolding placed_from
length-placed k above [] = refl
length-placed k above (l ∷ ls) = ap suc (length-placed (suc k) (set above (suc l.depth) k) ls)

-- entry e of above
abbrev pub ab : List ℕ → ℕ → ℕ
ab above e = get_or above e 0

-- the parent of a line placed later is a later line, or one that above has at a depth no greater
future : (k d : ℕ) (above : List ℕ) (ls : List Line) → Nested d ls → d + length ls < length above → (i : ℕ) → i < length ls →
    (k ≤ (get_or (placed_from k above ls) i gone).parent) ⊎ ((e : ℕ) × (e ≤ d) × ((get_or (placed_from k above ls) i gone).parent ≡ ab above e))
unfolding placed_from record_of
future k d above [] h w i l = absurd (omega arith)
future k d above (l ∷ ls) (cons deep r h) w zero m = inr (l.depth, deep, refl)
future k d above (l ∷ ls) (cons deep r h) w (suc i) m =
    go (future (suc k) (suc l.depth) (set above (suc l.depth) k) ls h (rw length-set (omega arith)) i (omega arith))
  where
    q : ℕ
    q = (get_or (placed_from (suc k) (set above (suc l.depth) k) ls) i gone).parent

    at_entry : (e : ℕ) → e ≤ suc l.depth → q ≡ ab (set above (suc l.depth) k) e → Dec (e ≡ suc l.depth) → (k ≤ q) ⊎ ((e : ℕ) × (e ≤ d) × (q ≡ ab above e))
    at_entry e le p (yes u) = inl (omega (arith, p ∙ ap (ab (set above (suc l.depth) k)) u ∙ get_or-set_same above (suc l.depth) k 0 (omega arith)))
    at_entry e le p (no u) = inr (e, omega arith, p ∙ get_or-set_other above (suc l.depth) e k 0 u)

    go : (suc k ≤ q) ⊎ ((e : ℕ) × (e ≤ suc l.depth) × (q ≡ ab (set above (suc l.depth) k) e)) → (k ≤ q) ⊎ ((e : ℕ) × (e ≤ d) × (q ≡ ab above e))
    go (inl x) = inl (omega arith)
    go (inr x) = at_entry x.0 x.1 x.2 (ℕ_discrete x.0 (suc l.depth))

-- m lines are placed, the next may have depth d, and above has the last of them and those above it
pub record Stage (its : List Rec) (m d : ℕ) (above : List ℕ) : Type 0 where
  pub top : ab above 0 ≡ 0
  pub last : ab above d ≡ m
  pub chain : (e : ℕ) → e < d → parent_of its (ab above (suc e)) ≡ ab above e
  pub rising : (e : ℕ) → e < d → ab above e < ab above (suc e)
  pub past : (e : ℕ) → e < d → (j : ℕ) → ab above (suc e) < j → j ≤ m → parent_of its j ≢ ab above e
  pub lower : (j : ℕ) → 1 ≤ j → j ≤ m → parent_of its j < j

module _ {its : List Rec} {m d : ℕ} {above : List ℕ} (w : Stage its m d above) where
  rises : (e f : ℕ) → e < f → f ≤ d → ab above e < ab above f
  rises e zero l h = absurd (omega arith)
  rises e (suc f) l h = go (ℕ_discrete e f) (rises e f)
    where
      go : Dec (e ≡ f) → (e < f → f ≤ d → ab above e < ab above f) → ab above e < ab above (suc f)
      go (yes u) ih = rw u (w.rising f h)
      go (no u) ih = omega (arith, ih (omega arith) (omega arith), w.rising f h)

  below : (e : ℕ) → e ≤ d → ab above e ≤ m
  below e h = go (ℕ_discrete e d)
    where
      go : Dec (e ≡ d) → ab above e ≤ m
      go (yes u) = rw u (omega (arith, w.last))
      go (no u) = omega (arith, rises e d (omega arith) (omega arith), w.last)

-- the child test, either way
pub child-is : (its : List Rec) (p j : ℕ) → (at its j).kind ≢ 0 → parent_of its j ≡ p → is_child its p j ≡ true
unfolding is_child
child-is its p j k e = rw (ne_eqb _ _ k, eq-eqb _ _ e)

child-not : (its : List Rec) (p j : ℕ) → parent_of its j ≢ p → is_child its p j ≡ false
unfolding is_child
child-not its p j e = rw (ne_eqb _ _ e) (and-false (not (eqb (at its j).kind 0)))

-- the next child is number k
child-found : (its : List Rec) (p after k : ℕ) → after < k → k ≤ length its → is_child its p k ≡ true → ((j : ℕ) → after < j → j < k → is_child its p j ≡ false) → child_over its p after ≡ Some k
child-found its p after k l h t f = lowest-make (is_child its p) (suc after) (length its - after) k l (omega arith) t f

-- there is no further child
child-none : (its : List Rec) (p after : ℕ) → ((j : ℕ) → after < j → j ≤ length its → is_child its p j ≡ false) → child_over its p after ≡ None
child-none its p after f = lowest-nothing (is_child its p) (suc after) (length its - after) (λ j l h. f j l (omega arith))

-- the line l is next
module _ {its : List Rec} {m d : ℕ} {above : List ℕ} (w : Stage its m d above) (l : Line) (ls : List Line) (deep : l.depth ≤ d) (r : Right l)
    (n : Nested (suc l.depth) ls) (room : d + length (l ∷ ls) < length above) (all : length its ≡ m + length (l ∷ ls))
    (tail : (i : ℕ) → at its (suc m + i) ≡ get_or (placed_from (suc m) above (l ∷ ls)) i gone) where
  here : at its (suc m) ≡ record_of l (ab above l.depth)
  unfolding placed_from
  here = ap (at its) (omega arith) ∙ tail 0

  here-parent : parent_of its (suc m) ≡ ab above l.depth
  unfolding record_of
  here-parent = ap (λ x. x.parent) here

  here-kind : (at its (suc m)).kind ≢ 0
  unfolding record_of
  here-kind e = omega (arith, ap (λ x. x.kind) here, e, ap kind_byte r.known, byte-low r.kind)

  -- no record from the next on has a parent at a depth above the line's
  later : (e : ℕ) → l.depth < e → e ≤ d → (j : ℕ) → m < j → j ≤ length its → parent_of its j ≢ ab above e
  later e x y j g h u =
      go (future (suc m) l.depth above (l ∷ ls) (cons (omega arith) r n) (omega arith) (j - suc m) (omega arith))
    where
      p : parent_of its j ≡ (get_or (placed_from (suc m) above (l ∷ ls)) (j - suc m) gone).parent
      p = let k : j ≡ suc m + (j - suc m) = omega arith in ap (λ i. parent_of its i) k ∙ ap (λ x. x.parent) (tail (j - suc m))

      go : (suc m ≤ (get_or (placed_from (suc m) above (l ∷ ls)) (j - suc m) gone).parent) ⊎ ((e : ℕ) × (e ≤ l.depth) × ((get_or (placed_from (suc m) above (l ∷ ls)) (j - suc m) gone).parent ≡ ab above e)) → ⊥
      go (inl a) = omega (arith, p, u, below w e y)
      go (inr a) = omega (arith, p ∙ a.2, u, rises w a.0 e (omega (arith, a.1)) y)

  finds : (e after : ℕ) → l.depth ≤ e → e ≤ d → after ≤ m → ((j : ℕ) → after < j → j ≤ m → parent_of its j ≢ ab above e) →
      next_from its e (ab above e) after ≡ Some (record { number = suc m; depth = l.depth })
  unfolding next_from child_or
  finds zero after x y z clear =
      let u : l.depth ≡ 0 = omega arith in
      rw u (ap (λ o. child_or o 0 None) (child-found its (ab above 0) after (suc m) (omega arith) (omega arith) (child-is its _ (suc m) here-kind (rw u at here-parent)) (λ j a b. child-not its _ j (clear j a (omega arith)))))
  finds (suc e) after x y z clear = go (ℕ_discrete l.depth (suc e)) (finds e (ab above (suc e)))
    where
      go : Dec (l.depth ≡ suc e) → (l.depth ≤ e → e ≤ d → ab above (suc e) ≤ m → ((j : ℕ) → ab above (suc e) < j → j ≤ m → parent_of its j ≢ ab above e) → next_from its e (ab above e) (ab above (suc e)) ≡ Some (record { number = suc m; depth = l.depth })) →
          child_or (child_over its (ab above (suc e)) after) (suc e) (next_from its e (parent_of its (ab above (suc e))) (ab above (suc e))) ≡ Some (record { number = suc m; depth = l.depth })
      go (yes u) ih = rw (child-found its (ab above (suc e)) after (suc m) (omega arith) (omega arith) (child-is its _ (suc m) here-kind (rw u at here-parent)) (λ j a b. child-not its _ j (clear j a (omega arith)))) (rw u)
      go (no u) ih =
          rw (child-none its (ab above (suc e)) after (λ j a b. child-not its _ j (none j a b (dec_le j m))))
          (rw (w.chain e y) (ih (omega arith) (omega arith) (below w (suc e) y) (w.past e y)))
        where
          none : (j : ℕ) → after < j → j ≤ length its → Dec (j ≤ m) → parent_of its j ≢ ab above (suc e)
          none j a b (yes v) = clear j a v
          none j a b (no v) = later (suc e) (omega arith) y j (omega arith) b

  next-line : next_from its d m 0 ≡ Some (record { number = suc m; depth = l.depth })
  next-line = rw w.last at (finds d 0 deep (omega arith) (omega arith) (λ j a b u. omega (arith, w.lower j a b, w.last, u)))

  -- above, once the line is placed
  over-line : List ℕ
  over-line = set above (suc l.depth) (suc m)

  new-entry : ab over-line (suc l.depth) ≡ suc m
  unfolding over-line
  new-entry = get_or-set_same above (suc l.depth) (suc m) 0 (omega arith)

  old-entry : (e : ℕ) → e ≤ l.depth → ab over-line e ≡ ab above e
  unfolding over-line
  old-entry e h = get_or-set_other above (suc l.depth) e (suc m) 0 (omega arith)

  next-chain : (e : ℕ) → e < suc l.depth → Dec (e ≡ l.depth) → parent_of its (ab over-line (suc e)) ≡ ab over-line e
  next-chain e h (yes u) = rw u (ap (λ j. parent_of its j) new-entry ∙ here-parent ∙ sym (old-entry l.depth (omega arith)))
  next-chain e h (no u) = ap (λ j. parent_of its j) (old-entry (suc e) (omega arith)) ∙ w.chain e (omega arith) ∙ sym (old-entry e (omega arith))

  next-rising : (e : ℕ) → e < suc l.depth → Dec (e ≡ l.depth) → ab over-line e < ab over-line (suc e)
  next-rising e h (yes u) = rw u (omega (arith, new-entry, old-entry l.depth (omega arith), below w l.depth deep))
  next-rising e h (no u) = omega (arith, old-entry e (omega arith), old-entry (suc e) (omega arith), w.rising e (omega arith))

  next_past : (e : ℕ) → e < suc l.depth → Dec (e ≡ l.depth) → (j : ℕ) → ab over-line (suc e) < j → j ≤ suc m → Dec (j ≡ suc m) → parent_of its j ≢ ab over-line e
  next_past e h (yes u) j a b v x = omega (arith, rw u at a, new-entry)
  next_past e h (no u) j a b (yes v) x = omega (arith, sym here-parent ∙ ap (λ i. parent_of its i) (sym v) ∙ x, old-entry e (omega arith), rises w e l.depth (omega arith) deep)
  next_past e h (no u) j a b (no v) x = w.past e (omega arith) j (omega (arith, old-entry (suc e) (omega arith))) (omega arith) (x ∙ old-entry e (omega arith))

  next-lower : (j : ℕ) → 1 ≤ j → j ≤ suc m → Dec (j ≡ suc m) → parent_of its j < j
  next-lower j a b (yes v) = rw v (omega (arith, here-parent, below w l.depth deep))
  next-lower j a b (no v) = w.lower j a (omega arith)

  next-stage : Stage its (suc m) (suc l.depth) over-line
  next-stage = record {
    top = old-entry 0 (omega arith) ∙ w.top;
    last = new-entry;
    chain = λ e h. next-chain e h (ℕ_discrete e l.depth);
    rising = λ e h. next-rising e h (ℕ_discrete e l.depth);
    past = λ e h j a b. next_past e h (ℕ_discrete e l.depth) j a b (ℕ_discrete j (suc m));
    lower = λ j a b. next-lower j a b (ℕ_discrete j (suc m));
  }

  next-tail : (i : ℕ) → at its (suc (suc m) + i) ≡ get_or (placed_from (suc (suc m)) over-line ls) i gone
  unfolding placed_from over-line
  next-tail i = ap (at its) (omega arith) ∙ tail (suc i)

  next-room : suc l.depth + length ls < length over-line
  unfolding over-line
  next-room = rw length-set (omega arith)

  here-line : line_at its (record { number = suc m; depth = l.depth }) ≡ l
  unfolding line_at record_of
  here-line = rw here (rw (byte-back l.kind))

-- how a walk goes on after a visit
pub walk-next : (its : List Rec) (n p d : ℕ) (v : Visit) → next_from its d p 0 ≡ Some v → walk_from its (suc n) p d ≡ v ∷ walk_from its n v.number (suc v.depth)
unfolding walk_from
walk-next its n p d v q = rw (q, walk_from)

-- lines that are being walked are the lines that are left
walk-rest : {its : List Rec} {m d : ℕ} {above : List ℕ} → Stage its m d above → (ls : List Line) → Nested d ls → d + length ls < length above → length its ≡ m + length ls →
    ((i : ℕ) → at its (suc m + i) ≡ get_or (placed_from (suc m) above ls) i gone) → map (line_at its) (walk_from its (length ls) m d) ≡ ls
unfolding walk_from
walk-rest w [] n room all tail = refl
walk-rest {its} {m} {d} {above} w (l ∷ ls) (cons deep r n) room all tail =
    rw (walk-next its (length ls) m d (record { number = suc m; depth = l.depth }) (next-line w l ls deep r n room all tail))
    (rw (here-line w l ls deep r n room all tail)
    (ap (λ x. l ∷ x) (walk-rest {m = suc m} {d = suc l.depth} {above = over-line w l ls deep r n room all tail} (next-stage w l ls deep r n room all tail) ls n (next-room w l ls deep r n room all tail) (omega arith) (next-tail w l ls deep r n room all tail))))

pub none-length : length none_above ≡ 1025
unfolding none_above
none-length = length-replicate {0} {A = ℕ} 1025 0

pub none-zero : (e : ℕ) → ab none_above e ≡ 0
unfolding none_above
none-zero e = replicated {A = ℕ} 0 1025 e

first-stage : (its : List Rec) → Stage its 0 0 none_above
first-stage its = record {
  top = none-zero 0;
  last = none-zero 0;
  chain = λ e h. absurd (omega arith);
  rising = λ e h. absurd (omega arith);
  past = λ e h. absurd (omega arith);
  lower = λ j a b. absurd (omega arith);
}

-- for well-nested lines, at most 1,024 of them: what is placed and walked is the same
pub walk-placed : (ls : List Line) → Nested 0 ls → length ls ≤ 1024 → map (line_at (placed ls)) (walk (placed ls)) ≡ ls
unfolding walk placed at
walk-placed ls n few =
    rw (length-placed 1 none_above ls)
    (walk-rest (first-stage (placed_from 1 none_above ls)) ls n (omega (arith, none-length)) (omega (arith, length-placed 1 none_above ls)) (λ i. let u : suc 0 + i ≡ suc i = omega arith in ap (at (placed_from 1 none_above ls)) u))
