-- The writers' loops: the next child, the next record to visit, the length of all lines, and the lines written.
use Prim.Native.Nat.{◌*◌, ◌+◌, ◌-◌, ◌/◌, ◌<◌, ◌≤◌, suc, zero, ℕ}
use Rattle.std.proofs.Common.{le-leb, length-append, ◌∙◌, sym}
use Rattle.std.proofs.lemmas.Bool.{lt-leb}
use Rattle.std.proofs.Math.Dec.{eqb}
use Rattle.std.specs.Bool.{then_some}
use Rattle.std.specs.Prelude.{leb, Bool, ◌&&◌, false, not, true, ◌≡◌}
use Rattle.std.proofs.Math.ListN.{length}
use mathlib.Core.List.{List, [], ◌++◌, ◌∷◌, map}
use Rattle.std.specs.Prelude.{Option, None, Some}
use Rattle.std.proofs.Math.Path.{ap, refl, subst}
use native.Mathlib.Omega.{arith}
use Rattle.model.specs.Finite.{Each, lowest, unequal}
use Rattle.model.proofs.Laws.Bytes.{at-whole, length-records, valid-few, valid-whole}
use Rattle.model.specs.Listing.{field}
use Rattle.model.specs.Records.{at, count, decode, records}
use Rattle.model.specs.declared.Capability.TheVariants.{In as cap-in, Open as cap-open, Out as cap-out}
use Rattle.model.specs.Refusals.{content, pass, refuse}
use Rattle.model.specs.Validity.{validity}
use Rattle.model.specs.declared.Rec.{Rec}
use Rattle.text_put.specs.Puts.{Put, Putting, over}
use Rattle.text_put.specs.Digits.{digits-few}
use Rattle.text_put.specs.Laws.{put-over, putting-end, putting-on, putting-room, putting-start}
use Rattle.text_form.specs.Laws.Identity.{next-visited, walk_end}
use Rattle.text_form.specs.Laws.Nesting.{walk-next}
use Rattle.text_form.specs.Laws.Clients.{client-few}
use Rattle.text_form.specs.Laws.Putting.{entry_length, fields-length}
use Rattle.text_form.specs.Lines.{ambient_word, entry, hidden_word, in_word, kind_at, kind_word, line_bytes, line_word, open_word, out_word, render, replication_word}
use Rattle.text_form.specs.Parts.{Whole, Written, front, numbered, visit_line}
use Rattle.text_form.specs.Writing.{Length, NoRoom, Refused, TextWritten, child_or, child_over, fits, is_child, line_at, lines_of, mark, next_from, over_if, text_of, told, told_after, walk, walk_from, write_after, write_answer}
use Rattle.text_form.specs.declared.Kind.{Kind}
use Rattle.text_form.specs.declared.Kind.TheVariants.{Acts, Ambient, Replication}
use Rattle.text_form.specs.declared.Visit.{Visit}

-- record i as it is read
pub at-is : {s : List ℕ} → Whole s → (i : ℕ) (r : Rec) → r ≡ decode s i → r ≡ at (records s) i
at-is {s} w i r e = e ∙ sym (at-whole s w.whole i)

pub whole-count : (s : List ℕ) → length (records s) ≡ length s / 8
unfolding count
whole-count s = length-records s

module _ (its : List Rec) (p j : ℕ) where
  pub child-test : (r : Rec) {g b : Bool} → r ≡ at its j → g ≡ eqb r.kind 0 → (not g && eqb r.parent p) ≡ b → is_child its p j ≡ b
  unfolding is_child
  child-test r e g q = ap (λ x. unequal x.kind 0 && eqb x.parent p) (sym e) ∙ ap (λ x. not x && eqb r.parent p) (sym g) ∙ q

  pub child-hit : j < length its → is_child its p (j + 1) ≡ true → child_over its p j ≡ Some (j + 1)
  unfolding lowest
  child-hit l t =
      let u : length its - j ≡ suc (length its - (j + 1)) = omega arith in
      let v : j + 1 ≡ suc j = omega arith in
      rw (u, v) (rw (rw v at t, lowest))

  pub child-step : j < length its → is_child its p (j + 1) ≡ false → child_over its p j ≡ child_over its p (j + 1)
  unfolding lowest
  child-step l t =
      let u : length its - j ≡ suc (length its - suc j) = omega arith in
      let v : j + 1 ≡ suc j = omega arith in
      rw (u, v) (rw (rw v at t, lowest))

  pub child-end : length its ≤ j → child_over its p j ≡ None
  unfolding lowest
  child-end l = let u : length its - j ≡ 0 = omega arith in rw u

-- the record to visit next
module _ (its : List Rec) (e q after : ℕ) where
  pub next-hit : {j : ℕ} → 0 < e → child_over its q after ≡ Some j → Some (record { number = j; depth = e }) ≡ next_from its e q after
  unfolding next_from child_or
  next-hit l c = let u : e ≡ suc (e - 1) = omega arith in rw u (rw c)

  pub next_up : {r : Rec} → 0 < e → child_over its q after ≡ None → r ≡ at its q → next_from its e q after ≡ next_from its (e - 1) r.parent q
  unfolding next_from child_or
  next_up {r} l c h =
      let u : e ≡ suc (e - 1) = omega arith in
      ap (λ n. next_from its n q after) u ∙ rw (c, child_or) (ap (λ x. next_from its (e - 1) x.parent q) (sym h))

  pub next_last : {j : ℕ} → e ≤ 0 → child_over its q after ≡ Some j → Some (record { number = j; depth = 0 }) ≡ next_from its e q after
  unfolding next_from child_or
  next_last l c = let u : e ≡ 0 = omega arith in rw (u, c)

  pub next-none : e ≤ 0 → child_over its q after ≡ None → None ≡ next_from its e q after
  unfolding next_from child_or
  next-none l c = let u : e ≡ 0 = omega arith in rw (u, c)

-- the number is shown in a listing alone
front-numbered : (b : Bool) (n : ℕ) → numbered (then_some b n) ≡ front b n
unfolding numbered front
front-numbered true n = refl
front-numbered false n = refl

-- a visit is written as its line
pub visit-is : (listed : Bool) (its shown : List Rec) (v : Visit) (r x : Rec) {o : Option ℕ} {k : Option Kind} {b : Bool} → o ≡ then_some listed v.number → r ≡ at its v.number → x ≡ at shown v.number → k ≡ kind_at r.kind → b ≡ eqb x.kind 0 →
    entry (numbered o) (mark (listed && b)) (record { depth = v.depth; kind = k; label = r.label; name = r.name; client = r.client }) ≡ visit_line listed its shown v
unfolding visit_line line_at
visit-is listed its shown v r x {o = o} d e f g h =
    let n : numbered o ≡ front listed v.number = ap numbered d ∙ front-numbered listed v.number in
    rw n (rw (g, h) (rw (e, f)))

-- how a walk goes on
module _ (its : List Rec) (left p d : ℕ) where
  pub walk-on : {v : Visit} → 0 < left → next_from its d p 0 ≡ Some v → walk_from its left p d ≡ v ∷ walk_from its (left - 1) v.number (v.depth + 1)
  walk-on {v} l e =
      let u : left ≡ suc (left - 1) = omega arith in
      let w : v.depth + 1 ≡ suc v.depth = omega arith in
      ap (λ k. walk_from its k p d) u ∙ walk-next its (left - 1) p d v e ∙ rw w

  pub walk-stop : next_from its d p 0 ≡ None → walk_from its left p d ≡ []
  unfolding walk_from
  walk-stop e = go left
    where
      go : (n : ℕ) → walk_from its n p d ≡ []
      go zero = refl
      go (suc n) = walk_end its n p d e

pub walk_none : (its : List Rec) (left p d : ℕ) → left ≤ 0 → walk_from its left p d ≡ []
unfolding walk_from
walk_none its left p d l = let u : left ≡ 0 = omega arith in rw u

-- no line is long
word-short : (k : Option Kind) → length (line_word k) ≤ 8
unfolding line_word kind_word ambient_word in_word out_word open_word replication_word
word-short None = omega arith
word-short (Some Ambient) = omega arith
word-short (Some (Acts cap-in)) = omega arith
word-short (Some (Acts cap-out)) = omega arith
word-short (Some (Acts cap-open)) = omega arith
word-short (Some Replication) = omega arith

pub mark-short : (b : Bool) → length (mark b) ≤ 7
unfolding mark hidden_word
mark-short true = omega arith
mark-short false = omega arith

front-short : (b : Bool) (n : ℕ) → length (front b n) ≤ 6
unfolding front field
front-short true n = rw length-append (omega (arith, digits-few 5 n))
front-short false n = omega arith

pub visit-short : (listed : Bool) (its shown : List Rec) (v : Visit) → v.depth ≤ 1024 → length (visit_line listed its shown v) ≤ 2100
unfolding visit_line line_at
visit-short listed its shown v h =
    omega (arith, entry_length (front listed v.number) (mark (listed && eqb (at shown v.number).kind 0)) (line_at its v), fields-length (line_at its v), front-short listed v.number, mark-short (listed && eqb (at shown v.number).kind 0), word-short (kind_at (at its v.number).kind), digits-few 5 (at its v.number).label, digits-few 5 (at its v.number).name, client-few (at its v.number).client)

-- a walk has no more visits than it may have, and none is deep
walk-few : (its : List Rec) (n p d : ℕ) → length (walk_from its n p d) ≤ n
unfolding walk_from
walk-few its zero p d = omega arith
walk-few its (suc n) p d = go (next_from its d p 0) refl (walk-few its n)
  where
    go : (o : Option Visit) → next_from its d p 0 ≡ o → ((p d : ℕ) → length (walk_from its n p d) ≤ n) → length (walk_from its (suc n) p d) ≤ suc n
    go None e ih = rw (walk_end its n p d e) (omega arith)
    go (Some v) e ih = rw (walk-next its n p d v e) (omega (arith, ih v.number (suc v.depth)))

walk-shallow : (its : List Rec) (n p d : ℕ) → d + n ≤ 1024 → Each (λ v. v.depth ≤ 1024) (walk_from its n p d)
unfolding walk_from
walk-shallow its zero p d h = tt
walk-shallow its (suc n) p d h = go (next_from its d p 0) refl (walk-shallow its n)
  where
    go : (o : Option Visit) → next_from its d p 0 ≡ o → ((p d : ℕ) → d + n ≤ 1024 → Each (λ v. v.depth ≤ 1024) (walk_from its n p d)) → Each (λ v. v.depth ≤ 1024) (walk_from its (suc n) p d)
    go None e ih = rw (walk_end its n p d e) tt
    go (Some v) e ih =
        let deep = (next-visited its d p 0 v e).deep in
        rw (walk-next its n p d v e) (omega arith, ih v.number (suc v.depth) (omega arith))

-- used bytes of all lines are counted, and there is room for the count of the visits left
pub record Measured (f : Visit → List ℕ) (all left : List Visit) (used : ℕ) : Type 0 where
  pub shallow : Each (λ v. v.depth ≤ 1024) left
  pub small : used + 2100 * length left ≤ 2150400
  pub sum : used + length (lines_of f left) ≡ length (lines_of f all)

-- the lines before place q are written over t₀
pub record Filling (f : Visit → List ℕ) (all : List Visit) (t₀ t : List ℕ) (left : List Visit) (q : ℕ) : Type 0 where
  pub shallow : Each (λ v. v.depth ≤ 1024) left
  pub lines : Putting t₀ 0 (lines_of f all) t q (lines_of f left)

module _ (f : Visit → List ℕ) (s : List ℕ) (b : Whole s) where
  shallow : Each (λ v. v.depth ≤ 1024) (walk (records s))
  unfolding walk
  shallow = walk-shallow (records s) (length (records s)) 0 0 (omega (arith, whole-count s, b.few))

  few : length (walk (records s)) ≤ 1024
  unfolding walk
  few = omega (arith, walk-few (records s) (length (records s)) 0 0, whole-count s, b.few)

  pub measure-start : Measured f (walk (records s)) (walk (records s)) 0
  measure-start = record { shallow = shallow; small = omega (arith, few); sum = omega arith }

  pub fill_start : (t : List ℕ) → length (lines_of f (walk (records s))) ≤ length t → Filling f (walk (records s)) t t (walk (records s)) 0
  fill_start t h = record { shallow = shallow; lines = putting-start t 0 _ (omega arith) }

module _ (f : Visit → List ℕ) (all : List Visit) {left next : List Visit} {v : Visit} (e : left ≡ v ∷ next) where
  shallow_left : Each (λ v. v.depth ≤ 1024) left → (v.depth ≤ 1024) × Each (λ v. v.depth ≤ 1024) next
  shallow_left w = subst (λ x. Each (λ v. v.depth ≤ 1024) x) e w

  pub measure-deep : {used : ℕ} → Measured f all left used → v.depth ≤ 1024
  measure-deep w = (shallow_left w.shallow).0

  pub fill-deep : {t₀ t : List ℕ} {q : ℕ} → Filling f all t₀ t left q → v.depth ≤ 1024
  fill-deep w = (shallow_left w.shallow).0

  lines-left : lines_of f left ≡ f v ++ lines_of f next
  unfolding lines_of
  lines-left = rw e

  pub measure-on : {used r : ℕ} → Measured f all left used → length (f v) ≤ 2100 → r ≡ 0 + length (f v) → Measured f all next (used + r)
  measure-on w h q = record {
    shallow = (shallow_left w.shallow).1;
    small = omega (arith, w.small, ap length e);
    sum = omega (arith, w.sum, ap length lines-left, length-append (f v) (lines_of f next));
  }

  pub measure-small : {used : ℕ} → Measured f all left used → used + 2100 ≤ 2150400
  measure-small w = omega (arith, w.small, ap length e)

  pub fill-room : {t₀ t : List ℕ} {q : ℕ} → Filling f all t₀ t left q → q + length (f v) ≤ length t
  fill-room w = putting-room (f v) (lines_of f next) w.lines lines-left

  pub fill_on : {t₀ t t' : List ℕ} {q q' : ℕ} → Filling f all t₀ t left q → length t' ≡ length t → Put t q (f v) t' q' → Filling f all t₀ t' next q'
  fill_on w k y = record { shallow = (shallow_left w.shallow).1; lines = putting-on w.lines lines-left k y }

module _ (f : Visit → List ℕ) (all : List Visit) {left : List Visit} (e : left ≡ []) where
  none-left : lines_of f left ≡ []
  unfolding lines_of
  none-left = rw e

  pub measure-end : {used : ℕ} → Measured f all left used → used ≡ length (lines_of f all)
  measure-end w = omega (arith, w.sum, ap length none-left)

  pub fill_end : {t₀ t : List ℕ} {q : ℕ} → Filling f all t₀ t left q → t ≡ over (lines_of f all) t₀
  fill_end w = (put-over (putting-end w.lines none-left)).1

-- room or no room
pub written_none : (w t : List ℕ) (n : ℕ) → n ≡ length w → length t < n → Written w t t (NoRoom n)
unfolding fits over_if
written_none w t n e l = let u : leb (length w) (length t) ≡ false = lt-leb (length w) (length t) (omega arith) in record { answer = rw (u, e); bytes = rw u }

pub written_all : (w t t' : List ℕ) (n : ℕ) → n ≡ length w → n ≤ length t → t' ≡ over w t → Written w t t' (Length n)
unfolding fits over_if
written_all w t t' n e l q = let u : leb (length w) (length t) ≡ true = le-leb (length w) (length t) (omega arith) in record { answer = rw (u, e); bytes = rw u q }

-- the plain lines
pub plain_lines : (its shown : List Rec) (vs : List Visit) → lines_of (visit_line false its shown) vs ≡ render (map (line_at its) vs)
unfolding lines_of visit_line render line_bytes front mark
plain_lines its shown [] = refl
plain_lines its shown (v ∷ vs) = ap (λ x. entry [] [] (line_at its v) ++ x) (plain_lines its shown vs)

text-plain : (its : List Rec) → lines_of (visit_line false its its) (walk its) ≡ text_of its
unfolding text_of
text-plain its = plain_lines its its (walk its)

-- the writer's answer, after the checks
module _ (s t : List ℕ) where
  pub write-refused : (n r : ℕ) → validity s ≡ refuse n r → (Refused n r ≡ write_answer s t) × (t ≡ write_after s t)
  unfolding write_answer write_after told told_after content
  write-refused n r e = (rw e, rw e)

  pub write_done : (t' : List ℕ) (r : TextWritten) → validity s ≡ pass → Written (lines_of (visit_line false (records s) (records s)) (walk (records s))) t t' r → (r ≡ write_answer s t) × (t' ≡ write_after s t)
  unfolding write_answer write_after told told_after content
  write_done t' r e w =
      let q = text-plain (records s) in
      (rw e (rw q at w.answer), rw e (rw q at w.bytes))

pub valid-sized : (s : List ℕ) → validity s ≡ pass → Whole s
valid-sized s v = record { whole = valid-whole s v; few = valid-few s v }
