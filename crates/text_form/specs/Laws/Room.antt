-- Room: a valid itinerary has at most 1,024 lines, each indented by at most one step more than the one before and with at
-- most 18 bytes after the indentation; the listing has at most 13 more in a line. So a program that lends enough always has
-- its text, which is empty where it is refused.
use Rattle.std.specs.Prelude.{◌*◌, ◌+◌, ◌≤◌, suc, zero, ℕ, leb, Bool, false, true, List, [], ◌∷◌, map}
use borrow.Author.Tests.{eqb-true, le-leb, leb-true}
use Rattle.std.proofs.Math.ListN.{length, length-map}
use Rattle.std.proofs.Common.{length-append, ◌∙◌, arith}
use Rattle.std.specs.Prelude.{Option, None, Some, Result, Ok, Err}
use Rattle.std.proofs.Math.Path.{◌≡◌, ap, refl, sym}
use Rattle.model.specs.Climbing.{hidden}
use Rattle.model.proofs.Laws.Booleans.{and_right}
use Rattle.model.proofs.Laws.WellFormed.{name-by}
use Rattle.model.specs.Listing.{digits_in, field}
use Rattle.model.specs.Numbers.{number_of}
use Rattle.model.specs.Records.{records}
use Rattle.model.specs.declared.Capability.TheVariants.{In as cap-in, Open as cap-open, Out as cap-out}
use Rattle.model.specs.Refusals.{Check, content, pass, refuse}
use Rattle.model.specs.Validity.{label_by, label_in, validity}
use Rattle.model.specs.declared.Rec.{Rec}
use Rattle.model.specs.declared.Refusal.{Refusal}
use Rattle.text_put.specs.Puts.{over}
use Rattle.text_put.specs.Digits.{digits-few, digits-two}
use Rattle.text_put.specs.Laws.{field-few}
use Rattle.text_form.specs.Laws.Clients.{client-short}
use Rattle.text_form.specs.Laws.Identity.{written-nested}
use Rattle.text_form.specs.Laws.Lines.{scan-nested}
use Rattle.text_form.specs.Laws.Nesting.{Nested, Right, cons, nil}
use Rattle.text_form.specs.Laws.Putting.{entry_length, fields-length}
use Rattle.text_form.specs.Laws.Walking.{mark-short}
use Rattle.text_form.specs.Lines.{ambient_kind, ambient_word, entry, in_word, kind_word, line_bytes, line_word, nested_kind, open_word, out_word, render, replication_word}
use Rattle.text_form.specs.Reading.{length_told, lines_answer, longest, read_answer, read_by, room_in, scan, scan_answer, scan_from}
use Rattle.text_form.specs.Writing.{Length, NoRoom, Refused, fits, line_at, lines_of, list_line, list_of, mark, no_text, over_if, shown_text, text_of, text_or, told, told_after, walk, written_as}
use Rattle.text_form.specs.declared.Kind.{Kind}
use Rattle.text_form.specs.declared.Kind.TheVariants.{Acts, Ambient, Replication}
use Rattle.text_form.specs.declared.Line.{Line}
use Rattle.text_form.specs.declared.Cause.{Cause}
use Rattle.text_form.specs.declared.Fault.{Fault}
use Rattle.text_form.specs.declared.WriteError.{WriteError}
use Rattle.text_form.specs.declared.WriteError.TheVariants as error
use Rattle.text_form.specs.declared.Visit.{Visit}

-- the room of n lines, the first indented by at most d steps
budget : ℕ → ℕ → ℕ
budget zero d = 0
budget (suc n) d = 2 * d + 18 + budget n (suc d)

budget-more : (n m d e : ℕ) → n ≤ m → d ≤ e → budget n d ≤ budget m e
unfolding budget
budget-more zero m d e h k = omega arith
budget-more (suc n) zero d e h k = absurd (omega arith)
budget-more (suc n) (suc m) d e h k = omega (arith, budget-more n m (suc d) (suc e) (omega arith) (omega arith))

-- the word and the label together
word-label : (k : Kind) (l : ℕ) → label_by (nested_kind k) (ambient_kind k) l ≡ true → length (kind_word k) + length (digits_in 5 l) ≤ 10
unfolding kind_word ambient_word in_word out_word open_word replication_word ambient_kind nested_kind label_by label_in
word-label Ambient l h = omega (arith, digits-two l (omega (arith, leb-true l 63 (and_right (leb 1 l) _ h))))
word-label (Acts cap-in) l h = omega (arith, digits-few 5 l)
word-label (Acts cap-out) l h = omega (arith, digits-few 5 l)
word-label (Acts cap-open) l h = omega (arith, digits-few 5 l)
word-label Replication l h = omega (arith, digits-two l (omega (arith, eqb-true l 0 h)))

line-short : (l : Line) → Right l → length (line_bytes l) ≤ 2 * l.depth + 18
unfolding line_bytes line_word
line-short l r =
    omega (arith, entry_length [] [] l, fields-length l, ap (λ x. length (line_word x)) r.known, word-label r.kind l.label r.label, digits-two l.name (omega (arith, name-by _ _ r.name)), client-short l.client r.client)

render-short : {d : ℕ} {ls : List Line} → Nested d ls → length (render ls) ≤ budget (length ls) d
unfolding render budget
render-short nil = omega arith
render-short {d} (cons {l = l} {ls = ls} h r n) =
    omega (arith, length-append (line_bytes l) (render ls), line-short l r, render-short n, budget-more (length ls) (length ls) (suc l.depth) (suc d) (omega arith) (omega arith))

-- 1,024 lines at most
pub lines-short : {ls : List Line} → Nested 0 ls → length ls ≤ 1024 → length (render ls) ≤ longest
unfolding budget
lines-short {ls} n h =
    let most : budget 1024 0 ≡ longest = refl in
    omega (arith, render-short n, budget-more (length ls) 1024 0 0 h (omega arith), most)

-- the lines of a listing
list-more : (its : List Rec) (hides : ℕ → Bool) (vs : List Visit) → length (lines_of (list_line its hides) vs) ≤ length (render (map (line_at its) vs)) + 13 * length vs
unfolding lines_of list_line render line_bytes
list-more its hides [] = omega arith
list-more its hides (v ∷ vs) =
    let l = line_at its v in
    let front = field v.number [] in
    let back = mark (hides v.number) in
    omega (arith, list-more its hides vs, length-append (entry front back l) (lines_of (list_line its hides) vs), length-append (entry [] [] l) (render (map (line_at its) vs)), entry_length front back l, entry_length [] [] l, field-few v.number, mark-short (hides v.number))

module _ (s : List ℕ) (v : validity s ≡ pass) where
  pub text-short : length (text_of (records s)) ≤ 1065984
  unfolding text_of
  text-short = let w = written-nested s v in lines-short w.0 w.1

  pub list-short : (S : ℕ → Bool) → length (list_of (records s) S) ≤ 1079296
  unfolding list_of text_of
  list-short S =
      omega (arith, list-more (records s) (hidden (records s) S) (walk (records s)), text-short, (written-nested s v).1, length-map (walk (records s)) (line_at (records s)))

-- what a writer with room leaves
module _ (c : Check) (w t t₁ : List ℕ) (r : Result ℕ WriteError) (e : written_as r ≡ told c w t) (f : t₁ ≡ told_after c w t) (room : c ≡ pass → length w ≤ length t) where
  with-room : c ≡ pass → (written_as r ≡ Length (length w)) × (t₁ ≡ over w t)
  unfolding told told_after content fits over_if
  with-room p = let l = le-leb (length w) (length t) (room p) in (e ∙ rw (p, told) (rw l), f ∙ rw (p, told_after) (rw l))

  without : (n i : ℕ) → c ≡ refuse n i → (written_as r ≡ Refused n i) × (t₁ ≡ t)
  unfolding told told_after content
  without n i q = (e ∙ rw q, f ∙ rw q)

  pub wrote : (other : List ℕ) (n : ℕ) → r ≡ Ok n → (n ≡ length (text_or other c w)) × (t₁ ≡ over (text_or other c w) t)
  unfolding text_or written_as
  wrote other n q = go c refl
    where
      go : (d : Check) → c ≡ d → (n ≡ length (text_or other d w)) × (t₁ ≡ over (text_or other d w) t)
      go pass p = let o = with-room p in let l : Length n ≡ Length (length w) = ap written_as (sym q) ∙ o.0 in (cc, o.1)
      go (refuse m i) p = let o = without m i p in let l : Length n ≡ Refused m i = ap written_as (sym q) ∙ o.0 in let u : ◌≡◌ {A = ℕ} 0 1 = cc in absurd (omega arith)

  -- where it is refused, the text is as it was, for the other bytes to be put there
  pub refused : (other : List ℕ) (x : Refusal) → r ≡ Err (error.Refused x) → {n : ℕ} {t₂ : List ℕ} → (n ≡ length other) × (t₂ ≡ over other t₁) →
      (n ≡ length (text_or other c w)) × (t₂ ≡ over (text_or other c w) t)
  unfolding text_or written_as
  refused other x q {n} {t₂} y = go c refl
    where
      go : (d : Check) → c ≡ d → (n ≡ length (text_or other d w)) × (t₂ ≡ over (text_or other d w) t)
      go pass p = let o = with-room p in let l : Refused (number_of x.cause) x.«record» ≡ Length (length w) = ap written_as (sym q) ∙ o.0 in let u : ◌≡◌ {A = ℕ} 0 1 = cc in absurd (omega arith)
      go (refuse m i) p = let o = without m i p in (y.0, y.1 ∙ ap (over other) o.1)

  pub never : (n : ℕ) → r ≡ Err (error.NoRoom n) → ⊥
  unfolding written_as
  never n q = go c refl
    where
      go : (d : Check) → c ≡ d → ⊥
      go pass p = let o = with-room p in let l : NoRoom n ≡ Length (length w) = ap written_as (sym q) ∙ o.0 in let u : ◌≡◌ {A = ℕ} 0 1 = cc in omega arith
      go (refuse m i) p = let o = without m i p in let l : NoRoom n ≡ Refused m i = ap written_as (sym q) ∙ o.0 in let u : ◌≡◌ {A = ℕ} 0 1 = cc in omega arith

-- the text or the other bytes have room where both have
pub or_short : (other : List ℕ) (c : Check) (w : List ℕ) (n : ℕ) → length other ≤ n → (c ≡ pass → length w ≤ n) → length (text_or other c w) ≤ n
unfolding text_or
or_short other pass w n l f = f refl
or_short other (refuse m i) w n l f = l

pub text-fits : (readable : Bool) (s : List ℕ) {n : ℕ} → n ≡ length (shown_text readable s) → n ≤ 1065984
unfolding shown_text no_text
text-fits true s e = omega (arith, or_short no_text (validity s) (text_of (records s)) 1065984 (omega arith) (text-short s))
text-fits false s e = omega (arith, e)

-- what hubshow fills, by whether its file could be read
module _ (readable : Bool) (s t : List ℕ) {n : ℕ} {t' : List ℕ} where
  pub shown_read : readable ≡ true → (n ≡ length (text_or no_text (validity s) (text_of (records s)))) × (t' ≡ over (text_or no_text (validity s) (text_of (records s))) t) →
      (n ≡ length (shown_text readable s)) × (t' ≡ over (shown_text readable s) t)
  unfolding shown_text
  shown_read b y = rw b y

  pub shown-unread : readable ≡ false → (n ≡ length no_text) × (t' ≡ over no_text t) → (n ≡ length (shown_text readable s)) × (t' ≡ over (shown_text readable s) t)
  unfolding shown_text
  shown-unread b y = rw b y

-- a length that is told changes no count
length-told : (k : ℕ) (b : Bool) (r : Result ℕ Fault) → Ok k ≡ length_told b r → Ok k ≡ r
unfolding length_told
length-told k true r e = e
length-told k false (Ok n) e = e
length-told k false (Err f) e = let u : ◌≡◌ {A = ℕ} 0 1 = cc in absurd (omega arith)

-- the records read have room in the bytes lent
pub read_fits : (text it : List ℕ) (k : ℕ) → Ok k ≡ read_answer text it → 8 * k ≤ length it
unfolding read_answer lines_answer scan_answer read_by room_in scan
read_fits text it k e = go (scan_from (room_in it) 0 text).fault refl
  where
    go : (f : Option Cause) → (scan_from (room_in it) 0 text).fault ≡ f → 8 * k ≤ length it
    go None q =
        let l : ◌≡◌ {A = Result ℕ Fault} (Ok k) (Ok (length (scan_from (room_in it) 0 text).lines)) = length-told k _ _ e ∙ rw q in
        let j : k ≡ length (scan_from (room_in it) 0 text).lines = cc in
        omega (arith, (scan-nested (room_in it) 0 text).1)
    go (Some c) q =
        let l : ◌≡◌ {A = Result ℕ Fault} (Ok k) (Err (record { line = suc (length (scan_from (room_in it) 0 text).lines); cause = c })) = length-told k _ _ e ∙ rw q in
        let u : ◌≡◌ {A = ℕ} 0 1 = cc in absurd (omega arith)
