-- The listing: the sheet tells what is hidden.
use Rattle.std.specs.Prelude.{◌%◌, ◌<◌, suc, zero, ℕ, eqb, length, Bool, false, true, List, ◌++◌, ◌≢◌, ◌≡◌, refl}
use Rattle.std.specs.Prelude.{Option, None, Some, Result, Ok, Err}
use Rattle.std.proofs.Common.{eq-eqb, ne_eqb, ◌∙◌, ap₂, arith}
use Rattle.std.proofs.lemmas.Bool.{lt-leb}
use Rattle.std.proofs.Math.Bool.{and-false}
use Rattle.std.proofs.Math.Path.{ap, sym}
use Rattle.model.specs.Calls.{sheet_after, sheet_answer, showing}
use Rattle.model.specs.Climbing.{hidden}
use Rattle.model.proofs.Laws.Bytes.{records-encode, valid-size}
use Rattle.model.proofs.Laws.Checks.{answer-done, answer-refused, then-refuse, passes}
use Rattle.model.proofs.Laws.Sheet.{sheet-hidden, sheet-shown}
use Rattle.model.specs.Numbers.{answer_as, number_of, refusal}
use Rattle.model.specs.Observer.{sheet, sheet_of}
use Rattle.model.specs.Records.{at, records}
use Rattle.model.specs.Refusals.{◌▸◌, Check, and_then, content, need, pass, refuse}
use Rattle.model.specs.Tables.{suspects, table_right}
use Rattle.model.specs.Validity.{size_right, validity}
use Rattle.model.specs.declared.Rec.{Rec}
use Rattle.model.specs.declared.Refusal.{Refusal}
use Rattle.text_form.specs.Laws.Identity.{next-visited, walk_end}
use Rattle.text_form.specs.Laws.Nesting.{walk-next}
use Rattle.text_form.specs.Laws.Walking.{valid-sized}
use Rattle.text_form.specs.Lines.{entry}
use Rattle.text_form.specs.Parts.{Whole, Written, front, visit_line}
use Rattle.text_form.specs.Writing.{Refused, TextWritten, line_at, lines_of, list_after, list_answer, list_line, list_of, listable, mark, next_from, told, told_after, walk, walk_from}
use Rattle.text_form.specs.declared.Visit.{Visit}

-- lines that agree on what is not gone agree on a walk
lines_same : (f g : Visit → List ℕ) (its : List Rec) → ((v : Visit) → (at its v.number).kind ≢ 0 → f v ≡ g v) → (n p d : ℕ) → lines_of f (walk_from its n p d) ≡ lines_of g (walk_from its n p d)
unfolding walk_from lines_of
lines_same f g its h zero p d = refl
lines_same f g its h (suc n) p d = go (next_from its d p 0) refl (lines_same f g its h n)
  where
    go : (o : Option Visit) → next_from its d p 0 ≡ o → ((p d : ℕ) → lines_of f (walk_from its n p d) ≡ lines_of g (walk_from its n p d)) → lines_of f (walk_from its (suc n) p d) ≡ lines_of g (walk_from its (suc n) p d)
    go None e ih = rw (walk_end its n p d e)
    go (Some v) e ih = rw (walk-next its n p d v e) (ap₂ (λ x y. x ++ y) (h v (next-visited its d p 0 v e).alive) (ih v.number (suc v.depth)))

-- gone on the sheet, and not gone itself: hidden
hidden-is : (its : List Rec) (S : ℕ → Bool) (j : ℕ) → (at its j).kind ≢ 0 → eqb (at (sheet its S) j).kind 0 ≡ hidden its S j
hidden-is its S j z = go (hidden its S j) refl
  where
    go : (b : Bool) → hidden its S j ≡ b → eqb (at (sheet its S) j).kind 0 ≡ hidden its S j
    go true e = rw (sheet-hidden its S j e) (sym e)
    go false e = rw (sheet-shown its S j e) (ne_eqb _ _ z ∙ sym e)

list-lines : (its : List Rec) (S : ℕ → Bool) → lines_of (visit_line true its (sheet its S)) (walk its) ≡ list_of its S
unfolding list_of walk visit_line list_line front
list-lines its S = lines_same (visit_line true its (sheet its S)) (list_line its (hidden its S)) its (λ v z. ap (λ b. entry (front true v.number) (mark b) (line_at its v)) (hidden-is its S v.number z)) _ 0 0

then-nothing : (c : Check) → and_then c pass ≡ c
unfolding and_then
then-nothing pass = refl
then-nothing (refuse n r) = refl

module _ (s table t : List ℕ) where
  refuses : (n r : ℕ) → listable s table ≡ refuse n r → (Refused n r ≡ list_answer s table t) × (t ≡ list_after s table t)
  unfolding list_answer list_after told told_after content
  refuses n r e = (rw e, rw e)

  -- an itinerary that is too long
  pub list-long : 8192 < length s → (Refused 1 0 ≡ list_answer s table t) × (t ≡ list_after s table t)
  unfolding listable size_right
  list-long l = refuses _ _ (then-refuse _ (valid-size s (rw (lt-leb (length s) 8192 l) (and-false (eqb (length s % 8) 0)))))

  module _ (d d' : List ℕ) (l : length d ≡ length s) (r : Result (Unit {0}) Refusal) (a : answer_as r ≡ sheet_answer s table d) (b : d' ≡ sheet_after s table d) where
    showing-is : showing s table d ≡ listable s table
    unfolding showing listable need
    showing-is = rw (eq-eqb _ _ l) (then-nothing (validity s ▸ need (table_right table) 8 0))

    pub list-refused : {x : Refusal} → r ≡ Err x → (Refused (number_of x.cause) x.«record» ≡ list_answer s table t) × (t ≡ list_after s table t)
    unfolding answer_as refusal sheet_answer
    list-refused {x} e = refuses _ _ (sym showing-is ∙ answer-refused (showing s table d) _ (sym a ∙ ap answer_as e))

    module _ {y : Unit {0}} (e : r ≡ Ok y) where
      shown : showing s table d ≡ pass
      unfolding answer_as sheet_answer
      shown = answer-done (showing s table d) _ _ (sym a ∙ ap answer_as e)

      pub list-valid : validity s ≡ pass
      unfolding showing
      list-valid = let e = shown in search passes depth 12

      sheet-records : records d' ≡ sheet (records s) (suspects table)
      unfolding sheet_after sheet_of content
      sheet-records = ap records (b ∙ rw shown) ∙ records-encode _

      pub list_done : (t' : List ℕ) (x : TextWritten) → Written (lines_of (visit_line true (records s) (records d')) (walk (records s))) t t' x → (x ≡ list_answer s table t) × (t' ≡ list_after s table t)
      unfolding list_answer list_after told told_after content
      list_done t' x w =
          let q = list-lines (records s) (suspects table) in
          let p : listable s table ≡ pass = sym showing-is ∙ shown in
          (rw p (rw q at (rw sheet-records at w.answer)), rw p (rw q at (rw sheet-records at w.bytes)))

      pub list-whole : length d' ≡ length d → Whole d'
      list-whole k = let v = valid-sized s list-valid in record { whole = ap (λ n. n % 8) (k ∙ l) ∙ v.whole; few = omega (arith, v.few) }
