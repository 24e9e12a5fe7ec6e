-- What hubtext writes: a text that is read without a fault gives its itinerary, which is valid, and any other gives bytes
-- that every call on an itinerary refuses with 1. So nothing but a text without a fault passes as an itinerary, not even as
-- an empty one. Then the laws of the function that fills the bytes: by the reader's answer.
use Rattle.std.specs.Prelude.{◌*◌, ◌≤◌, ℕ, Bool, false, true, List, ◌≡◌, refl}
use Rattle.std.proofs.Math.ListN.{length}
use Rattle.std.specs.Prelude.{Option, None, Some, Ok, Err}
use Rattle.std.proofs.Common.{◌∙◌, arith}
use Rattle.std.proofs.Math.Path.{ap, sym}
use Rattle.model.proofs.Laws.Bytes.{length-encode}
use Rattle.model.specs.Refusals.{and_then, need, pass, refuse}
use Rattle.model.specs.Validity.{form, size_right, validity}
use Rattle.text_put.specs.Puts.{over}
use Rattle.text_form.specs.Laws.Identity.{read-valid}
use Rattle.text_form.specs.Laws.Nesting.{length-placed}
use Rattle.text_form.specs.Laws.Room.{read_fits}
use Rattle.text_form.specs.Reading.{bytes_of, bytes_or, converted, length_told, lines_answer, no_itinerary, none_above, placed, read_after, read_answer, read_by, read_into, room_in, scan, scan_answer}
use Rattle.text_form.specs.declared.Cause.{Cause}
use Rattle.text_form.specs.declared.Fault.{Fault}

pub none-refused : validity no_itinerary ≡ refuse 1 0
unfolding validity form size_right no_itinerary need and_then
none-refused = refl

-- a file that can't be read, and a text with a fault
pub unread-refused : (text : List ℕ) → validity (converted false text) ≡ refuse 1 0
unfolding converted
unread-refused text = none-refused

pub fault-refused : (text : List ℕ) (c : Cause) → (scan 1024 text).fault ≡ Some c → validity (converted true text) ≡ refuse 1 0
unfolding converted bytes_or
fault-refused text c e = rw e none-refused

-- a text without one
pub read-converted : (text : List ℕ) → (scan 1024 text).fault ≡ None → converted true text ≡ bytes_of text
unfolding converted bytes_or
read-converted text e = rw e

pub read-passes : (text : List ℕ) → (scan 1024 text).fault ≡ None → validity (converted true text) ≡ pass
unfolding bytes_of
read-passes text e = ap validity (read-converted text e) ∙ read-valid 1024 text (omega arith)

-- only a text that is read, and without a fault, passes as an itinerary
pub passes-read : (readable : Bool) (text : List ℕ) → validity (converted readable text) ≡ pass → (readable ≡ true) × ((scan 1024 text).fault ≡ None)
passes-read false text v = let u : refuse 1 0 ≡ pass = sym (unread-refused text) ∙ v in let w : ◌≡◌ {A = ℕ} 0 1 = cc in absurd (omega arith)
passes-read true text v = go (scan 1024 text).fault refl
  where
    go : (f : Option Cause) → (scan 1024 text).fault ≡ f → (true ≡ true) × ((scan 1024 text).fault ≡ None)
    go None e = (refl, e)
    go (Some c) e = let u : refuse 1 0 ≡ pass = sym (fault-refused text c e) ∙ v in let w : ◌≡◌ {A = ℕ} 0 1 = cc in absurd (omega arith)

-- what the reader's answer tells of the scan
records-none : (n k : ℕ) (b : Bool) (f : Option Cause) → Ok k ≡ length_told b (read_by n f) → (f ≡ None) × (n ≡ k)
unfolding length_told read_by
records-none n k true None e = (refl, cc)
records-none n k false None e = (refl, cc)
records-none n k true (Some c) e = let w : ◌≡◌ {A = ℕ} 0 1 = cc in absurd (omega arith)
records-none n k false (Some c) e = let w : ◌≡◌ {A = ℕ} 0 1 = cc in absurd (omega arith)

fault-some : (n : ℕ) (x : Fault) (b : Bool) (f : Option Cause) → Err x ≡ length_told b (read_by n f) → (c : Cause) × (f ≡ Some c)
unfolding length_told read_by
fault-some n x true None e = let w : ◌≡◌ {A = ℕ} 0 1 = cc in absurd (omega arith)
fault-some n x false None e = let w : ◌≡◌ {A = ℕ} 0 1 = cc in absurd (omega arith)
fault-some n x b (Some c) e = (c, refl)

none-length : length no_itinerary ≡ 1
unfolding no_itinerary
none-length = refl

-- what is filled into bytes: so many of them, at their start
abbrev pub FilledWith : List ℕ → List ℕ → List ℕ → ℕ → Type 0
FilledWith w it it' r = (r ≡ length w) × (it' ≡ over w it) × (r ≤ length it')

none_filled : (w it it' : List ℕ) (r : ℕ) → no_itinerary ≡ w → length it ≡ 8192 → length it' ≡ length it → (r ≡ length no_itinerary) × (it' ≡ over no_itinerary it) → FilledWith w it it' r
none_filled w it it' r e long k h = (h.0 ∙ ap length e, h.1 ∙ ap (λ x. over x it) e, omega (arith, h.0, none-length))

-- into 8,192 bytes there is room for every record
module _ (readable : Bool) (text it : List ℕ) (long : length it ≡ 8192) (it' : List ℕ) (kept : length it' ≡ length it) where
  pub convert-unread : (r : ℕ) → readable ≡ false → (r ≡ length no_itinerary) × (it' ≡ over no_itinerary it) → FilledWith (converted readable text) it it' r
  unfolding converted
  convert-unread r b h = none_filled _ it it' r (rw b) long kept h

  room : room_in it ≡ 1024
  unfolding room_in
  room = omega (arith, long)

  same-scan : scan (room_in it) text ≡ scan 1024 text
  same-scan = ap (λ n. scan n text) room

  pub convert-read : (k : ℕ) → readable ≡ true → Ok k ≡ read_answer text it → it' ≡ read_after text it → FilledWith (converted readable text) it it' (8 * k)
  unfolding read_answer lines_answer scan_answer read_after read_into bytes_of placed
  convert-read k b e h =
      let whole = records-none _ k _ _ e in
      let f : (scan 1024 text).fault ≡ None = sym (ap (λ x. x.fault) same-scan) ∙ whole.0 in
      let w : converted readable text ≡ bytes_of text = ap (λ x. converted x text) b ∙ read-converted text f in
      let n = ap (λ x. length x.lines) same-scan in
      let m = length-placed 1 none_above (scan 1024 text).lines in
      (sym (ap length w ∙ length-encode _ ∙ omega (arith, n, m, whole.1)), h ∙ rw (same-scan, f) (ap (λ x. over x it) (sym w)), omega (arith, read_fits text it k e))

  pub convert-fault : (r : ℕ) (x : Fault) (it₁ : List ℕ) → readable ≡ true → Err x ≡ read_answer text it → it₁ ≡ read_after text it → (r ≡ length no_itinerary) × (it' ≡ over no_itinerary it₁) →
      FilledWith (converted readable text) it it' r
  unfolding read_answer lines_answer scan_answer read_after read_into converted bytes_or
  convert-fault r x it₁ b e g h =
      let faulty = fault-some _ x _ _ e in
      let f : (scan 1024 text).fault ≡ Some faulty.0 = sym (ap (λ x. x.fault) same-scan) ∙ faulty.1 in
      let same : it₁ ≡ it = g ∙ rw faulty.1 in
      none_filled _ it it' r (rw (b, f)) long kept (h.0, h.1 ∙ ap (over no_itinerary) same)
