-- The reader's loop: k lines are read and their records written.
use Prim.Native.Nat.{◌*◌, ◌+◌, ◌-◌, ◌/◌, ◌<◌, ◌≤◌, min, suc, zero, ℕ}
use Rattle.std.specs.Prelude.{drop, set, List, [], ◌++◌, ◌∷◌, ◌≢◌, ◌≡◌, refl}
use Rattle.std.proofs.Common.{drop_of_length-le, take_at, ◌∙◌}
use Rattle.std.proofs.Math.ListN.{get_or, length, length-drop, length-set, take}
use Rattle.std.proofs.Math.Seq.{drop-drop, get_or-drop, take_all}
use Rattle.std.specs.Prelude.{Option, None, Some, Result, Ok, Err}
use Rattle.std.specs.Result.{IsErrAnd, MatchResult}
use Rattle.std.proofs.Math.Path.{ap, sym}
use native.Mathlib.Omega.{arith}
use Rattle.records.specs.Written.{with_record, written, written-length, written_next, written_none}
use Rattle.model.proofs.Laws.Bytes.{length-encode}
use Rattle.model.specs.Records.{at, encode, gone}
use Rattle.text_put.specs.Puts.{over}
use Rattle.text_form.specs.Laws.Lines.{Got, line-good, scan-bad, scan_good, scan-nested}
use Rattle.text_form.specs.Laws.Nesting.{length-placed, none-length}
use Rattle.text_form.specs.Reading.{Scan, before, line_read, lines_answer, none_above, placed, placed_from, read_after, read_by, read_into, record_of, room_in, scan, scan_answer, scan_from}
use Rattle.text_form.specs.Parts.{scanned}
use Rattle.text_form.specs.declared.Line.{Line}
use Rattle.text_form.specs.declared.Cause.{Cause}
use Rattle.text_form.specs.declared.Cause.TheVariants as cause
use Rattle.text_form.specs.declared.Fault.{Fault}

-- a value came from the same value, and an error from one that it was made of
pub mapped-ok : {A E F : Type 0} (r : Result A E) (m : Result A F) (P : E → F → Type 0) {x : A} → MatchResult r (λ y. m ≡ Ok y) (λ e. IsErrAnd m (P e)) → m ≡ Ok x → r ≡ Ok x
mapped-ok (Ok y) m P {x} k q = let u : y ≡ x = cc in ap Ok u
mapped-ok (Err e) m P k q = absurd (rw q at k)

pub mapped-err : {A E F : Type 0} (r : Result A E) (m : Result A F) (P : E → F → Type 0) {y : F} → MatchResult r (λ x. m ≡ Ok x) (λ e. IsErrAnd m (P e)) → m ≡ Err y → (e : E) × (r ≡ Err e) × P e y
mapped-err (Ok x) m P k q = let u : ◌≡◌ {A = ℕ} 0 1 = cc in absurd (omega arith)
mapped-err (Err e) m P k q = (e, refl, rw q at k)

-- the scan from place p on, after k lines
unfoldable pub rest : ℕ → List ℕ → ℕ → ℕ → ℕ → Scan
rest room text p k deepest = scan_from (room - k) deepest (drop p text)

-- k lines are read, up to place p: the rest is what the whole scan has left, and the bytes hold the first k records
pub record Progress (room : ℕ) (text it₀ it above : List ℕ) (p k deepest : ℕ) : Type 0 where
  pub few : k ≤ room
  pub inside : p ≤ length text
  pub shallow : deepest ≤ k
  pub long : length above ≡ 1025
  pub sized : length it ≡ length it₀
  pub fault : (scan room text).fault ≡ (rest room text p k deepest).fault
  pub lines : length (scan room text).lines ≡ k + length (rest room text p k deepest).lines
  pub left : drop k (placed (scan room text).lines) ≡ placed_from (suc k) above (rest room text p k deepest).lines
  pub held : it ≡ written (placed (scan room text).lines) k it₀

pub first : (room : ℕ) (text it above : List ℕ) → above ≡ none_above → Progress room text it it above 0 0 0
unfolding scan rest placed
first room text it above e =
    let u : room - 0 ≡ room = omega arith in
    record {
      few = omega arith;
      inside = omega arith;
      shallow = omega arith;
      long = ap length e ∙ none-length;
      sized = refl;
      fault = rw u;
      lines = rw u (omega arith);
      left = rw (u, e);
      held = written_none _ it;
    }

length-all : (ls : List Line) → length (placed ls) ≡ length ls
unfolding placed
length-all ls = length-placed 1 none_above ls

scan-empty : (n deepest : ℕ) → scan_from n deepest [] ≡ record { lines = []; fault = None }
unfolding scan_from
scan-empty zero deepest = refl
scan-empty (suc n) deepest = refl

scan-full : (n deepest : ℕ) (s : List ℕ) → n ≡ 0 → length s ≢ 0 → scan_from n deepest s ≡ record { lines = []; fault = Some cause.TooMany }
unfolding scan_from
scan-full n deepest [] e z = absurd (z refl)
scan-full n deepest (c ∷ s) e z = rw e

not-empty : (s : List ℕ) → length s ≢ 0 → s ≢ []
not-empty s z e = z (ap length e)

module _ {room : ℕ} {text it₀ it above : List ℕ} {p k deepest : ℕ} (w : Progress room text it₀ it above p k deepest) where
  -- nothing more is read
  ends : (f : Option Cause) → rest room text p k deepest ≡ record { lines = []; fault = f } → (read_by k f ≡ scan_answer (scan room text)) × (it ≡ scanned (scan room text) it₀)
  unfolding scan_answer scanned
  ends f e =
      let g : (scan room text).fault ≡ f = w.fault ∙ ap (λ x. x.fault) e in
      let n : length (scan room text).lines ≡ k = w.lines ∙ ap (λ x. k + length x.lines) e ∙ omega arith in
      (rw (g, n), rw n w.held)

  pub done : length text ≤ p → (Ok k ≡ scan_answer (scan room text)) × (it ≡ scanned (scan room text) it₀)
  unfolding read_by rest
  done h = ends None (rw (drop_of_length-le text h) (scan-empty (room - k) deepest))

  more : p < length text → length (drop p text) ≢ 0
  more h = λ z. omega (arith, z, length-drop p text)

  pub full : p < length text → room ≤ k → (Err (record { line = k + 1; cause = cause.TooMany }) ≡ scan_answer (scan room text)) × (it ≡ scanned (scan room text) it₀)
  unfolding read_by rest
  full h l = let u : k + 1 ≡ suc k = omega arith in rw u (ends (Some cause.TooMany) (scan-full (room - k) deepest (drop p text) (omega arith) (more h)))

  pub bad : (c : Cause) → p < length text → k < room → line_read deepest (drop p text) ≡ Err c → (Err (record { line = k + 1; cause = c }) ≡ scan_answer (scan room text)) × (it ≡ scanned (scan room text) it₀)
  unfolding read_by rest
  bad c h l e =
      let u : k + 1 ≡ suc k = omega arith in
      let v : room - k ≡ suc (room - (k + 1)) = omega arith in
      rw u (ends (Some c) (ap (λ n. scan_from n deepest (drop p text)) v ∙ scan-bad _ deepest (drop p text) c (not-empty _ (more h)) e))

  module _ (line : Line) (n : ℕ) (h : p < length text) (l : k < room) (e : line_read deepest (drop p text) ≡ Ok (record { line = line; left = n })) where
    got : Got deepest (drop p text) line n
    got = line-good deepest (drop p text) e

    pub fewer : n ≤ length text
    fewer = omega (arith, got.fewer, length-drop p text)

    pub depth-few : line.depth ≤ k
    depth-few = omega (arith, got.deep, w.shallow)

    again : rest room text p k deepest ≡ before line (rest room text (length text - n) (k + 1) (line.depth + 1))
    unfolding rest
    again =
        let v : room - k ≡ suc (room - (k + 1)) = omega arith in
        let d : line.depth + 1 ≡ suc line.depth = omega arith in
        let q : p + (length (drop p text) - n) ≡ length text - n = omega (arith, got.fewer, length-drop p text) in
        ap (λ n. scan_from n deepest (drop p text)) v
        ∙ scan_good (room - (k + 1)) deepest (drop p text) line n e
        ∙ rw (d, drop-drop (length (drop p text) - n) p text, q)

    -- the records left: the line's, and then the others
    placed-here : drop k (placed (scan room text).lines) ≡ record_of line (get_or above line.depth 0) ∷ placed_from (suc (suc k)) (set above (suc line.depth) (suc k)) (rest room text (length text - n) (k + 1) (line.depth + 1)).lines
    unfolding placed_from before
    placed-here = w.left ∙ ap (λ x. placed_from (suc k) above x.lines) again

    record-here : record_of line (get_or above line.depth 0) ≡ at (placed (scan room text).lines) (k + 1)
    unfolding at
    record-here =
        let u : k + 1 ≡ suc k = omega arith in
        let z : k + 0 ≡ k = omega arith in
        rw u (ap (λ x. get_or x 0 gone) (sym placed-here) ∙ get_or-drop k (placed (scan room text).lines) 0 gone ∙ ap (λ i. get_or (placed (scan room text).lines) i gone) z)

    longer : k < length (placed (scan room text).lines)
    unfolding before
    longer = omega (arith, length-all (scan room text).lines, w.lines, ap (λ x. length x.lines) again)

    pub next : (it' above' : List ℕ) → 8 * room ≤ length it₀ → it' ≡ with_record it (k + 1) (record_of line (get_or above line.depth 0)) → above' ≡ set above (line.depth + 1) (k + 1) →
        Progress room text it₀ it' above' (length text - n) (k + 1) (line.depth + 1)
    unfolding before
    next it' above' m i a =
        let u : k + 1 ≡ suc k = omega arith in
        let d : line.depth + 1 ≡ suc line.depth = omega arith in
        let g : it' ≡ written (placed (scan room text).lines) (k + 1) it₀ = i ∙ written_next (placed (scan room text).lines) it₀ k it _ longer w.held record-here in
        record {
          few = omega arith;
          inside = omega arith;
          shallow = omega (arith, depth-few);
          long = ap length a ∙ length-set above _ _ ∙ w.long;
          sized = ap length g ∙ written-length (placed (scan room text).lines) it₀ (k + 1) (omega (arith, longer)) (omega arith);
          fault = w.fault ∙ ap (λ x. x.fault) again;
          lines = w.lines ∙ ap (λ x. k + length x.lines) again ∙ omega arith;
          left = sym (drop-drop 1 k (placed (scan room text).lines)) ∙ ap (drop 1) placed-here ∙ rw (a, d, u);
          held = g;
        }

-- what the answer tells of a scan
answer-records : (x : Scan) (n : ℕ) → scan_answer x ≡ Ok n → (x.fault ≡ None) × (length x.lines ≡ n)
unfolding scan_answer read_by
answer-records x n e = go x.fault refl
  where
    go : (f : Option Cause) → x.fault ≡ f → (x.fault ≡ None) × (length x.lines ≡ n)
    go None q = let u : ◌≡◌ {A = Result ℕ Fault} (Ok (length x.lines)) (Ok n) = rw q at e in let v : length x.lines ≡ n = cc in (q, v)
    go (Some c) q = let u : ◌≡◌ {A = Result ℕ Fault} (Err (record { line = suc (length x.lines); cause = c })) (Ok n) = rw q at e in let v : ◌≡◌ {A = ℕ} 0 1 = cc in absurd (omega arith)

answer-fault : (x : Scan) (y : Fault) (b it : List ℕ) → scan_answer x ≡ Err y → it ≡ read_into x.fault b it
unfolding scan_answer read_by read_into
answer-fault x y b it e = go x.fault refl
  where
    go : (f : Option Cause) → x.fault ≡ f → it ≡ read_into x.fault b it
    go None q = let u : ◌≡◌ {A = Result ℕ Fault} (Ok (length x.lines)) (Err y) = rw q at e in let v : ◌≡◌ {A = ℕ} 0 1 = cc in absurd (omega arith)
    go (Some d) q = rw q

module _ (text it scratch : List ℕ) (room : ℕ) (got : Result ℕ Fault) (m : room ≡ min 1024 (length it / 8)) (a : got ≡ scan_answer (scan room text)) where
  same-room : scan room text ≡ scan (room_in it) text
  unfolding room_in
  same-room = ap (λ r. scan r text) m

  same_answer : got ≡ lines_answer text it
  unfolding lines_answer
  same_answer = a ∙ ap scan_answer same-room

  pub read-fault : {y : Fault} → got ≡ Err y → (got ≡ lines_answer text it) × (it ≡ read_after text it)
  unfolding read_after
  read-fault {y} e = (same_answer, rw (← same-room) (answer-fault (scan room text) y _ it (sym a ∙ e)))

  module _ (n : ℕ) (e : got ≡ Ok n) (long : length scratch ≡ 8192) where
    whole : ((scan room text).fault ≡ None) × (length (scan room text).lines ≡ n)
    whole = answer-records (scan room text) n (sym a ∙ e)

    pub read-few : 8 * n ≤ length it
    unfolding scan
    read-few = omega (arith, (scan-nested room 0 text).1, whole.1)

    pub read_fits : 8 * n ≤ 8192
    unfolding scan
    read_fits = omega (arith, (scan-nested room 0 text).1, whole.1)

    head : take (8 * n) (scanned (scan room text) scratch) ≡ encode (placed (scan room text).lines)
    unfolding scanned written
    head =
        let k : length (placed (scan room text).lines) ≤ length (scan room text).lines = omega (arith, length-all (scan room text).lines) in
        let u : length (encode (placed (scan room text).lines)) ≡ 8 * n = length-encode _ ∙ omega (arith, length-all (scan room text).lines, whole.1) in
        rw (take_all (length (scan room text).lines) (placed (scan room text).lines) k) (take_at (encode (placed (scan room text).lines)) _ (8 * n) u)

    pub read-records : (scratch' it' : List ℕ) → scratch' ≡ scanned (scan room text) scratch →
        it' ≡ take (length (take (8 * n) scratch')) (take (8 * n) scratch') ++ drop (length (take (8 * n) scratch')) it → (Ok n ≡ lines_answer text it) × (it' ≡ read_after text it)
    unfolding read_after read_into over
    read-records scratch' it' p q =
        let w : take (8 * n) scratch' ≡ encode (placed (scan room text).lines) = ap (take (8 * n)) p ∙ head in
        let b = encode (placed (scan room text).lines) in
        (sym e ∙ same_answer, q ∙ rw (w, take_all (length b) b (omega arith), ← same-room, whole.0))
