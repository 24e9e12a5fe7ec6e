-- Bytes put one after the other are put as one.
use Rattle.std.specs.Prelude.{◌+◌, ◌-◌, ◌<◌, ◌≤◌, ℕ, drop, set, take, List, [], ◌++◌, ◌∷◌, ◌≡◌, refl}
use Rattle.std.proofs.Common.{take-append-drop, take_at, append_assoc, ◌∙◌, ap, sym, add-one}
use Rattle.std.proofs.Math.ListN.{length, length-append}
use Rattle.std.proofs.Math.Seq.{drop-append-add, drop-drop, length-take-le}
use Rattle.std.proofs.lemmas.List.{set_split}
use borrow.Rule.Slice.PartMut.{put_mid}
use native.Mathlib.Omega.{arith}
use Rattle.model.specs.Listing.{digits_in, field, last_field}
use Rattle.text_put.specs.Digits.{digits-few}
use Rattle.text_put.specs.Puts.{Put, Putting, field_by, over, splice}

module _ (t : List ℕ) (p : ℕ) (w : List ℕ) where
  -- bytes put after bytes that were put
  pub splice-splice : (v : List ℕ) (q : ℕ) → q ≡ p + length w → q + length v ≤ length t → splice q v (splice p w t) ≡ splice p (w ++ v) t
  unfolding splice
  splice-splice v q e h =
      let a : length (take p t ++ w) ≡ q = length-append (take p t) w ∙ omega (arith, length-take-le p t (omega arith)) in
      let b : q + length v ≡ length (take p t ++ w) + length v = omega arith in
      let c : p + length w + length v ≡ p + length (w ++ v) = omega (arith, length-append w v) in
      rw (sym (append_assoc (take p t) w (drop (p + length w) t)))
      (rw (take_at (take p t ++ w) (drop (p + length w) t) q a, b, drop-append-add (take p t ++ w) (drop (p + length w) t) (length v), drop-drop (length v) (p + length w) t, c)
      (simp append_assoc))

-- a part of n bytes written with n bytes
pub put-part : (t : List ℕ) (p : ℕ) (w : List ℕ) {n : ℕ} {u : List ℕ} → n ≡ length w → u ≡ w → Put t p w (put_mid p (p + n - p) t u) (p + n)
unfolding splice
put-part t p w {n} {u} k e =
    let l : p + n - p ≡ length w = omega arith in
    record { end = ap (λ x. p + x) k; bytes = rw (l, e, drop-drop (length w) p t) refl }

-- nothing put
pub splice-nil : (p : ℕ) (t : List ℕ) → t ≡ splice p [] t
unfolding splice
splice-nil p t = let e : p + 0 ≡ p = omega arith in rw e (sym (take-append-drop p t))

-- put at the start
pub splice-over : (w t : List ℕ) → splice 0 w t ≡ over w t
unfolding splice over
splice-over w t = let e : 0 + length w ≡ length w = omega arith in rw e

-- one byte
pub splice-byte : (t : List ℕ) (p b : ℕ) → p < length t → set t p b ≡ splice p (b ∷ []) t
unfolding splice
splice-byte t p b h = set_split t p b h ∙ rw (add-one p)

pub put-nil : (t : List ℕ) (p : ℕ) → Put t p [] t p
put-nil t p = record { end = omega arith; bytes = splice-nil p t }

pub put_one : (t : List ℕ) (p b : ℕ) → p + 1 ≤ length t → Put t p (b ∷ []) (set t p b) (p + 1)
put_one t p b h = record { end = refl; bytes = splice-byte t p b (omega arith) }

pub put_as : {t w v t' : List ℕ} {p e : ℕ} → w ≡ v → Put t p w t' e → Put t p v t' e
put_as q x = rw (← q) x

-- one after the other
pub put_then : {t w t₁ v t₂ : List ℕ} {p e₁ e₂ : ℕ} → Put t p w t₁ e₁ → Put t₁ e₁ v t₂ e₂ → e₂ ≤ length t → Put t p (w ++ v) t₂ e₂
put_then {t} {w} {t₁} {v} {t₂} {p} {e₁} {e₂} x y h = record {
  end = omega (arith, x.end, y.end, length-append w v);
  bytes = y.bytes ∙ ap (splice e₁ v) x.bytes ∙ splice-splice t p w v e₁ x.end (omega (arith, y.end));
}

-- what is put at the start, and the rest of the text
pub put-over : {t w t' : List ℕ} {e : ℕ} → Put t 0 w t' e → (e ≡ length w) × (t' ≡ over w t)
put-over {t} {w} x = (omega (arith, x.end), x.bytes ∙ splice-over w t)

-- bytes put one part after the other: nothing yet, one part more, all
pub putting-start : (t : List ℕ) (p : ℕ) (w : List ℕ) → p + length w ≤ length t → Putting t p w t p w
putting-start t p w h = record { end = refl; room = h; sized = refl; bytes = refl }

pub putting-on : {t₀ w t rest v t' next : List ℕ} {p q q' : ℕ} → Putting t₀ p w t q rest → rest ≡ v ++ next → length t' ≡ length t → Put t q v t' q' → Putting t₀ p w t' q' next
putting-on {t = t} {v = v} {next = next} {q = q} {q' = q'} x e k y =
    let l : q' + length next ≡ q + length (v ++ next) = omega (arith, y.end, length-append v next) in
    let m = ap length e in
    record {
      end = omega (arith, x.end);
      room = omega (arith, x.room);
      sized = k ∙ x.sized;
      bytes = ap (splice q' next) y.bytes ∙ splice-splice t q v next q' y.end (omega (arith, x.room)) ∙ ap (λ u. splice q u t) (sym e) ∙ x.bytes;
    }

pub putting-room : {t₀ w t rest : List ℕ} {p q : ℕ} (v next : List ℕ) → Putting t₀ p w t q rest → rest ≡ v ++ next → q + length v ≤ length t
putting-room v next x e = omega (arith, x.room, ap length e, length-append v next)

pub putting-end : {t₀ w t rest : List ℕ} {p q : ℕ} → Putting t₀ p w t q rest → rest ≡ [] → Put t₀ p w t q
putting-end {t = t} {q = q} x e =
    let m = ap length e in
    record { end = omega (arith, x.end); bytes = splice-nil q t ∙ ap (λ u. splice q u t) (sym e) ∙ x.bytes }

-- a field and what follows it
pub field-then : (n : ℕ) (v w : List ℕ) → field n v ++ w ≡ field n (v ++ w)
unfolding field
field-then n v w = append_assoc (digits_in 5 n) (32 ∷ v) w

pub last_then : (n : ℕ) (v w : List ℕ) → last_field n v ++ w ≡ last_field n (v ++ w)
unfolding last_field
last_then n v w = append_assoc (digits_in 5 n) (10 ∷ v) w

-- a space ends a field, and byte 10 the last one
pub field-by : (n : ℕ) (v : List ℕ) → field_by n 32 ++ v ≡ field n v
unfolding field field_by
field-by n v = append_assoc (digits_in 5 n) (32 ∷ []) v

pub last-by : (n : ℕ) (v : List ℕ) → field_by n 10 ++ v ≡ last_field n v
unfolding last_field field_by
last-by n v = append_assoc (digits_in 5 n) (10 ∷ []) v

pub field-length : (n : ℕ) (v : List ℕ) → length (field n v) ≡ length (field_by n 32) + length v
field-length n v = ap length (sym (field-by n v)) ∙ length-append (field_by n 32) v

pub last-length : (n : ℕ) (v : List ℕ) → length (last_field n v) ≡ length (field_by n 10) + length v
last-length n v = ap length (sym (last-by n v)) ∙ length-append (field_by n 10) v

pub by-length : (n end : ℕ) → length (field_by n end) ≡ length (digits_in 5 n) + 1
unfolding field_by
by-length n end = length-append (digits_in 5 n) (end ∷ [])

-- no field is longer than five digits and the byte after them
pub by-short : (n end : ℕ) → length (field_by n end) ≤ 6
by-short n end = omega (arith, by-length n end, digits-few 5 n)

pub by-room : (n end p l : ℕ) → p + 6 ≤ l → p + length (field_by n end) ≤ l
by-room n end p l h = omega (arith, h, by-short n end)

pub field-few : (n : ℕ) → length (field n []) ≤ 6
field-few n = omega (arith, field-length n [], by-short n 32)

-- a number's digits and the byte after them
pub field_put : (n end : ℕ) {t t₁ t₂ : List ℕ} {p e₁ e₂ : ℕ} → p + length (field_by n end) ≤ length t → Put t p (digits_in 5 n) t₁ e₁ → Put t₁ e₁ (end ∷ []) t₂ e₂ → Put t p (field_by n end) t₂ e₂
unfolding field_by
field_put n end h x y = put_then x y (omega (arith, length-append (digits_in 5 n) (end ∷ []), x.end, y.end))

-- a word and two numbers put one after the other
pub line-put : (n m : ℕ) {t w t₁ t₂ t₃ : List ℕ} {e₁ e₂ e₃ : ℕ} → length w + 12 ≤ length t →
    Put t 0 w t₁ e₁ → Put t₁ e₁ (field_by n 32) t₂ e₂ → Put t₂ e₂ (field_by m 10) t₃ e₃ → Put t 0 (w ++ field n (last_field m [])) t₃ e₃
unfolding last_field field_by
line-put n m {w = w} h x y z =
    let k = by-short n 32 in
    let l = by-short m 10 in
    put_as (append_assoc w (field_by n 32) (field_by m 10) ∙ ap (λ v. w ++ v) (field-by n (field_by m 10)))
    (put_then (put_then x y (omega (arith, x.end, y.end))) z (omega (arith, x.end, y.end, z.end)))

pub line-few : (n m : ℕ) → length (field n (last_field m [])) ≤ 12
line-few n m = omega (arith, field-length n (last_field m []), by-short n 32, last-length m [], by-short m 10)
