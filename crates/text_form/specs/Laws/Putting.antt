-- Bytes put at a place.
use Rattle.std.specs.Prelude.{◌*◌, ◌+◌, ◌≤◌, ℕ, length, replicate, List, [], ◌++◌, ◌∷◌, Bool, false, true, ◌≢◌, ◌≡◌}
use Rattle.std.specs.Prelude.{Option, None, Some}
use Rattle.std.proofs.Common.{length-append, append_assoc, ◌∙◌, ap, sym, arith}
use Rattle.std.proofs.lemmas.List.{length-replicate}
use Rattle.model.specs.Listing.{digits_in, field}
use Rattle.text_put.specs.Puts.{Put, field_by}
use Rattle.text_put.specs.Laws.{by-length, put_as, put_then}
use Rattle.text_form.specs.Laws.Clients.{client-some}
use Rattle.text_form.specs.Lines.{client_bytes, entry, hidden_word, indent, line_word}
use Rattle.text_form.specs.Parts.{fields, numbered}
use Rattle.text_form.specs.Writing.{mark}
use Rattle.text_form.specs.declared.Line.{Line}

pub mark-is : (b : Bool) → b ≡ true → mark b ≡ hidden_word
unfolding mark
mark-is b e = rw e

pub mark-not : (b : Bool) → b ≡ false → mark b ≡ []
unfolding mark
mark-not b e = rw e

pub numbered-some : (o : Option ℕ) (n : ℕ) → o ≡ Some n → numbered o ≡ field_by n 32
unfolding numbered field field_by
numbered-some o n e = rw e

pub numbered-none : (o : Option ℕ) → o ≡ None → numbered o ≡ []
unfolding numbered
numbered-none o e = rw e

pub fields-are : (l : Line) → ((line_word l.kind ++ field_by l.label 32) ++ digits_in 5 l.name) ++ client_bytes l.client ≡ fields l
unfolding fields field field_by
fields-are l = simp append_assoc

pub entry-is : (f b : List ℕ) (l : Line) → (((replicate (2 * l.depth) 32 ++ f) ++ fields l) ++ b) ++ (10 ∷ []) ≡ entry f b l
unfolding entry indent fields field
entry-is f b l = simp append_assoc

-- the lengths of the parts of a line
pub fields-length : (l : Line) → length (fields l) ≡ length (line_word l.kind) + (length (digits_in 5 l.label) + (1 + (length (digits_in 5 l.name) + length (client_bytes l.client))))
unfolding fields field
fields-length l = simp length-append (omega arith)

pub entry_length : (f b : List ℕ) (l : Line) → length (entry f b l) ≡ 2 * l.depth + (length f + (length (fields l) + (length b + 1)))
entry_length f b l = ap length (sym (entry-is f b l)) ∙ simp (length-append, length-replicate) (omega arith)

-- a client's space and number
pub client-put : (n : ℕ) {t t₁ t₂ : List ℕ} {p e₁ e₂ : ℕ} → n ≢ 0 → p + length (client_bytes n) ≤ length t → Put t p (32 ∷ []) t₁ e₁ → Put t₁ e₁ (digits_in 5 n) t₂ e₂ → Put t p (client_bytes n) t₂ e₂
client-put n z h x y = put_as (sym (client-some n z)) (put_then x y (omega (arith, h, ap length (client-some n z), x.end, y.end)))

-- the parts of a line, put one after the other
pub fields-put : (l : Line) {t t₁ t₂ t₃ t₄ : List ℕ} {p e₁ e₂ e₃ e₄ : ℕ} → p + length (fields l) ≤ length t →
    Put t p (line_word l.kind) t₁ e₁ → Put t₁ e₁ (field_by l.label 32) t₂ e₂ → Put t₂ e₂ (digits_in 5 l.name) t₃ e₃ → Put t₃ e₃ (client_bytes l.client) t₄ e₄ → Put t p (fields l) t₄ e₄
fields-put l {t} {p = p} {e₄ = e₄} h a b c d =
    let o : e₄ ≤ length t = omega (arith, fields-length l, by-length l.label 32, a.end, b.end, c.end, d.end) in
    put_as (fields-are l) (put_then (put_then (put_then a b (omega (arith, c.end, d.end))) c (omega (arith, d.end))) d o)

pub entry-put : (f b : List ℕ) (l : Line) {t t₁ t₂ t₃ t₄ t₅ : List ℕ} {p e₁ e₂ e₃ e₄ e₅ : ℕ} → p + length (entry f b l) ≤ length t →
    Put t p (replicate (2 * l.depth) 32) t₁ e₁ → Put t₁ e₁ f t₂ e₂ → Put t₂ e₂ (fields l) t₃ e₃ → Put t₃ e₃ b t₄ e₄ → Put t₄ e₄ (10 ∷ []) t₅ e₅ → Put t p (entry f b l) t₅ e₅
entry-put f b l {t} {e₅ = e₅} h x y z u v =
    let o : e₅ ≤ length t = omega (arith, entry_length f b l, length-replicate {0} {A = ℕ} (2 * l.depth) 32, x.end, y.end, z.end, u.end, v.end) in
    put_as (entry-is f b l)
    (put_then (put_then (put_then (put_then x y (omega (arith, z.end, u.end, v.end))) z (omega (arith, u.end, v.end))) u (omega (arith, v.end))) v o)
