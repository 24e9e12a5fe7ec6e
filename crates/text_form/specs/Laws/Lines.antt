-- A line that is written is read back, and what a line that is read has.
use Rattle.std.specs.Prelude.{◌%◌, ◌*◌, ◌-◌, ◌/◌, ◌<◌, ◌≤◌, suc, zero, ℕ, eqb, leb, drop, length, replicate, Bool, false, true, List, [], ◌++◌, ◌∷◌, ◌≢◌, ◌≡◌, refl}
use Rattle.std.proofs.Common.{eq-eqb, le-leb, leb-true, length-append, length-drop, drop_at, append_assoc, ◌∙◌, ap, sym, arith}
use Rattle.std.proofs.lemmas.List.{length-replicate}
use Rattle.std.proofs.Math.Seq.{drop-append_seam}
use Rattle.std.specs.Prelude.{None, Some, Result, Ok, Err}
use Rattle.model.proofs.Laws.WellFormed.{label-by, name-by}
use Rattle.model.specs.Listing.{digits_in, field}
use Rattle.model.specs.Records.{byte}
use Rattle.model.specs.declared.Capability.TheVariants.{In as cap-in, Open as cap-open, Out as cap-out}
use Rattle.model.specs.Validity.{label_by, name_by}
use Rattle.text_form.specs.Laws.Nesting.{Nested, Right, cons, nil}
use Rattle.text_form.specs.Laws.Numerals.{demand-good, number-fine, space-no-digit}
use Rattle.text_form.specs.Laws.Clients.{client-back, client-low, number-then}
use Rattle.text_form.specs.Lines.{ambient_kind, ambient_word, client_bytes, entry, in_word, indent, kind_word, line_bytes, line_word, nested_kind, open_word, out_word, render, replication_word}
use Rattle.text_form.specs.Reading.{before, client_read, cause_at, demand, ended, kinds, labelled, leading, line_read, mark_bytes, named, number_read, scan_from, served, spaces, starts, unworded, with_number, worded, worded_by}
use Rattle.text_form.specs.declared.Kind.{Kind}
use Rattle.text_form.specs.declared.Kind.TheVariants.{Acts, Ambient, Replication}
use Rattle.text_form.specs.declared.Line.{Line}
use Rattle.text_form.specs.declared.LineRead.{LineRead}
use Rattle.text_form.specs.declared.Cause.{Cause}
use Rattle.text_form.specs.declared.Cause.TheVariants as cause
use Rattle.text_form.specs.declared.Decimal.{Decimal}

-- a line by its parts
known-line : (l : Line) (r : Right l) → record { depth = l.depth; kind = Some r.kind; label = l.label; name = l.name; client = l.client } ≡ l
known-line l r = ap (λ k. record { depth = l.depth; kind = k; label = l.label; name = l.name; client = l.client }) (sym r.known)

-- the name of a line and all that follows it
abbrev pub name_bytes : Line → List ℕ → List ℕ
name_bytes l s = digits_in 5 l.name ++ (client_bytes l.client ++ (10 ∷ s))

-- the parts of a line that is written are read back
served-back : (l : Line) (r : Right l) (s : List ℕ) → served l.depth r.kind l.label l.name (client_bytes l.client ++ (10 ∷ s)) ≡ Ok (record { line = l; left = length s })
unfolding served demand ended with_number
served-back l r s =
    rw (client-back l.client s r.client, with_number)
    (rw (drop-append_seam (client_bytes l.client) (10 ∷ s)) (ap (λ x. Ok (record { line = x; left = length s })) (known-line l r)))

named_back : (l : Line) (r : Right l) (s : List ℕ) → named l.depth r.kind l.label (32 ∷ name_bytes l s) ≡ Ok (record { line = l; left = length s })
unfolding named demand with_number
named_back l r s =
    rw (number-then cause.NoName l.name l.client s (omega (arith, name-by _ _ r.name)), with_number)
    (rw (r.name, drop-append_seam (digits_in 5 l.name) (client_bytes l.client ++ (10 ∷ s))) (served-back l r s))

labelled-back : (l : Line) (r : Right l) (s : List ℕ) → labelled l.depth r.kind (digits_in 5 l.label ++ (32 ∷ name_bytes l s)) ≡ Ok (record { line = l; left = length s })
unfolding labelled demand with_number
labelled-back l r s =
    rw (number-fine cause.NoLabel l.label 32 _ (omega (arith, label-by _ _ _ r.label)) space-no-digit, with_number)
    (rw (r.label, drop-append_seam (digits_in 5 l.label) (32 ∷ name_bytes l s))
    (named_back l r s))

worded-back : (d : ℕ) (k : Kind) (s : List ℕ) → worded d (kind_word k ++ s) ≡ labelled d k s
unfolding worded worded_by kinds kind_word starts ambient_word in_word out_word open_word replication_word
worded-back d Ambient s = refl
worded-back d (Acts cap-in) s = refl
worded-back d (Acts cap-out) s = refl
worded-back d (Acts cap-open) s = refl
worded-back d Replication s = refl

word-solid : (k : Kind) (s : List ℕ) → spaces (kind_word k ++ s) ≡ 0
unfolding leading kind_word ambient_word in_word out_word open_word replication_word
word-solid Ambient s = refl
word-solid (Acts cap-in) s = refl
word-solid (Acts cap-out) s = refl
word-solid (Acts cap-open) s = refl
word-solid Replication s = refl

spaces-after : (n : ℕ) (s : List ℕ) → spaces s ≡ 0 → spaces (replicate n 32 ++ s) ≡ n
unfolding leading
spaces-after zero s e = e
spaces-after (suc n) s e = ap suc (spaces-after n s e)

-- what follows the indentation of a line
unfoldable pub tail_bytes : Line → List ℕ → List ℕ
tail_bytes l s = line_word l.kind ++ (digits_in 5 l.label ++ (32 ∷ name_bytes l s))

pub line-parts : (l : Line) (s : List ℕ) → line_bytes l ++ s ≡ replicate (2 * l.depth) 32 ++ tail_bytes l s
unfolding line_bytes entry indent field tail_bytes
line-parts l s = simp append_assoc

-- a line that is written is read back, and nothing after it is looked at
pub line-back : (d : ℕ) (l : Line) → l.depth ≤ d → Right l → (s : List ℕ) → line_read d (line_bytes l ++ s) ≡ Ok (record { line = l; left = length s })
unfolding line_read demand tail_bytes line_word
line-back d l h r s =
    let w : line_word l.kind ≡ kind_word r.kind = ap line_word r.known in
    let e : spaces (replicate (2 * l.depth) 32 ++ tail_bytes l s) ≡ 2 * l.depth = spaces-after (2 * l.depth) _ (rw w (word-solid r.kind _)) in
    let f : 2 * l.depth / 2 ≡ l.depth = omega arith in
    rw (line-parts l s) (rw e (rw (eq-eqb (2 * l.depth % 2) 0 (omega arith), f, le-leb l.depth d h, drop_at (replicate (2 * l.depth) 32) (tail_bytes l s) (2 * l.depth) (length-replicate _ _))
    (rw w (worded-back l.depth r.kind _ ∙ labelled-back l r s))))

-- what is no line is no end
empty-bad : (d : ℕ) → line_read d [] ≡ Err cause.UnknownKind
unfolding line_read demand leading worded worded_by kinds kind_word unworded cause_at starts ambient_word in_word out_word open_word replication_word mark_bytes
empty-bad d = rw (le-leb 0 d (omega arith))

-- a line, and then the others
pub scan_good : (room d : ℕ) (s : List ℕ) (l : Line) (left : ℕ) → line_read d s ≡ Ok (record { line = l; left = left }) → scan_from (suc room) d s ≡ before l (scan_from room (suc l.depth) (drop (length s - left) s))
unfolding scan_from
scan_good room d [] l left e = let u : ◌≡◌ {A = ℕ} 0 1 = cc (empty-bad d) in absurd (omega arith)
scan_good room d (c ∷ s) l left e = rw (e, scan_from)

-- lines that are written are read back
pub scan-render : (room d : ℕ) (ls : List Line) → Nested d ls → length ls ≤ room → scan_from room d (render ls) ≡ record { lines = ls; fault = None }
unfolding scan_from render before
scan-render zero d [] n h = refl
scan-render (suc room) d [] n h = refl
scan-render zero d (l ∷ ls) n h = absurd (omega arith)
scan-render (suc room) d (l ∷ ls) (cons deep r n) h =
    scan_good room d (line_bytes l ++ render ls) l (length (render ls)) (line-back d l deep r (render ls))
    ∙ rw (drop_at (line_bytes l) (render ls) _ (sym (rest-length (line_bytes l) (render ls)))) (ap (before l) (scan-render room (suc l.depth) ls n (omega arith)))
  where
    rest-length : (a b : List ℕ) → length (a ++ b) - length b ≡ length a
    rest-length a b = rw length-append (omega arith)

-- what a line that is read has
pub record Got (d : ℕ) (s : List ℕ) (l : Line) (left : ℕ) : Type 0 where
  pub deep : l.depth ≤ d
  pub right : Right l
  pub fewer : left < length s

-- a number with which it goes on
pub number-good : (r : Result Decimal Cause) (next : Decimal → Result LineRead Cause) {x : LineRead} → with_number r next ≡ Ok x → (n : Decimal) × (r ≡ Ok n) × (next n ≡ Ok x)
unfolding with_number
number-good (Ok n) next e = (n, refl, e)
number-good (Err c) next e = let u : ◌≡◌ {A = ℕ} 0 1 = cc in absurd (omega arith)

pub ended-good : (m : Line) (s : List ℕ) {l : Line} {left : ℕ} → ended m s ≡ Ok (record { line = l; left = left }) → (m ≡ l) × (left < length s)
unfolding ended
ended-good m [] e = let u : ◌≡◌ {A = ℕ} 0 1 = cc in absurd (omega arith)
ended-good m (c ∷ s) {l} {left} e =
    let g = (demand-good (eqb c 10) _ (Ok (record { line = m; left = length s })) e).1 in
    let u : ◌≡◌ {A = LineRead} (record { line = m; left = length s }) (record { line = l; left = left }) = cc in
    (ap (λ x. x.line) u, omega (arith, ap (λ x. x.left) u))

-- what is read from a line's name on, and before it
pub record Served (d : ℕ) (k : Kind) (a b : ℕ) (s : List ℕ) (l : Line) (left : ℕ) : Type 0 where
  pub depth : l.depth ≡ d
  pub kind : l.kind ≡ Some k
  pub label : l.label ≡ a
  pub name : l.name ≡ b
  pub client : l.client ≤ 999
  pub fewer : left < length s

pub served-good : (d : ℕ) (k : Kind) (label name : ℕ) (s : List ℕ) {l : Line} {left : ℕ} → served d k label name s ≡ Ok (record { line = l; left = left }) → Served d k label name s l left
unfolding served
served-good d k label name s {l} {left} e =
    let a = number-good (client_read s) _ e in
    let n = a.0 in
    let g = ended-good _ _ a.2 in
    record {
      depth = sym (ap (λ x. x.depth) g.0);
      kind = sym (ap (λ x. x.kind) g.0);
      label = sym (ap (λ x. x.label) g.0);
      name = sym (ap (λ x. x.name) g.0);
      client = omega (arith, client-low s a.1, ap (λ x. x.client) g.0);
      fewer = omega (arith, g.1, length-drop n.width s);
    }

pub named-good : (d : ℕ) (k : Kind) (label : ℕ) (s : List ℕ) {l : Line} {left : ℕ} → named d k label s ≡ Ok (record { line = l; left = left }) → (name : ℕ) × (name_by (nested_kind k) name ≡ true) × Served d k label name s l left
unfolding named
named-good d k label s {l} {left} e =
    let a = (demand-good (eqb (byte s 0) 32) _ _ e).1 in
    let b = number-good (number_read cause.NoName (drop 1 s)) _ a in
    let n = b.0 in
    let c = demand-good (name_by (nested_kind k) n.value) cause.WrongName _ b.2 in
    let g = served-good d k label n.value _ c.1 in
    (n.value, c.0, record { depth = g.depth; kind = g.kind; label = g.label; name = g.name; client = g.client; fewer = omega (arith, g.fewer, length-drop n.width (drop 1 s), length-drop 1 s) })

pub labelled-good : (d : ℕ) (k : Kind) (s : List ℕ) {l : Line} {left : ℕ} → labelled d k s ≡ Ok (record { line = l; left = left }) → Got d s l left
unfolding labelled
labelled-good d k s {l} {left} e =
    let a = number-good (number_read cause.NoLabel s) _ e in
    let n = a.0 in
    let b = demand-good (label_by (nested_kind k) (ambient_kind k) n.value) cause.WrongLabel _ a.2 in
    let h = named-good d k n.value _ b.1 in
    let g = h.2 in
    record {
      deep = omega (arith, g.depth);
      right = record { kind = k; known = g.kind; label = rw (g.label) b.0; name = rw (g.name) h.1; client = g.client };
      fewer = omega (arith, g.fewer, length-drop n.width s);
    }

got-past : (n : ℕ) (s : List ℕ) {d : ℕ} {l : Line} {left : ℕ} → Got d (drop n s) l left → Got d s l left
got-past n s g = record { deep = g.deep; right = g.right; fewer = omega (arith, g.fewer, length-drop n s) }

-- the bytes s start with a kind's word, and what follows it was read
pub record Worded (d : ℕ) (s : List ℕ) (l : Line) (left : ℕ) : Type 0 where
  pub kind : Kind
  pub word : starts (kind_word kind) s ≡ true
  pub after : labelled d kind (drop (length (kind_word kind)) s) ≡ Ok (record { line = l; left = left })

first-word : (ks : List Kind) (d : ℕ) (s : List ℕ) {l : Line} {left : ℕ} → worded_by ks d s ≡ Ok (record { line = l; left = left }) → Worded d s l left
unfolding worded_by unworded
first-word [] d s e = let u : ◌≡◌ {A = ℕ} 0 1 = cc in absurd (omega arith)
first-word (k ∷ ks) d s {l} {left} e = go (starts (kind_word k) s) refl (first-word ks d s)
  where
    go : (b : Bool) → starts (kind_word k) s ≡ b → (worded_by ks d s ≡ Ok (record { line = l; left = left }) → Worded d s l left) → Worded d s l left
    go true t ih = record { kind = k; word = t; after = rw (t, worded_by) at e }
    go false t ih = ih (rw (t, worded_by) at e)

pub worded-as : (d : ℕ) (s : List ℕ) {l : Line} {left : ℕ} → worded d s ≡ Ok (record { line = l; left = left }) → Worded d s l left
unfolding worded
worded-as d s e = first-word kinds d s e

pub worded-good : (d : ℕ) (s : List ℕ) {l : Line} {left : ℕ} → worded d s ≡ Ok (record { line = l; left = left }) → Got d s l left
worded-good d s e = let w = worded-as d s e in got-past (length (kind_word w.kind)) s (labelled-good d w.kind _ w.after)

pub line-good : (d : ℕ) (s : List ℕ) {l : Line} {left : ℕ} → line_read d s ≡ Ok (record { line = l; left = left }) → Got d s l left
unfolding line_read
line-good d s e =
    let n = spaces s in
    let a = (demand-good (eqb (n % 2) 0) _ _ e).1 in
    let b = demand-good (leb (n / 2) d) _ _ a in
    let g = got-past n s (worded-good (n / 2) _ b.1) in
    record { deep = omega (arith, g.deep, leb-true (n / 2) d b.0); right = g.right; fewer = g.fewer }

pub scan-bad : (room d : ℕ) (s : List ℕ) (c : Cause) → s ≢ [] → line_read d s ≡ Err c → scan_from (suc room) d s ≡ record { lines = []; fault = Some c }
unfolding scan_from
scan-bad room d [] x z e = absurd (z refl)
scan-bad room d (c ∷ s) x z e = rw (e, scan_from)

-- the lines that a scan reads are well nested, and no more than there is room for
pub scan-nested : (room d : ℕ) (s : List ℕ) → Nested d (scan_from room d s).lines × (length (scan_from room d s).lines ≤ room)
unfolding scan_from before
scan-nested zero d [] = (nil, omega arith)
scan-nested zero d (c ∷ s) = (nil, omega arith)
scan-nested (suc room) d [] = (nil, omega arith)
scan-nested (suc room) d (c ∷ s) = go (line_read d (c ∷ s)) refl (scan-nested room)
  where
    go : (x : Result LineRead Cause) → line_read d (c ∷ s) ≡ x → ((d : ℕ) (s : List ℕ) → Nested d (scan_from room d s).lines × (length (scan_from room d s).lines ≤ room)) →
        Nested d (scan_from (suc room) d (c ∷ s)).lines × (length (scan_from (suc room) d (c ∷ s)).lines ≤ suc room)
    go (Ok x) e ih =
        let g = line-good d (c ∷ s) {l = x.line} {left = x.left} e in
        let h = ih (suc x.line.depth) (drop (length (c ∷ s) - x.left) (c ∷ s)) in
        rw (scan_good room d (c ∷ s) x.line x.left e) (cons g.deep g.right h.0, omega (arith, h.1))
    go (Err x) e ih = rw (scan-bad room d (c ∷ s) x (λ q. let u : ◌≡◌ {A = ℕ} 0 1 = cc in absurd (omega arith)) e) (nil, omega arith)
