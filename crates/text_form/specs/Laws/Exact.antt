-- A text that is read without a fault is the text of its lines: reading loses nothing, and writing gives it back.
use Rattle.std.specs.Prelude.{◌%◌, ◌*◌, ◌+◌, ◌-◌, ◌/◌, ◌<◌, ◌≤◌, suc, zero, ℕ, eqb, leb, drop, length, replicate, Bool, false, true, List, [], ◌++◌, ◌∷◌, ◌≡◌, refl}
use Rattle.std.proofs.Common.{eqb-true, length-drop, drop-drop, true≢false, ◌∙◌, ap, sym, arith}
use Rattle.std.specs.Prelude.{None, Some, Result, Ok, Err}
use Rattle.model.proofs.Laws.Bytes.{records-encode}
use Rattle.model.specs.Listing.{digits_in}
use Rattle.model.specs.Records.{byte, encode, records}
use Rattle.model.specs.Validity.{label_by, name_by}
use Rattle.text_form.specs.Laws.Lines.{ended-good, line-parts, name_bytes, named-good, number-good, scan-bad, scan_good, scan-nested, served-good, tail_bytes, worded-as, worded-good}
use Rattle.text_form.specs.Laws.Numerals.{demand-good, first-1, number-some, numeral-exact}
use Rattle.text_form.specs.Laws.Clients.{client-exact}
use Rattle.text_form.specs.Laws.Nesting.{walk-placed}
use Rattle.text_form.specs.Lines.{ambient_kind, client_bytes, kind_word, line_bytes, line_word, nested_kind, render}
use Rattle.text_form.specs.Reading.{before, client_read, ended, labelled, leading, line_read, named, number_read, placed, scan, scan_from, served, spaces, starts, worded}
use Rattle.text_form.specs.Writing.{text_of}
use Rattle.text_form.specs.declared.Kind.{Kind}
use Rattle.text_form.specs.declared.Line.{Line}
use Rattle.text_form.specs.declared.LineRead.{LineRead}
use Rattle.text_form.specs.declared.Cause.{Cause}
use Rattle.text_form.specs.declared.Cause.TheVariants as cause

-- what is read is what stands there
spaces-exact : (s : List ℕ) → replicate (spaces s) 32 ++ drop (spaces s) s ≡ s
unfolding leading
spaces-exact [] = refl
spaces-exact (c ∷ s) = go (eqb c 32) refl (spaces-exact s)
  where
    go : (b : Bool) → eqb c 32 ≡ b → replicate (spaces s) 32 ++ drop (spaces s) s ≡ s → replicate (spaces (c ∷ s)) 32 ++ drop (spaces (c ∷ s)) (c ∷ s) ≡ c ∷ s
    go true e ih = rw (e, leading) (ap (λ x. 32 ∷ x) ih ∙ ap (λ x. x ∷ s) (sym (eqb-true c 32 e)))
    go false e ih = rw (e, leading)

starts-exact : (w s : List ℕ) → starts w s ≡ true → w ++ drop (length w) s ≡ s
unfolding starts
starts-exact [] s e = refl
starts-exact (c ∷ w) [] e = absurd (true≢false (sym e))
starts-exact (c ∷ w) (x ∷ s) e = go (eqb x c) refl (starts-exact w s)
  where
    go : (b : Bool) → eqb x c ≡ b → (starts w s ≡ true → w ++ drop (length w) s ≡ s) → c ∷ (w ++ drop (length w) s) ≡ x ∷ s
    go true q ih = ap (λ y. c ∷ y) (ih (rw (q, starts) at e)) ∙ ap (λ y. y ∷ s) (sym (eqb-true x c q))
    go false q ih = absurd (true≢false (sym (rw (q, starts) at e)))

-- what is left of a part is left of the whole
left-same : (n : ℕ) (s : List ℕ) (left : ℕ) → left < length (drop n s) → drop (length (drop n s) - left) (drop n s) ≡ drop (length s - left) s
left-same n s left l = let e : n + (length (drop n s) - left) ≡ length s - left = omega (arith, length-drop n s) in drop-drop (length (drop n s) - left) n s ∙ ap (λ k. drop k s) e

ended-exact : (m : Line) (s : List ℕ) {l : Line} {left : ℕ} → ended m s ≡ Ok (record { line = l; left = left }) → 10 ∷ drop (length s - left) s ≡ s
unfolding ended
ended-exact m [] e = let u : ◌≡◌ {A = ℕ} 0 1 = cc in absurd (omega arith)
ended-exact m (c ∷ s) {l} {left} e =
    let g = demand-good (eqb c 10) _ (Ok (record { line = m; left = length s })) e in
    let q = g.1 in
    let u : ◌≡◌ {A = LineRead} (record { line = m; left = length s }) (record { line = l; left = left }) = cc in
    let v : length s ≡ left = ap (λ x. x.left) u in
    let w : suc (length s) - left ≡ 1 = omega arith in
    rw w (ap (λ x. x ∷ s) (sym (eqb-true c 10 g.0)))

served-exact : (d : ℕ) (k : Kind) (label name : ℕ) (s : List ℕ) {l : Line} {left : ℕ} → served d k label name s ≡ Ok (record { line = l; left = left }) → client_bytes l.client ++ (10 ∷ drop (length s - left) s) ≡ s
unfolding served
served-exact d k label name s {l} {left} e =
    let y = number-good (client_read s) _ e in
    let n = y.0 in
    let g = ended-good _ _ y.2 in
    let w : l.client ≡ n.value = sym (ap (λ x. x.client) g.0) in
    ap (λ x. client_bytes x ++ (10 ∷ drop (length s - left) s)) w
    ∙ ap (λ x. client_bytes n.value ++ (10 ∷ x)) (sym (left-same n.width s left g.1))
    ∙ ap (λ x. client_bytes n.value ++ x) (ended-exact _ (drop n.width s) y.2)
    ∙ client-exact s y.1

named-exact : (d : ℕ) (k : Kind) (label : ℕ) (s : List ℕ) {l : Line} {left : ℕ} → named d k label s ≡ Ok (record { line = l; left = left }) → 32 ∷ name_bytes l (drop (length s - left) s) ≡ s
unfolding named
named-exact d k label s {l} {left} e =
    let z = demand-good (eqb (byte s 0) 32) _ _ e in
    let y = number-good (number_read cause.NoName (drop 1 s)) _ z.1 in
    let n = y.0 in
    let c = demand-good (name_by (nested_kind k) n.value) cause.WrongName _ y.2 in
    let g = served-good d k label n.value _ c.1 in
    let p : left < length (drop 1 s) = omega (arith, g.fewer, length-drop n.width (drop 1 s)) in
    let q : drop (length (drop n.width (drop 1 s)) - left) (drop n.width (drop 1 s)) ≡ drop (length s - left) s = left-same n.width (drop 1 s) left g.fewer ∙ left-same 1 s left p in
    ap (λ x. 32 ∷ (digits_in 5 x ++ (client_bytes l.client ++ (10 ∷ drop (length s - left) s)))) g.name
    ∙ ap (λ x. 32 ∷ (digits_in 5 n.value ++ (client_bytes l.client ++ (10 ∷ x)))) (sym q)
    ∙ ap (λ x. 32 ∷ (digits_in 5 n.value ++ x)) (served-exact d k label n.value (drop n.width (drop 1 s)) c.1)
    ∙ ap (λ x. 32 ∷ x) (numeral-exact (drop 1 s) (number-some cause.NoName (drop 1 s) y.1))
    ∙ ap (λ x. x ∷ drop 1 s) (sym (eqb-true (byte s 0) 32 z.0))
    ∙ first-1 s (omega (arith, p, length-drop 1 s))

-- the line's depth and kind, and its bytes from the label on
pub record Labelled (d : ℕ) (k : Kind) (s : List ℕ) (l : Line) (left : ℕ) : Type 0 where
  pub depth : l.depth ≡ d
  pub kind : l.kind ≡ Some k
  pub fewer : left < length s
  pub bytes : digits_in 5 l.label ++ (32 ∷ name_bytes l (drop (length s - left) s)) ≡ s

labelled-exact : (d : ℕ) (k : Kind) (s : List ℕ) {l : Line} {left : ℕ} → labelled d k s ≡ Ok (record { line = l; left = left }) → Labelled d k s l left
unfolding labelled
labelled-exact d k s {l} {left} e =
    let z = number-good (number_read cause.NoLabel s) _ e in
    let n = z.0 in
    let b = demand-good (label_by (nested_kind k) (ambient_kind k) n.value) cause.WrongLabel _ z.2 in
    let g = (named-good d k n.value _ b.1).2 in
    record {
      depth = g.depth;
      kind = g.kind;
      fewer = omega (arith, g.fewer, length-drop n.width s);
      bytes =
          ap (λ x. digits_in 5 x ++ (32 ∷ name_bytes l (drop (length s - left) s))) g.label
          ∙ ap (λ x. digits_in 5 n.value ++ (32 ∷ name_bytes l x)) (sym (left-same n.width s left g.fewer))
          ∙ ap (λ x. digits_in 5 n.value ++ x) (named-exact d k n.value (drop n.width s) b.1)
          ∙ numeral-exact s (number-some cause.NoLabel s z.1);
    }

-- the same from the kind's word on
worded-exact : (d : ℕ) (s : List ℕ) {l : Line} {left : ℕ} → worded d s ≡ Ok (record { line = l; left = left }) → (l.depth ≡ d) × (tail_bytes l (drop (length s - left) s) ≡ s)
unfolding tail_bytes line_word
worded-exact d s {l} {left} e =
    let b = worded-as d s e in
    let w = kind_word b.kind in
    let g = labelled-exact d b.kind (drop (length w) s) b.after in (
      g.depth,
      ap (λ x. line_word x ++ (digits_in 5 l.label ++ (32 ∷ name_bytes l (drop (length s - left) s)))) g.kind
          ∙ ap (λ x. w ++ (digits_in 5 l.label ++ (32 ∷ name_bytes l x))) (sym (left-same (length w) s left g.fewer))
          ∙ ap (λ x. w ++ x) g.bytes
          ∙ starts-exact w s b.word,
    )

-- a line that is read is the line's bytes
line-exact : (d : ℕ) (s : List ℕ) {l : Line} {left : ℕ} → line_read d s ≡ Ok (record { line = l; left = left }) → line_bytes l ++ drop (length s - left) s ≡ s
unfolding line_read
line-exact d s {l} {left} e =
    let n = spaces s in
    let z = demand-good (eqb (n % 2) 0) _ _ e in
    let a = z.1 in
    let b = demand-good (leb (n / 2) d) _ _ a in
    let g = worded-exact (n / 2) (drop n s) b.1 in
    let f = (worded-good (n / 2) (drop n s) b.1).fewer in
    let h : 2 * l.depth ≡ n = omega (arith, g.0, eqb-true (n % 2) 0 z.0) in
    line-parts l (drop (length s - left) s)
    ∙ ap (λ x. replicate (2 * l.depth) 32 ++ tail_bytes l x) (sym (left-same n s left f))
    ∙ ap (λ x. replicate (2 * l.depth) 32 ++ x) g.1
    ∙ ap (λ x. replicate x 32 ++ drop n s) h
    ∙ spaces-exact s

-- a text that is read without a fault is the text of its lines
pub scan-exact : (room d : ℕ) (s : List ℕ) → (scan_from room d s).fault ≡ None → render (scan_from room d s).lines ≡ s
unfolding scan_from before render
scan-exact zero d [] e = refl
scan-exact zero d (c ∷ s) e = let u : ◌≡◌ {A = ℕ} 0 1 = cc in absurd (omega arith)
scan-exact (suc room) d [] e = refl
scan-exact (suc room) d (c ∷ s) e = go (line_read d (c ∷ s)) refl (scan-exact room)
  where
    go : (x : Result LineRead Cause) → line_read d (c ∷ s) ≡ x → ((d : ℕ) (s : List ℕ) → (scan_from room d s).fault ≡ None → render (scan_from room d s).lines ≡ s) → render (scan_from (suc room) d (c ∷ s)).lines ≡ c ∷ s
    go (Ok y) q ih =
        let g = scan_good room d (c ∷ s) y.line y.left q in
        rw g (ap (λ x. line_bytes y.line ++ x) (ih (suc y.line.depth) (drop (suc (length s) - y.left) (c ∷ s)) (sym (ap (λ x. x.fault) g) ∙ e)) ∙ line-exact d (c ∷ s) {l = y.line} {left = y.left} q)
    go (Err y) q ih =
        let g = scan-bad room d (c ∷ s) y (λ p. let u : ◌≡◌ {A = ℕ} 0 1 = cc in absurd (omega arith)) q in
        let h : Some y ≡ None = sym (ap (λ x. x.fault) g) ∙ e in
        let u : ◌≡◌ {A = ℕ} 0 1 = cc in
        absurd (omega arith)

-- text to bytes to text is the identity on every text that is read without a fault
pub read-written : (room : ℕ) (text : List ℕ) → room ≤ 1024 → (scan room text).fault ≡ None → text_of (records (encode (placed (scan room text).lines))) ≡ text
unfolding scan text_of
read-written room text few e =
    let w = scan-nested room 0 text in
    rw (records-encode (placed (scan_from room 0 text).lines)) (ap render (walk-placed (scan_from room 0 text).lines w.0 (omega (arith, w.1))) ∙ scan-exact room 0 text e)
