-- The parts of the text put one after the other, and the loop over the steps: what is still to be put is the lines of the
-- steps ahead.
use Prim.Native.Nat.{◌*◌, ◌+◌, ◌/◌, ◌<◌, ◌≤◌, suc, zero, ℕ}
use Rattle.std.proofs.Math.ListN.{drop, length}
use Rattle.std.proofs.Common.{get_or-take, inl, inr, length-append, append_assoc, ◌∙◌, sym}
use Rattle.std.specs.Prelude.{map, take, List, [], ◌++◌, ◌∷◌, ◌⊎◌, ◌≡◌, refl}
use Rattle.std.specs.Simd.{first_chunks}
use Rattle.std.proofs.Math.Seq.{drop-drop, get_or-drop}
use Rattle.std.proofs.Math.Path.{ap}
use native.Mathlib.Omega.{arith}
use Rattle.model.specs.Finite.{tabulate}
use Rattle.model.specs.Listing.{end_line, end_word, field, last_field, listing, step_lines, verdict_word}
use Rattle.model.specs.Records.{byte, word}
use Rattle.model.specs.Refusals.{done}
use Rattle.model.specs.Scripts.{Step, step_in, steps_in}
use Rattle.model.specs.Numbers.{label_of}
use Rattle.model.specs.declared.Screen.{Screen}
use Rattle.model.specs.declared.Verdict.{Verdict}
use Rattle.model.specs.declared.Verdict.TheVariants.{Exposed, Hinted, Sealed}
use Rattle.text_put.specs.Laws.{by-short, field-length, field-then, last-length, last_then, line-few, put_as, put_then, putting-start}
use Rattle.text_put.specs.Puts.{Put, Putting, field_by}
use Rattle.listing.specs.Lines.{count_fields, step_line}

-- the parts of a step's line
pub step-length : (x y a : ℕ) → length (step_line x y a) ≡ length (field_by x 32) + (length (field_by y 32) + length (field_by a 10))
unfolding step_line
step-length x y a = omega (arith, field-length x (field y (last_field a [])), field-length y (last_field a []), last-length a [])

pub step-put : (x y a : ℕ) {t t₁ t₂ t₃ : List ℕ} {p e₁ e₂ e₃ : ℕ} → p + length (step_line x y a) ≤ length t →
    Put t p (field_by x 32) t₁ e₁ → Put t₁ e₁ (field_by y 32) t₂ e₂ → Put t₂ e₂ (field_by a 10) t₃ e₃ → Put t p (step_line x y a) t₃ e₃
unfolding step_line field last_field field_by
step-put x y a h u v w =
    let l = step-length x y a in
    put_as (simp append_assoc)
    (put_then (put_then u v (omega (arith, u.end, v.end))) w (omega (arith, u.end, v.end, w.end)))

-- what stands in the last line after its word
pub counts-few : (x : Screen) → length (count_fields x) ≤ 24
unfolding count_fields
counts-few x =
    let left = last_field x.records [] in
    let opens = field x.counts.opens left in
    let outs = field x.counts.outs opens in
    omega (arith, field-length x.counts.ins outs, by-short x.counts.ins 32, field-length x.counts.outs opens, by-short x.counts.outs 32, field-length x.counts.opens left, by-short x.counts.opens 32, last-length x.records [], by-short x.records 10)

pub counts-put : (x : Screen) {t t₁ t₂ t₃ t₄ : List ℕ} {p e₁ e₂ e₃ e₄ : ℕ} → p + 24 ≤ length t →
    Put t p (field_by x.counts.ins 32) t₁ e₁ → Put t₁ e₁ (field_by x.counts.outs 32) t₂ e₂ → Put t₂ e₂ (field_by x.counts.opens 32) t₃ e₃ → Put t₃ e₃ (field_by x.records 10) t₄ e₄ →
    Put t p (count_fields x) t₄ e₄
unfolding count_fields field last_field field_by
counts-put x h u v w y =
    let i = by-short x.counts.ins 32 in
    let j = by-short x.counts.outs 32 in
    let k = by-short x.counts.opens 32 in
    let l = by-short x.records 10 in
    put_as (simp append_assoc)
    (put_then (put_then (put_then u v (omega (arith, u.end, v.end))) w (omega (arith, u.end, v.end, w.end))) y (omega (arith, u.end, v.end, w.end, y.end)))

-- the word of line one
pub verdict-few : (v : Verdict) → length (verdict_word v) ≤ 8
unfolding verdict_word
verdict-few (Exposed k) = omega arith
verdict-few (Hinted k) = omega arith
verdict-few Sealed = omega arith

-- lines and what follows them
pub lines_then : (ms : List Step) (answers v : List ℕ) → step_lines ms answers [] ++ v ≡ step_lines ms answers v
unfolding step_lines
lines_then [] answers v = refl
lines_then (m ∷ ms) [] v = refl
lines_then (m ∷ ms) (a ∷ answers) v =
    let rest = step_lines ms answers [] in
    field-then m.actor (field m.partner (last_field a rest)) v
    ∙ ap (field m.actor) (field-then m.partner (last_field a rest) v ∙ ap (field m.partner) (last_then a rest v ∙ ap (last_field a) (lines_then ms answers v)))

-- one step's line, then the others
pub line_first : (m : Step) (ms : List Step) (a : ℕ) (answers : List ℕ) → step_lines (m ∷ ms) (a ∷ answers) [] ≡ step_line m.actor m.partner a ++ step_lines ms answers []
unfolding step_lines step_line
line_first m ms a answers =
    let rest = step_lines ms answers [] in
    sym (field-then m.actor (field m.partner (last_field a [])) rest ∙ ap (field m.actor) (field-then m.partner (last_field a []) rest ∙ ap (field m.partner) (last_then a [] rest)))

-- a step by its four bytes
unfoldable pub step_of : List ℕ → Step
step_of b = record { actor = word (byte b 0) (byte b 1); partner = word (byte b 2) (byte b 3) }

byte-chunk : (z : List ℕ) (k j : ℕ) → j < 4 → byte (take 4 (drop (4 * k) z)) j ≡ byte z (4 * k + j)
byte-chunk z k j l = get_or-take 4 (drop (4 * k) z) j 0 l ∙ get_or-drop (4 * k) z j 0

step-chunk : (z : List ℕ) (k : ℕ) → step_of (take 4 (drop (4 * k) z)) ≡ step_in z k
unfolding step_of step_in
step-chunk z k =
    let e : 4 * k + 0 ≡ 4 * k = omega arith in
    rw (byte-chunk z k 0 (omega arith), byte-chunk z k 1 (omega arith), byte-chunk z k 2 (omega arith), byte-chunk z k 3 (omega arith), e)

-- the steps of a script, four bytes after the other
steps-from : (z : List ℕ) (n k : ℕ) → map step_of (first_chunks 4 n (drop (4 * k) z)) ≡ tabulate k n (step_in z)
unfolding tabulate
steps-from z zero k = refl
steps-from z (suc n) k =
    let e : 4 * k + 4 ≡ 4 * suc k = omega arith in
    let d : drop 4 (drop (4 * k) z) ≡ drop (4 * suc k) z = drop-drop 4 (4 * k) z ∙ ap (λ j. drop j z) e in
    rw (step-chunk z k, d) (ap (λ ms. step_in z k ∷ ms) (steps-from z n (suc k)))

steps-chunks : (z : List ℕ) → map step_of (first_chunks 4 (length z / 4) z) ≡ steps_in z
unfolding steps_in
steps-chunks z = steps-from z (length z / 4) 0

-- the lines of the steps that are left
unfoldable pub ahead : List (List ℕ) → List ℕ → List ℕ
ahead steps answers = step_lines (map step_of steps) answers []

pub ahead-on : {steps next : List (List ℕ)} {answers others b : List ℕ} {a x y : ℕ} → (steps ≡ b ∷ next) × (answers ≡ a ∷ others) → x ≡ word (byte b 0) (byte b 1) → y ≡ word (byte b 2) (byte b 3) →
    ahead steps answers ≡ step_line x y a ++ ahead next others
unfolding ahead step_of
ahead-on {next = next} {others = others} {b = b} {a = a} e f g =
    rw (e.0, e.1) (line_first (step_of b) (map step_of next) a others ∙ rw (← f, ← g))

pub ahead-done : (steps : List (List ℕ)) (answers : List ℕ) → (length steps ≡ 0) ⊎ (length answers ≡ 0) → ahead steps answers ≡ []
unfolding ahead step_lines
ahead-done [] answers e = refl
ahead-done (b ∷ steps) [] e = refl
ahead-done (b ∷ steps) (a ∷ answers) (inl e) = absurd (omega arith)
ahead-done (b ∷ steps) (a ∷ answers) (inr e) = absurd (omega arith)

pub ahead-all : (z answers t : List ℕ) (p : ℕ) {steps : List (List ℕ)} {others : List ℕ} → steps ≡ first_chunks 4 (length z / 4) z → others ≡ answers → p + length (step_lines (steps_in z) answers []) ≤ length t →
    Putting t p (step_lines (steps_in z) answers []) t p (ahead steps others)
unfolding ahead
ahead-all z answers t p e f h = rw (e, f, steps-chunks z) (putting-start t p _ h)

-- the text of a screen, part by part
pub listing-parts : (x : Screen) (ms : List Step) (answers : List ℕ) →
    (((verdict_word x.verdict ++ field (label_of x.verdict) (last_field x.ones [])) ++ step_lines ms answers []) ++ end_word) ++ count_fields x ≡ listing (done x) ms answers
unfolding listing end_line count_fields
listing-parts x ms answers =
    let v = verdict_word x.verdict in
    let n = label_of x.verdict in
    let f = field n (last_field x.ones []) in
    let l = step_lines ms answers [] in
    append_assoc ((v ++ f) ++ l) end_word (count_fields x) ∙ append_assoc (v ++ f) l (end_line x) ∙ append_assoc v f (l ++ end_line x)
    ∙ ap (λ u. v ++ u) (field-then n (last_field x.ones []) (l ++ end_line x) ∙ ap (field n) (last_then x.ones [] (l ++ end_line x) ∙ ap (last_field x.ones) (lines_then ms answers (end_line x))))

-- put one after the other
pub listing-put : (x : Screen) (ms : List Step) (answers : List ℕ) {t t₁ t₂ t₃ t₄ : List ℕ} {e₁ e₂ e₃ e₄ : ℕ} → 48 + length (step_lines ms answers []) ≤ length t →
    Put t 0 (verdict_word x.verdict ++ field (label_of x.verdict) (last_field x.ones [])) t₁ e₁ →
    Put t₁ e₁ (step_lines ms answers []) t₂ e₂ → Put t₂ e₂ end_word t₃ e₃ → Put t₃ e₃ (count_fields x) t₄ e₄ → Put t 0 (listing (done x) ms answers) t₄ e₄
unfolding end_word
listing-put x ms answers h u v w y =
    let n = label_of x.verdict in
    let l = length-append (verdict_word x.verdict) (field n (last_field x.ones [])) in
    let f = line-few n x.ones in
    let k = verdict-few x.verdict in
    let c = counts-few x in
    put_as (listing-parts x ms answers)
    (put_then (put_then (put_then u v (omega (arith, u.end, v.end))) w (omega (arith, u.end, v.end, w.end))) y (omega (arith, u.end, v.end, w.end, y.end)))
