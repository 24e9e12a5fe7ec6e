-- What the program lends of what its files hold, and that it gives the text that the files ask for.
use Rattle.std.specs.Prelude.{◌%◌, ◌+◌, ◌/◌, ◌<◌, ◌≤◌, ℕ, eqb, leb, replicate, take, Bool, false, true, List, [], ◌≡◌, refl}
use borrow.Author.Tests.{eqb-true, le-leb, leb-true, lt-leb, ne_eqb}
use Rattle.std.proofs.Math.ListN.{length, length-replicate}
use Rattle.std.proofs.Common.{length-take-le, take_all, ◌∙◌, ap, sym, arith}
use Rattle.std.proofs.Math.Bool.{and-false}
use Rattle.std.specs.Prelude.{Option}
use Rattle.std.proofs.Math.Decide.{dec_le}
use Rattle.listing.specs.Lines.{shown}
use Rattle.model.specs.Calls.{entry, screen_answer, screen_answers, screening}
use Rattle.model.proofs.Laws.Checks.{need-pass, then-pass}
use Rattle.model.proofs.Laws.Booleans.{and_left, and_right}
use Rattle.model.specs.Listing.{content_of, hubscreen, listing, written}
use Rattle.model.specs.Refusals.{Check, answer, content, pass, refuse, refused}
use Rattle.model.specs.Scripts.{script_right}
use Rattle.model.specs.Tables.{policy_right}
use Rattle.model.specs.Validity.{size_right, validity}
use Rattle.model.proofs.Laws.Bytes.{valid-few}
use Rattle.model.proofs.Laws.Bytes.{valid-size}

-- how many answers are lent for a script of which n bytes are there, by whether it has more
unfoldable pub answers_for : Bool → ℕ → ℕ
answers_for true n = 0
answers_for false n = n / 4

pub answers-few : (more : Bool) (n : ℕ) → answers_for more n ≤ n / 4
unfolding answers_for
answers-few true n = omega arith
answers-few false n = omega arith

-- the part lent of a file of at most max bytes: the whole file, or one byte too many
pub record Part (max : ℕ) (file part : List ℕ) : Type 0 where
  pub whole : length file ≤ max → part ≡ file
  pub long : max < length file → length part ≡ max + 1

-- the part and the answers lent of a script: all of it with one answer a step, or 4,096 bytes of it with none
pub record ScriptPart (file part answers : List ℕ) : Type 0 where
  pub whole : length file ≤ 4096 → (part ≡ file) × (length answers ≡ length file / 4)
  pub long : 4096 < length file → (length part ≡ 4096) × (length answers ≡ 0)

-- so are the first bytes of a file, with one byte too many where it is longer; and those of a script, with the answers that
-- the program lends by whether it has more
pub part_of : (max : ℕ) (file : List ℕ) → Part max file (take (max + 1) file)
part_of max file = record { whole = λ l. take_all (max + 1) file (omega arith); long = λ l. length-take-le (max + 1) file (omega arith) }

pub script-part-of : (file answers : List ℕ) (more : Bool) → more ≡ leb 4097 (length file) → length answers ≡ answers_for more (length (take 4096 file)) →
    ScriptPart file (take 4096 file) answers
unfolding answers_for
script-part-of file answers more e k = record {
  whole = λ l.
      let n : more ≡ false = e ∙ lt-leb 4097 (length file) (omega arith) in
      let t = take_all 4096 file l in
      (t, k ∙ ap (λ b. answers_for b (length (take 4096 file))) n ∙ ap (λ x. length x / 4) t);
  long = λ l. let y : more ≡ true = e ∙ le-leb 4097 (length file) (omega arith) in (length-take-le 4096 file (omega arith), k ∙ ap (λ b. answers_for b (length (take 4096 file))) y);
}

-- each check says the same of the part as of the file
too-long : (s : List ℕ) → 8192 < length s → validity s ≡ refuse 1 0
unfolding size_right
too-long s h = valid-size s (rw (lt-leb (length s) 8192 h) (and-false (eqb (length s % 8) 0)))

part-validity : {file part : List ℕ} → Part 8192 file part → validity part ≡ validity file
part-validity {file} {part} r = go (dec_le (length file) 8192)
  where
    go : Dec (length file ≤ 8192) → validity part ≡ validity file
    go (yes l) = ap validity (r.whole l)
    go (no l) = too-long part (omega (arith, r.long (omega arith))) ∙ sym (too-long file (omega arith))

unfit : (policy : List ℕ) → 64 < length policy → policy_right policy ≡ false
unfolding policy_right
unfit policy h = rw (ne_eqb (length policy) 64 (λ e. omega arith))

part-policy : {file part : List ℕ} → Part 64 file part → policy_right part ≡ policy_right file
part-policy {file} {part} r = go (dec_le (length file) 64)
  where
    go : Dec (length file ≤ 64) → policy_right part ≡ policy_right file
    go (yes l) = ap policy_right (r.whole l)
    go (no l) = unfit part (omega (arith, r.long (omega arith))) ∙ sym (unfit file (omega arith))

over-long : (z : List ℕ) (n : ℕ) → 4096 < length z → script_right z n ≡ false
unfolding script_right
over-long z n h = rw (lt-leb (length z) 4096 h) (and-false (eqb (length z % 4) 0))

no-answers : (z : List ℕ) (n : ℕ) → length z ≡ 4096 → n ≡ 0 → script_right z n ≡ false
unfolding script_right
no-answers z n e k = rw (e, k)

part-script : {file part answers : List ℕ} → ScriptPart file part answers → script_right part (length answers) ≡ script_right file (length file / 4)
part-script {file} {part} {answers} r = go (dec_le (length file) 4096)
  where
    go : Dec (length file ≤ 4096) → script_right part (length answers) ≡ script_right file (length file / 4)
    go (yes l) = rw ((r.whole l).0, (r.whole l).1)
    go (no l) = no-answers part (length answers) (r.long (omega arith)).0 (r.long (omega arith)).1 ∙ sym (over-long file _ (omega arith))

module _ {S s P p Z z a : List ℕ} (e : Part 8192 S s) (f : Part 64 P p) (g : ScriptPart Z z a) where
  same-checks : screening s p z a ≡ screening S P Z (replicate (length Z / 4) 0)
  unfolding screening entry
  same-checks = rw (part-validity e, part-policy f, part-script g, length-replicate {0} {A = ℕ} (length Z / 4) 0)

  -- files that the checks pass are lent whole
  whole_parts : screening S P Z (replicate (length Z / 4) 0) ≡ pass → (s ≡ S) × (p ≡ P) × (z ≡ Z)
  unfolding screening entry policy_right script_right
  whole_parts h =
      let d = then-pass _ _ h in
      let c = then-pass _ _ d.0 in
      let script = need-pass _ 13 0 d.1 in
      let policy : length P ≡ 64 = eqb-true _ _ (and_left _ _ (need-pass _ 7 0 c.1)) in
      let few : length Z ≤ 4096 = leb-true _ _ (and_left _ _ (and_right (eqb (length Z % 4) 0) _ script)) in
      (e.whole (valid-few S c.0), f.whole (omega arith), (g.whole few).0)

-- a refusal's line shows neither steps nor answers
shown-refused : (s p z a : List ℕ) (n r : ℕ) → screening s p z a ≡ refuse n r → shown s p z a ≡ listing (refused n r) [] []
unfolding shown screen_answer screen_answers answer content listing
shown-refused s p z a n r h = rw (h, answer)

-- where the checks pass, what the answers held doesn't matter
shown-passed : (s p z a a' : List ℕ) → screening s p z a ≡ pass → screening s p z a' ≡ pass → shown s p z a ≡ shown s p z a'
unfolding shown screen_answer screen_answers answer content
shown-passed s p z a a' h k = rw (h, k, answer)

-- the parts give the text of the whole
lent-shown : {S s P p Z z a : List ℕ} (A : List ℕ) → A ≡ replicate (length Z / 4) 0 → Part 8192 S s → Part 64 P p → ScriptPart Z z a → shown s p z a ≡ shown S P Z A
lent-shown {S} {s} {P} {p} {Z} {z} {a} A q e f g = go (screening S P Z A) refl
  where
    same : screening s p z a ≡ screening S P Z A
    same = rw q (same-checks e f g)

    go : (c : Check) → screening S P Z A ≡ c → shown s p z a ≡ shown S P Z A
    go pass h =
        let w = whole_parts e f g (rw q at h) in
        let k : screening S P Z a ≡ pass = rw (w.0, w.1, w.2) at (same ∙ h) in
        rw (w.0, w.1, w.2) (shown-passed S P Z a A k h)
    go (refuse n r) h = shown-refused s p z a n r (same ∙ h) ∙ sym (shown-refused S P Z A n r h)

-- Whatever the files hold, the parts that the program lends of them give the text that document 01 asks for.
pub lent-hubscreen : (itinerary policy script : Option (List ℕ)) (s p z a : List ℕ) →
    Part 8192 (content_of itinerary) s → Part 64 (content_of policy) p → ScriptPart (content_of script) z a → shown s p z a ≡ hubscreen itinerary policy script
unfolding hubscreen written shown
lent-hubscreen itinerary policy script s p z a e f g = lent-shown (replicate (length (content_of script) / 4) 0) refl e f g
