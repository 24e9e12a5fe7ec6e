-- No text that is read without a fault is longer than the longest: it is the text of its lines, and these have the room
-- that Laws/Room counts.
use Rattle.std.specs.Prelude.{◌<◌, ◌≤◌, suc, ℕ, length, List, ◌≡◌, refl}
use Rattle.std.proofs.lemmas.Bool.{lt-leb}
use Rattle.std.specs.Prelude.{Option, None, Some, Err}
use Rattle.std.proofs.Common.{ap, arith}
use Rattle.text_form.specs.Laws.Exact.{scan-exact}
use Rattle.text_form.specs.Laws.Lines.{scan-nested}
use Rattle.text_form.specs.Reading.{length_told, lines_answer, longest, read_answer, read_by, room_in, scan, scan_answer}
use Rattle.text_form.specs.declared.Cause.{Cause}
use Rattle.text_form.specs.declared.Cause.TheVariants as cause
use Rattle.text_form.specs.Laws.Room.{lines-short}

-- a text that is read without a fault is no longer than the longest
pub read_short : (room : ℕ) (text : List ℕ) → room ≤ 1024 → (scan room text).fault ≡ None → length text ≤ longest
unfolding scan
read_short room text few e =
    let w = scan-nested room 0 text in
    omega (arith, lines-short w.0 (omega (arith, w.1)), ap length (scan-exact room 0 text e))

-- the reader tells a text past the longest as that
pub long-told : (text it : List ℕ) → longest < length text → (line : ℕ) × (read_answer text it ≡ Err (record { line = line; cause = cause.TooLong }))
unfolding read_answer lines_answer scan_answer room_in read_by length_told
long-told text it l = go (scan (room_in it) text).fault refl
  where
    go : (f : Option Cause) → (scan (room_in it) text).fault ≡ f → (line : ℕ) × (read_answer text it ≡ Err (record { line = line; cause = cause.TooLong }))
    go None e = absurd (omega (arith, read_short (room_in it) text (omega arith) e))
    go (Some c) e = (suc (length (scan (room_in it) text).lines), rw (lt-leb (length text) longest l) (rw e))
