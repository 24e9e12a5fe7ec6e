-- Parts of reading and of writing: what the functions inside a reader or writer promise and ask for.
use Rattle.std.specs.Prelude.{◌%◌, ◌*◌, ◌+◌, ◌<◌, ◌≤◌, ℕ, eqb, leb, length, Bool, ◌&&◌, false, true, List, [], ◌++◌, ◌≡◌}
use Rattle.std.specs.Prelude.{Option, None, Some}
use Rattle.records.specs.Written.{written}
use Rattle.model.specs.Listing.{digits_in, field}
use Rattle.model.specs.Records.{at, records}
use Rattle.model.specs.declared.Rec.{Rec}
use Rattle.text_form.specs.Lines.{client_bytes, entry, line_word}
use Rattle.text_form.specs.Reading.{Scan, placed}
use Rattle.text_form.specs.Writing.{TextWritten, fits, line_at, lines_of, mark, over_if, walk}
use Rattle.text_form.specs.declared.Line.{Line}
use Rattle.text_form.specs.declared.Visit.{Visit}

-- there is room for record k + 1, and for one more entry above
pub record Placeable (it above : List ℕ) (k depth : ℕ) : Type 0 where
  pub few : k < 1024
  pub room : 8 * (k + 1) ≤ length it
  pub long : depth + 1 < length above

-- the bytes after a scan wrote the records of its lines over them
unfoldable pub scanned : Scan → List ℕ → List ℕ
scanned x it = written (placed x.lines) (length x.lines) it

-- what stands before the word in a line of the listing: the record's number
unfoldable pub front : Bool → ℕ → List ℕ
front true number = field number []
front false number = []

-- a number and a space, where there is one
unfoldable pub numbered : Option ℕ → List ℕ
numbered None = []
numbered (Some n) = field n []

-- a line's kind, label, name and client
unfoldable pub fields : Line → List ℕ
fields l = line_word l.kind ++ field l.label (digits_in 5 l.name ++ client_bytes l.client)

-- the line of a record, in a listing or not; hidden where it is gone among those shown
unfoldable pub visit_line : Bool → List Rec → List Rec → Visit → List ℕ
visit_line listed its shown v = entry (front listed v.number) (mark (listed && eqb (at shown v.number).kind 0)) (line_at its v)

-- the lines of all records of the bytes s, in a listing or not; the bytes sheet have those shown
abbrev pub whole_text : Bool → List ℕ → List ℕ → List ℕ
whole_text listed s sheet = lines_of (visit_line listed (records s) (records sheet)) (walk (records s))

-- whole records, at most 1,024 of them
pub record Whole (s : List ℕ) : Type 0 where
  pub whole : length s % 8 ≡ 0
  pub few : length s ≤ 8192

-- what a writer of w into t answers and leaves
pub record Written (w t t' : List ℕ) (r : TextWritten) : Type 0 where
  pub answer : r ≡ fits (leb (length w) (length t)) w
  pub bytes : t' ≡ over_if (leb (length w) (length t)) w t
