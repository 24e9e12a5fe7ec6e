-- Writing the text form: the records that aren't gone, depth first, the children of one parent by their numbers.
use Rattle.std.specs.Prelude.{◌-◌, suc, zero, ℕ, eqb, leb, length, Bool, ◌&&◌, false, true, List, [], ◌++◌, ◌∷◌, map}
use Rattle.std.specs.Prelude.{Option, None, Some, Result, Ok, Err}
use Rattle.model.specs.Climbing.{hidden}
use Rattle.model.specs.Finite.{lowest, unequal}
use Rattle.model.specs.Listing.{field}
use Rattle.model.specs.Numbers.{number_of}
use Rattle.model.specs.Records.{at, parent_of, records}
use Rattle.model.specs.Refusals.{Check, and_then, content, need, pass, refuse}
use Rattle.model.specs.Tables.{suspects, table_right}
use Rattle.model.specs.Validity.{validity}
use Rattle.model.specs.declared.Rec.{Rec}
use Rattle.text_put.specs.Puts.{over}
use Rattle.text_form.specs.Lines.{entry, hidden_word, kind_at, render}
use Rattle.text_form.specs.declared.Line.{Line}
use Rattle.text_form.specs.declared.Visit.{Visit}
use Rattle.text_form.specs.declared.WriteError.{WriteError}
use Rattle.text_form.specs.declared.WriteError.TheVariants as error

-- record j is not gone and has parent p
unfoldable pub is_child : List Rec → ℕ → ℕ → Bool
is_child its p j = unequal (at its j).kind 0 && eqb (parent_of its j) p

-- the lowest child of p with a number over after
abbrev pub child_over : List Rec → ℕ → ℕ → Option ℕ
child_over its p after = lowest (is_child its p) (suc after) (length its - after)

-- a child at a depth, and otherwise what is found further up
unfoldable pub child_or : Option ℕ → ℕ → Option Visit → Option Visit
child_or None d up = up
child_or (Some j) d up = Some (record { number = j; depth = d })

-- the next record to visit after those up to number after under p, which has d records above its children: the next
-- child of p, or else what comes after p
unfoldable pub next_from : List Rec → ℕ → ℕ → ℕ → Option Visit
next_from its zero p after = child_or (child_over its p after) 0 None
next_from its (suc d) p after = child_or (child_over its p after) (suc d) (next_from its d (parent_of its p) p)

-- at most n visits, from the children of p on, which stand at depth d
unfoldable pub walk_from : List Rec → ℕ → ℕ → ℕ → List Visit
walk_from its zero p d = []
walk_from its (suc n) p d = elim (next_from its d p 0) [ None ↦ [] | Some v ↦ v ∷ walk_from its n v.number (suc v.depth) ]

-- every record that is not gone, depth first
unfoldable pub walk : List Rec → List Visit
walk its = walk_from its (length its) 0 0

-- the line of a record met at a depth
unfoldable pub line_at : List Rec → Visit → Line
line_at its v = let r = at its v.number in record { depth = v.depth; kind = kind_at r.kind; label = r.label; name = r.name; client = r.client }

-- the text form of records
unfoldable pub text_of : List Rec → List ℕ
text_of its = render (map (line_at its) (walk its))

-- " hidden" where the record is
unfoldable pub mark : Bool → List ℕ
mark true = hidden_word
mark false = []

-- a line of the listing: the record's number before its kind, and whether it is hidden at its end
unfoldable pub list_line : List Rec → (ℕ → Bool) → Visit → List ℕ
list_line its hides v = entry (field v.number []) (mark (hides v.number)) (line_at its v)

-- the lines of visits
unfoldable pub lines_of : (Visit → List ℕ) → List Visit → List ℕ
lines_of line [] = []
lines_of line (v ∷ vs) = line v ++ lines_of line vs

-- the listing of records, where S are the suspect labels
unfoldable pub list_of : List Rec → (ℕ → Bool) → List ℕ
list_of its S = lines_of (list_line its (hidden its S)) (walk its)

-- the answer of a writer: the text's length, or the room that it needs, or "number, record" of the itinerary's refusal
pub data TextWritten : Type 0 where
  Length : ℕ → TextWritten
  NoRoom : ℕ → TextWritten
  Refused : (n r : ℕ) → TextWritten

-- the answer of the code, a Result
unfoldable pub written_as : Result ℕ WriteError → TextWritten
written_as (Ok n) = Length n
written_as (Err (error.NoRoom n)) = NoRoom n
written_as (Err (error.Refused r)) = Refused (number_of r.cause) r.«record»

-- by whether w has room in t: its length, or the room that it needs
unfoldable pub fits : Bool → List ℕ → TextWritten
fits true w = Length (length w)
fits false w = NoRoom (length w)

-- by whether there is room
unfoldable pub over_if : Bool → List ℕ → List ℕ → List ℕ
over_if true w t = over w t
over_if false w t = t

-- the answer of a writer of w into t, after its checks
unfoldable pub told : Check → List ℕ → List ℕ → TextWritten
told pass w t = fits (leb (length w) (length t)) w
told (refuse n r) w t = Refused n r

-- the lent text after a writer of w; it is as it was where the checks refuse or there is no room
unfoldable pub told_after : Check → List ℕ → List ℕ → List ℕ
told_after c w t = content c (over_if (leb (length w) (length t)) w t) t

-- writer: 1 to 6
unfoldable pub write_answer : List ℕ → List ℕ → TextWritten
write_answer s text = told (validity s) (text_of (records s)) text

-- the lent text after the writer
unfoldable pub write_after : List ℕ → List ℕ → List ℕ
write_after s text = told_after (validity s) (text_of (records s)) text

-- listing: 1 to 6, 8
unfoldable pub listable : List ℕ → List ℕ → Check
listable s table = and_then (validity s) (need (table_right table) 8 0)

-- listing: the records that the sheet hides are marked
unfoldable pub list_answer : List ℕ → List ℕ → List ℕ → TextWritten
list_answer s table text = told (listable s table) (list_of (records s) (suspects table)) text

-- the lent text after the listing
unfoldable pub list_after : List ℕ → List ℕ → List ℕ → List ℕ
list_after s table text = told_after (listable s table) (list_of (records s) (suspects table)) text

-- what hubshow, hublist and hubjoin write: the text or bytes, and others where they are refused
unfoldable pub text_or : List ℕ → Check → List ℕ → List ℕ
text_or other pass w = w
text_or other (refuse n r) w = other

-- hubshow's bytes where there is no text: a question mark, which no line begins with (`no-text-refused`)
unfoldable pub no_text : List ℕ
no_text = 63 ∷ []

-- what hubshow writes, by whether its file can be read: the text, and the question mark where the bytes are refused or can't
-- be read
unfoldable pub shown_text : Bool → List ℕ → List ℕ
shown_text true s = text_or no_text (validity s) (text_of (records s))
shown_text false s = no_text
