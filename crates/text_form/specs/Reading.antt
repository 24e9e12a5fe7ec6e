-- Reading the text form: a line, all lines, and the records that they are.
use Rattle.std.specs.Prelude.{◌*◌, ◌+◌, ◌-◌, ◌/◌, ◌%◌, min, suc, zero, ℕ, eqb, leb, drop, length, not, replicate, set, get_or, Bool, ◌&&◌, false, true, List, [], ◌∷◌}
use Rattle.std.specs.Prelude.{Option, None, Some, Result, Ok, Err}
use Rattle.model.specs.Records.{byte, encode}
use Rattle.model.specs.declared.Capability.TheVariants.{In as cap-in, Open as cap-open, Out as cap-out}
use Rattle.model.specs.Validity.{label_by, name_by}
use Rattle.model.specs.declared.Rec.{Rec}
use Rattle.text_put.specs.Puts.{over}
use Rattle.text_form.specs.Lines.{ambient_kind, kind_byte, kind_word, nested_kind}
use Rattle.text_form.specs.declared.Cause.{Cause}
use Rattle.text_form.specs.declared.Cause.TheVariants as cause
use Rattle.text_form.specs.declared.Decimal.{Decimal}
use Rattle.text_form.specs.declared.Fault.{Fault}
use Rattle.text_form.specs.declared.Kind.{Kind}
use Rattle.text_form.specs.declared.Kind.TheVariants.{Acts, Ambient, Replication}
use Rattle.text_form.specs.declared.Line.{Line}
use Rattle.text_form.specs.declared.LineRead.{LineRead}

-- how many bytes at the start pass a test
unfoldable pub leading : (ℕ → Bool) → List ℕ → ℕ
leading test [] = 0
leading test (c ∷ s) = elim (test c) [ true ↦ suc (leading test s) | false ↦ 0 ]

-- how many spaces the bytes start with
abbrev pub spaces : List ℕ → ℕ
spaces s = leading (λ c. eqb c 32) s

-- a byte shows as a character: neither a space nor a control nor a part of a longer code
unfoldable pub visible : ℕ → Bool
visible c = leb 33 c && leb c 126

-- how many visible bytes the bytes start with
abbrev pub shown : List ℕ → ℕ
shown s = leading visible s

-- whether the bytes s start with w
unfoldable pub starts : List ℕ → List ℕ → Bool
starts [] s = true
starts (c ∷ w) [] = false
starts (c ∷ w) (x ∷ s) = elim (eqb x c) [ true ↦ starts w s | false ↦ false ]

-- the byte order mark
unfoldable pub mark_bytes : List ℕ
mark_bytes = 239 ∷ 187 ∷ 191 ∷ []

-- the cause of a fault where s stands: the invisible bytes that s starts with, and otherwise the cause given
unfoldable pub cause_at : Cause → List ℕ → Cause
cause_at given s =
    elim (eqb (byte s 0) 13) [
      | true ↦ cause.CarriageReturn
      | false ↦ elim (eqb (byte s 0) 9) [ true ↦ cause.Tab | false ↦ elim (starts mark_bytes s) [ true ↦ cause.ByteOrderMark | false ↦ given ] ]
    ]

-- a byte is one of 0 to 9
unfoldable pub digit : ℕ → Bool
digit c = leb 48 c && leb c 57

-- a decimal number with no leading zero, of at most three digits, whose first bytes are a, b, c; none where a is no digit
unfoldable pub numeral_of : ℕ → ℕ → ℕ → Option Decimal
numeral_of a b c =
    elim (digit a) [
      | false ↦ None
      | true ↦ elim (eqb a 48) [
        | true ↦ Some (record { value = 0; width = 1 })
        | false ↦ elim (digit b) [
          | false ↦ Some (record { value = a - 48; width = 1 })
          | true ↦ elim (digit c) [
            | false ↦ Some (record { value = 10 * (a - 48) + (b - 48); width = 2 })
            | true ↦ Some (record { value = 100 * (a - 48) + (10 * (b - 48) + (c - 48)); width = 3 })
          ]
        ]
      ]
    ]

-- the number that the bytes start with
unfoldable pub numeral : List ℕ → Option Decimal
numeral s = numeral_of (byte s 0) (byte s 1) (byte s 2)

-- the cause of digits after a number of w digits: one that stops before them is 0
unfoldable pub digits_cause : ℕ → Cause
digits_cause w = elim (eqb w 1) [ true ↦ cause.LeadingZero | false ↦ cause.TooManyDigits ]

-- what is next where the test is true, and the fault otherwise
unfoldable pub demand : {A : Type 0} → Bool → Cause → Result A Cause → Result A Cause
demand true given next = next
demand false given next = Err given

-- the number n, unless digits stand after it in the bytes s that it starts
unfoldable pub number_alone : Cause → List ℕ → Option Decimal → Result Decimal Cause
number_alone missing s None = Err (cause_at missing s)
number_alone missing s (Some n) = elim (digit (byte s n.width)) [ true ↦ Err (digits_cause n.width) | false ↦ Ok n ]

-- the number that the bytes s start with, or what is wrong with it: it is missing, or digits stand after it
unfoldable pub number_read : Cause → List ℕ → Result Decimal Cause
number_read missing s = number_alone missing s (numeral s)

-- what is next for the number, and its fault where it has one
unfoldable pub with_number : Result Decimal Cause → (Decimal → Result LineRead Cause) → Result LineRead Cause
with_number (Ok n) next = next n
with_number (Err c) next = Err c

-- the client, behind the space before it
unfoldable pub client_told : Result Decimal Cause → Result Decimal Cause
client_told (Ok n) = demand (not (eqb n.value 0)) cause.ZeroClient (Ok (record { value = n.value; width = suc n.width }))
client_told (Err c) = Err c

-- the client after the name, and how many bytes it takes: 0 and none where no space stands, so that a 0 that is written is a fault
unfoldable pub client_read : List ℕ → Result Decimal Cause
client_read s = elim (eqb (byte s 0) 32) [ true ↦ client_told (number_read cause.NoClient (drop 1 s)) | false ↦ Ok (record { value = 0; width = 0 }) ]

-- the end of line l
unfoldable pub ended : Line → List ℕ → Result LineRead Cause
ended l [] = Err cause.NoEnd
ended l (c ∷ s) = demand (eqb c 10) (cause_at cause.AfterName (c ∷ s)) (Ok (record { line = l; left = length s }))

-- the client, after the depth, kind, label and name
unfoldable pub served : ℕ → Kind → ℕ → ℕ → List ℕ → Result LineRead Cause
served d k label name s =
    with_number (client_read s) (λ n.
    ended (record { depth = d; kind = Some k; label = label; name = name; client = n.value }) (drop n.width s))

-- the name, after the depth, kind and label
unfoldable pub named : ℕ → Kind → ℕ → List ℕ → Result LineRead Cause
named d k label s =
    demand (eqb (byte s 0) 32) (cause_at cause.NoName s)
    (with_number (number_read cause.NoName (drop 1 s)) (λ n. demand (name_by (nested_kind k) n.value) cause.WrongName
    (served d k label n.value (drop n.width (drop 1 s)))))

-- the label, after the depth and kind
unfoldable pub labelled : ℕ → Kind → List ℕ → Result LineRead Cause
labelled d k s =
    with_number (number_read cause.NoLabel s) (λ n. demand (label_by (nested_kind k) (ambient_kind k) n.value) cause.WrongLabel
    (named d k n.value (drop n.width s)))

-- no kind's word: what is wrong is told where the visible bytes end
unfoldable pub unworded : List ℕ → Result LineRead Cause
unworded s = Err (cause_at cause.UnknownKind (drop (shown s) s))

-- the kind, after the depth: the first of the kinds given whose word the bytes start with
unfoldable pub worded_by : List Kind → ℕ → List ℕ → Result LineRead Cause
worded_by [] d s = unworded s
worded_by (k ∷ ks) d s = elim (starts (kind_word k) s) [ true ↦ labelled d k (drop (length (kind_word k)) s) | false ↦ worded_by ks d s ]

-- all kinds
unfoldable pub kinds : List Kind
kinds = Ambient ∷ Acts cap-in ∷ Acts cap-out ∷ Acts cap-open ∷ Replication ∷ []

-- the kind, after the depth
unfoldable pub worded : ℕ → List ℕ → Result LineRead Cause
worded d s = worded_by kinds d s

-- the cause of a wrong indentation before s: only the first line may not be indented at all
unfoldable pub indent_cause : Cause → ℕ → List ℕ → Cause
indent_cause given deepest s = cause_at (elim (eqb deepest 0) [ true ↦ cause.FirstIndented | false ↦ given ]) s

-- the line that the bytes start with, where it may be indented by at most deepest steps
unfoldable pub line_read : ℕ → List ℕ → Result LineRead Cause
line_read deepest s =
    let n = spaces s in
    demand (eqb (n % 2) 0) (indent_cause cause.OddIndent deepest (drop n s))
    (demand (leb (n / 2) deepest) (indent_cause cause.TooDeep deepest (drop n s))
    (worded (n / 2) (drop n s)))

-- the lines read before the end or the first fault, and the fault's cause
pub record Scan : Type 0 where
  pub lines : List Line
  pub fault : Option Cause

-- one line more before the others
unfoldable pub before : Line → Scan → Scan
before l x = record { lines = l ∷ x.lines; fault = x.fault }

-- the bytes s line by line, at most room of them; each is indented by at most one step more than the one before
unfoldable pub scan_from : ℕ → ℕ → List ℕ → Scan
scan_from zero deepest [] = record { lines = []; fault = None }
scan_from zero deepest (c ∷ s) = record { lines = []; fault = Some cause.TooMany }
scan_from (suc room) deepest [] = record { lines = []; fault = None }
scan_from (suc room) deepest (c ∷ s) =
    elim (line_read deepest (c ∷ s)) [
      | Ok x ↦ before x.line (scan_from room (suc x.line.depth) (drop (suc (length s) - x.left) (c ∷ s)))
      | Err e ↦ record { lines = []; fault = Some e }
    ]

-- the first line is not indented
unfoldable pub scan : ℕ → List ℕ → Scan
scan room s = scan_from room 0 s

-- the record of a line, under a parent
unfoldable pub record_of : Line → ℕ → Rec
record_of l p = record { kind = kind_byte l.kind; label = l.label; name = l.name; parent = p; client = l.client }

-- the records of lines numbered from k on; entry d of above is the parent of a line of depth d: the nearest line before
-- with one step less, 0 for depth 0
unfoldable pub placed_from : ℕ → List ℕ → List Line → List Rec
placed_from k above [] = []
placed_from k above (l ∷ ls) = record_of l (get_or above l.depth 0) ∷ placed_from (suc k) (set above (suc l.depth) k) ls

-- no line before
unfoldable pub none_above : List ℕ
none_above = replicate 1025 0

-- record k of the itinerary is line k
unfoldable pub placed : List Line → List Rec
placed ls = placed_from 1 none_above ls

-- the bytes of the itinerary that a text stands for
unfoldable pub bytes_of : List ℕ → List ℕ
bytes_of text = encode (placed (scan 1024 text).lines)

-- at most 1,024 records, and no more than the bytes hold
unfoldable pub room_in : List ℕ → ℕ
room_in it = min 1024 (length it / 8)

-- the number of lines read, or the fault: its line, the one after those read, and its cause
unfoldable pub read_by : ℕ → Option Cause → Result ℕ Fault
read_by n None = Ok n
read_by n (Some c) = Err (record { line = suc n; cause = c })

-- what a scan answers
unfoldable pub scan_answer : Scan → Result ℕ Fault
scan_answer x = read_by (length x.lines) x.fault

-- how many records were read into it, or the lowest line at fault
unfoldable pub lines_answer : List ℕ → List ℕ → Result ℕ Fault
lines_answer text it = scan_answer (scan (room_in it) text)

-- the length of the longest text of 1,024 records: a chain of ambients whose labels and names have two digits, and whose
-- clients have three
abbrev pub longest : ℕ
longest = 1065984

-- a fault is told as the text's length where that is too long, at its line
unfoldable pub length_told : Bool → Result ℕ Fault → Result ℕ Fault
length_told true got = got
length_told false (Ok n) = Ok n
length_told false (Err f) = Err (record { line = f.line; cause = cause.TooLong })

-- reader: how many records it wrote, or the lowest line at fault
unfoldable pub read_answer : List ℕ → List ℕ → Result ℕ Fault
read_answer text it = length_told (leb (length text) longest) (lines_answer text it)

-- by whether there is a fault
unfoldable pub read_into : Option Cause → List ℕ → List ℕ → List ℕ
read_into None bytes it = over bytes it
read_into (Some c) bytes it = it

-- the lent itinerary after the reader
unfoldable pub read_after : List ℕ → List ℕ → List ℕ
read_after text it = let x = scan (room_in it) text in read_into x.fault (encode (placed x.lines)) it

-- one byte, which is no itinerary: what stands for one that can't be had
unfoldable pub no_itinerary : List ℕ
no_itinerary = 0 ∷ []

-- by whether there is a fault
unfoldable pub bytes_or : Option Cause → List ℕ → List ℕ
bytes_or None bytes = bytes
bytes_or (Some c) bytes = no_itinerary

-- what hubtext writes, by whether its file can be read: the bytes of the itinerary that the text stands for, and one byte
-- where the text has a fault or can't be read
unfoldable pub converted : Bool → List ℕ → List ℕ
converted true text = bytes_or (scan 1024 text).fault (bytes_of text)
converted false text = no_itinerary
