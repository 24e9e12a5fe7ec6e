-- The text form of an itinerary: one line a record, indented by two spaces for each record above it.
use Rattle.std.specs.Prelude.{◌*◌, suc, zero, ℕ, eqb, replicate, Bool, false, true, List, [], ◌++◌, ◌∷◌}
use Rattle.std.specs.Prelude.{Option, None, Some}
use Rattle.model.specs.Listing.{digits_in, field}
use Rattle.model.specs.declared.Capability.{Capability}
use Rattle.model.specs.declared.Capability.TheVariants.{In as cap-in, Open as cap-open, Out as cap-out}
use Rattle.model.specs.Records.{capability}
use Rattle.model.specs.Scripts.{kind_of}
use Rattle.text_form.specs.declared.Kind.{Kind}
use Rattle.text_form.specs.declared.Kind.TheVariants.{Acts, Ambient, Replication}
use Rattle.text_form.specs.declared.Line.{Line}

-- "ambient", "in", "out", "open", and document 02's "copier", each with the space after it
unfoldable pub ambient_word : List ℕ
ambient_word = 97 ∷ 109 ∷ 98 ∷ 105 ∷ 101 ∷ 110 ∷ 116 ∷ 32 ∷ []

unfoldable pub in_word : List ℕ
in_word = 105 ∷ 110 ∷ 32 ∷ []

unfoldable pub out_word : List ℕ
out_word = 111 ∷ 117 ∷ 116 ∷ 32 ∷ []

unfoldable pub open_word : List ℕ
open_word = 111 ∷ 112 ∷ 101 ∷ 110 ∷ 32 ∷ []

unfoldable pub replication_word : List ℕ
replication_word = 99 ∷ 111 ∷ 112 ∷ 105 ∷ 101 ∷ 114 ∷ 32 ∷ []

-- " hidden", at the end of the line of a record that the sheet hides
unfoldable pub hidden_word : List ℕ
hidden_word = 32 ∷ 104 ∷ 105 ∷ 100 ∷ 100 ∷ 101 ∷ 110 ∷ []

-- the word of a kind
unfoldable pub kind_word : Kind → List ℕ
kind_word Ambient = ambient_word
kind_word (Acts cap-in) = in_word
kind_word (Acts cap-out) = out_word
kind_word (Acts cap-open) = open_word
kind_word Replication = replication_word

-- the word in a line, none where the record has no kind
unfoldable pub line_word : Option Kind → List ℕ
line_word None = []
line_word (Some k) = kind_word k

-- a kind is an ambient
unfoldable pub ambient_kind : Kind → Bool
ambient_kind Ambient = true
ambient_kind (Acts k) = false
ambient_kind Replication = false

-- a kind is an ambient or a capability
unfoldable pub nested_kind : Kind → Bool
nested_kind Ambient = true
nested_kind (Acts k) = true
nested_kind Replication = false

-- a kind's number in a record: "1 ambient, 2 in, 3 out, 4 open"; document 02, Job 7: "Kind 5 is a copier"
unfoldable pub kind_byte : Option Kind → ℕ
kind_byte None = 0
kind_byte (Some Ambient) = 1
kind_byte (Some (Acts k)) = kind_of k
kind_byte (Some Replication) = 5

-- the kind of a capability's record
unfoldable pub acting : Option Capability → Option Kind
acting None = None
acting (Some k) = Some (Acts k)

-- the kind that a record's number stands for; 0 and what is over 5 stand for none
unfoldable pub kind_at : ℕ → Option Kind
kind_at n = elim (eqb n 1) [ true ↦ Some Ambient | false ↦ elim (eqb n 5) [ true ↦ Some Replication | false ↦ acting (capability n) ] ]

-- document 02, Job 4: a client's number after the name, with the space before it; nothing stands for 0
unfoldable pub client_bytes : ℕ → List ℕ
client_bytes zero = []
client_bytes (suc n) = 32 ∷ digits_in 5 (suc n)

-- two spaces for each record above
unfoldable pub indent : ℕ → List ℕ
indent d = replicate (2 * d) 32

-- a line: the indentation, front, the kind's word, the label, the name, the client, back, and the end of the line
unfoldable pub entry : List ℕ → List ℕ → Line → List ℕ
entry front back l = indent l.depth ++ (front ++ (line_word l.kind ++ field l.label (digits_in 5 l.name ++ (client_bytes l.client ++ (back ++ (10 ∷ []))))))

-- a line of the text form
unfoldable pub line_bytes : Line → List ℕ
line_bytes l = entry [] [] l

-- the text form of lines
unfoldable pub render : List Line → List ℕ
render [] = []
render (l ∷ ls) = line_bytes l ++ render ls
