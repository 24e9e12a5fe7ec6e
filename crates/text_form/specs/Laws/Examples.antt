-- Example B of document 01, records with clients and a replication as text, read, written and listed; and faults with their line.
use Rattle.std.specs.Prelude.{suc, ℕ, eqb, replicate, true, List, [], ◌++◌, ◌∷◌, ◌≡◌, refl}
use Rattle.std.specs.Prelude.{Err, Some}
use Rattle.model.specs.Climbing.{hides, is_suspect, view, view_from}
use Rattle.model.specs.Finite.{lowest}
use Rattle.model.specs.Listing.{digits_in, field}
use Rattle.model.specs.Records.{at, capability, encode, is_ambient}
use Rattle.model.specs.Scripts.{kind_of}
use Rattle.model.specs.Refusals.{refuse}
use Rattle.model.specs.Validity.{label_by, label_in, name_by, validity}
use Rattle.model.specs.declared.Rec.{Rec}
use Rattle.text_form.specs.Laws.Converted.{fault-refused}
use Rattle.text_form.specs.Lines.{acting, ambient_kind, ambient_word, client_bytes, entry, hidden_word, in_word, indent, kind_at, kind_byte, kind_word, line_bytes, line_word, nested_kind, open_word, out_word, render, replication_word}
use Rattle.text_form.specs.Reading.{before, bytes_of, cause_at, client_read, client_told, converted, demand, digit, digits_cause, ended, kinds, labelled, leading, length_told, line_read, lines_answer, mark_bytes, named, none_above, number_alone, number_read, numeral, numeral_of, placed, placed_from, read_answer, read_by, record_of, room_in, scan, scan_answer, scan_from, served, starts, unworded, visible, with_number, worded, worded_by}
use Rattle.text_form.specs.Writing.{child_or, is_child, line_at, lines_of, list_line, list_of, mark, next_from, no_text, text_of, walk, walk_from}
use Rattle.text_form.specs.declared.Cause.{Cause}
use Rattle.text_form.specs.declared.Cause.TheVariants as cause

-- records (1,1,0,parent 0), (1,2,1,parent 1), (3,64,0,parent 2)
unfoldable pub example_b : List Rec
example_b =
    record { kind = 1; label = 1; name = 0; parent = 0; client = 0 }
    ∷ record { kind = 1; label = 2; name = 1; parent = 1; client = 0 }
    ∷ record { kind = 3; label = 64; name = 0; parent = 2; client = 0 }
    ∷ []

-- "ambient 1 0", "  ambient 2 1", "    out 64 0"
unfoldable pub text_b : List ℕ
text_b =
    97 ∷ 109 ∷ 98 ∷ 105 ∷ 101 ∷ 110 ∷ 116 ∷ 32 ∷ 49 ∷ 32 ∷ 48 ∷ 10
    ∷ 32 ∷ 32 ∷ 97 ∷ 109 ∷ 98 ∷ 105 ∷ 101 ∷ 110 ∷ 116 ∷ 32 ∷ 50 ∷ 32 ∷ 49 ∷ 10
    ∷ 32 ∷ 32 ∷ 32 ∷ 32 ∷ 111 ∷ 117 ∷ 116 ∷ 32 ∷ 54 ∷ 52 ∷ 32 ∷ 48 ∷ 10
    ∷ []

-- "1 ambient 1 0", "  2 ambient 2 1 hidden", "    3 out 64 0 hidden"
unfoldable pub listing_b : List ℕ
listing_b =
    49 ∷ 32 ∷ 97 ∷ 109 ∷ 98 ∷ 105 ∷ 101 ∷ 110 ∷ 116 ∷ 32 ∷ 49 ∷ 32 ∷ 48 ∷ 10
    ∷ 32 ∷ 32 ∷ 50 ∷ 32 ∷ 97 ∷ 109 ∷ 98 ∷ 105 ∷ 101 ∷ 110 ∷ 116 ∷ 32 ∷ 50 ∷ 32 ∷ 49 ∷ 32 ∷ 104 ∷ 105 ∷ 100 ∷ 100 ∷ 101 ∷ 110 ∷ 10
    ∷ 32 ∷ 32 ∷ 32 ∷ 32 ∷ 51 ∷ 32 ∷ 111 ∷ 117 ∷ 116 ∷ 32 ∷ 54 ∷ 52 ∷ 32 ∷ 48 ∷ 32 ∷ 104 ∷ 105 ∷ 100 ∷ 100 ∷ 101 ∷ 110 ∷ 10
    ∷ []

pub writes-b : text_of example_b ≡ text_b
unfolding text_of example_b text_b render line_bytes entry indent client_bytes line_word kind_word ambient_word in_word out_word open_word field digits_in line_at kind_at acting capability walk walk_from next_from child_or is_child lowest at
writes-b = refl

pub reads-b : bytes_of text_b ≡ encode example_b
unfolding bytes_of example_b text_b scan scan_from before line_read worded worded_by kinds kind_word labelled named served client_read ended demand numeral numeral_of digit starts leading cause_at number_read number_alone with_number ambient_word in_word out_word open_word ambient_kind nested_kind label_by label_in name_by placed placed_from record_of kind_byte kind_of none_above encode
reads-b = refl

-- "ambient 1 0", with a carriage return before the end of the line
unfoldable pub text_return : List ℕ
text_return = 97 ∷ 109 ∷ 98 ∷ 105 ∷ 101 ∷ 110 ∷ 116 ∷ 32 ∷ 49 ∷ 32 ∷ 48 ∷ 13 ∷ 10 ∷ []

pub faults-return : read_answer text_return (replicate 8 0) ≡ Err (record { line = 1; cause = cause.CarriageReturn })
unfolding text_return read_answer lines_answer length_told scan_answer read_by room_in scan scan_from line_read worded worded_by kinds kind_word labelled named served client_read ended demand numeral numeral_of digit starts leading cause_at number_read number_alone with_number ambient_word ambient_kind nested_kind label_by label_in name_by
faults-return = refl

-- where label 2 alone is suspect
pub lists-b : list_of example_b (λ k. eqb k 2) ≡ listing_b
unfolding list_of example_b listing_b lines_of list_line mark hidden_word entry indent client_bytes line_word kind_word ambient_word in_word out_word open_word field digits_in line_at kind_at acting capability walk walk_from next_from child_or is_child lowest at view view_from hides is_suspect is_ambient
lists-b = refl

-- clients 17 and 999, and none on the third
unfoldable pub example_clients : List Rec
example_clients =
    record { kind = 1; label = 1; name = 0; parent = 0; client = 17 }
    ∷ record { kind = 2; label = 64; name = 9; parent = 1; client = 999 }
    ∷ record { kind = 1; label = 2; name = 1; parent = 0; client = 0 }
    ∷ []

-- "ambient 1 0 17", "  in 64 9 999", "ambient 2 1"
unfoldable pub text_clients : List ℕ
text_clients =
    97 ∷ 109 ∷ 98 ∷ 105 ∷ 101 ∷ 110 ∷ 116 ∷ 32 ∷ 49 ∷ 32 ∷ 48 ∷ 32 ∷ 49 ∷ 55 ∷ 10
    ∷ 32 ∷ 32 ∷ 105 ∷ 110 ∷ 32 ∷ 54 ∷ 52 ∷ 32 ∷ 57 ∷ 32 ∷ 57 ∷ 57 ∷ 57 ∷ 10
    ∷ 97 ∷ 109 ∷ 98 ∷ 105 ∷ 101 ∷ 110 ∷ 116 ∷ 32 ∷ 50 ∷ 32 ∷ 49 ∷ 10
    ∷ []

-- "1 ambient 1 0 17 hidden", "  2 in 64 9 999 hidden", "3 ambient 2 1"
unfoldable pub listing_clients : List ℕ
listing_clients =
    49 ∷ 32 ∷ 97 ∷ 109 ∷ 98 ∷ 105 ∷ 101 ∷ 110 ∷ 116 ∷ 32 ∷ 49 ∷ 32 ∷ 48 ∷ 32 ∷ 49 ∷ 55 ∷ 32 ∷ 104 ∷ 105 ∷ 100 ∷ 100 ∷ 101 ∷ 110 ∷ 10
    ∷ 32 ∷ 32 ∷ 50 ∷ 32 ∷ 105 ∷ 110 ∷ 32 ∷ 54 ∷ 52 ∷ 32 ∷ 57 ∷ 32 ∷ 57 ∷ 57 ∷ 57 ∷ 32 ∷ 104 ∷ 105 ∷ 100 ∷ 100 ∷ 101 ∷ 110 ∷ 10
    ∷ 51 ∷ 32 ∷ 97 ∷ 109 ∷ 98 ∷ 105 ∷ 101 ∷ 110 ∷ 116 ∷ 32 ∷ 50 ∷ 32 ∷ 49 ∷ 10
    ∷ []

pub writes-clients : text_of example_clients ≡ text_clients
unfolding example_clients text_clients text_of render line_bytes entry indent client_bytes line_word kind_word ambient_word in_word out_word open_word field digits_in line_at kind_at acting capability walk walk_from next_from child_or is_child lowest at
writes-clients = refl

pub reads-clients : bytes_of text_clients ≡ encode example_clients
unfolding bytes_of example_clients text_clients scan scan_from before line_read worded worded_by kinds kind_word labelled named served client_read client_told ended demand numeral numeral_of digit starts leading cause_at number_read number_alone with_number ambient_word in_word out_word open_word ambient_kind nested_kind label_by label_in name_by placed placed_from record_of kind_byte kind_of none_above encode
reads-clients = refl

-- where label 1 alone is suspect
pub lists-clients : list_of example_clients (λ k. eqb k 1) ≡ listing_clients
unfolding example_clients listing_clients list_of lines_of list_line mark hidden_word entry indent client_bytes line_word kind_word ambient_word in_word out_word open_word field digits_in line_at kind_at acting capability walk walk_from next_from child_or is_child lowest at view view_from hides is_suspect is_ambient
lists-clients = refl

-- a replication with a client, and below it a capability
unfoldable pub example_replication : List Rec
example_replication =
    record { kind = 1; label = 1; name = 0; parent = 0; client = 0 }
    ∷ record { kind = 5; label = 0; name = 0; parent = 1; client = 17 }
    ∷ record { kind = 2; label = 64; name = 9; parent = 2; client = 0 }
    ∷ []

-- "ambient 1 0", "  copier 0 0 17", "    in 64 9"
unfoldable pub text_replication : List ℕ
text_replication =
    97 ∷ 109 ∷ 98 ∷ 105 ∷ 101 ∷ 110 ∷ 116 ∷ 32 ∷ 49 ∷ 32 ∷ 48 ∷ 10
    ∷ 32 ∷ 32 ∷ 99 ∷ 111 ∷ 112 ∷ 105 ∷ 101 ∷ 114 ∷ 32 ∷ 48 ∷ 32 ∷ 48 ∷ 32 ∷ 49 ∷ 55 ∷ 10
    ∷ 32 ∷ 32 ∷ 32 ∷ 32 ∷ 105 ∷ 110 ∷ 32 ∷ 54 ∷ 52 ∷ 32 ∷ 57 ∷ 10
    ∷ []

pub writes-replication : text_of example_replication ≡ text_replication
unfolding example_replication text_replication text_of render line_bytes entry indent client_bytes line_word kind_word ambient_word in_word replication_word field digits_in line_at kind_at acting capability walk walk_from next_from child_or is_child lowest at
writes-replication = refl

pub reads-replication : bytes_of text_replication ≡ encode example_replication
unfolding bytes_of example_replication text_replication scan scan_from before line_read worded worded_by kinds kind_word labelled named served client_read client_told ended demand numeral numeral_of digit starts leading cause_at number_read number_alone with_number ambient_word in_word out_word open_word replication_word ambient_kind nested_kind label_by label_in name_by placed placed_from record_of kind_byte kind_of none_above encode
reads-replication = refl

-- "ambient 1 0", w and the end of the line
unfoldable pub text_with : List ℕ → List ℕ
text_with w = 97 ∷ 109 ∷ 98 ∷ 105 ∷ 101 ∷ 110 ∷ 116 ∷ 32 ∷ 49 ∷ 32 ∷ 48 ∷ (w ++ (10 ∷ []))

-- 0, 017, 1000 and nothing for a client, each behind a space
unfoldable pub zero_client : List ℕ
zero_client = 32 ∷ 48 ∷ []

unfoldable pub leading_client : List ℕ
leading_client = 32 ∷ 48 ∷ 49 ∷ 55 ∷ []

unfoldable pub long_client : List ℕ
long_client = 32 ∷ 49 ∷ 48 ∷ 48 ∷ 48 ∷ []

unfoldable pub no_client : List ℕ
no_client = 32 ∷ []

-- the fault in line 1 of a text, read into one record
abbrev pub Faulty : List ℕ → Cause → Type 0
Faulty w c = read_answer (text_with w) (replicate 8 0) ≡ Err (record { line = 1; cause = c })

pub zero-client : Faulty zero_client cause.ZeroClient
unfolding text_with zero_client read_answer lines_answer length_told scan_answer read_by room_in scan scan_from before line_read worded worded_by kinds kind_word labelled named served client_read client_told ended demand numeral numeral_of digit starts leading cause_at number_read number_alone with_number ambient_word in_word out_word open_word ambient_kind nested_kind label_by label_in name_by
zero-client = refl

pub leading-client : Faulty leading_client cause.LeadingZero
unfolding text_with leading_client read_answer lines_answer length_told scan_answer read_by room_in scan scan_from before line_read worded worded_by kinds kind_word labelled named served client_read client_told ended demand numeral numeral_of digit starts leading cause_at number_read number_alone with_number ambient_word in_word out_word open_word ambient_kind nested_kind label_by label_in name_by digits_cause
leading-client = refl

pub long-client : Faulty long_client cause.TooManyDigits
unfolding text_with long_client read_answer lines_answer length_told scan_answer read_by room_in scan scan_from before line_read worded worded_by kinds kind_word labelled named served client_read client_told ended demand numeral numeral_of digit starts leading cause_at number_read number_alone with_number ambient_word in_word out_word open_word ambient_kind nested_kind label_by label_in name_by digits_cause
long-client = refl

pub missing-client : Faulty no_client cause.NoClient
unfolding text_with no_client read_answer lines_answer length_told scan_answer read_by room_in scan scan_from before line_read worded worded_by kinds kind_word labelled named served client_read client_told ended demand numeral numeral_of digit starts leading cause_at number_read number_alone with_number ambient_word in_word out_word open_word ambient_kind nested_kind label_by label_in name_by mark_bytes
missing-client = refl

-- "copier ", w and the end of the line
unfoldable pub replication_with : List ℕ → List ℕ
replication_with w = 99 ∷ 111 ∷ 112 ∷ 105 ∷ 101 ∷ 114 ∷ 32 ∷ (w ++ (10 ∷ []))

-- "1 0", "64 0" and "0 1": a replication has neither a label nor a name
unfoldable pub low_label : List ℕ
low_label = 49 ∷ 32 ∷ 48 ∷ []

unfoldable pub high_label : List ℕ
high_label = 54 ∷ 52 ∷ 32 ∷ 48 ∷ []

unfoldable pub some_name : List ℕ
some_name = 48 ∷ 32 ∷ 49 ∷ []

abbrev pub FaultyReplication : List ℕ → Cause → Type 0
FaultyReplication w c = read_answer (replication_with w) (replicate 8 0) ≡ Err (record { line = 1; cause = c })

pub low-label : FaultyReplication low_label cause.WrongLabel
unfolding replication_with low_label read_answer lines_answer length_told scan_answer read_by room_in scan scan_from line_read worded worded_by kinds kind_word labelled demand numeral numeral_of digit starts leading number_read number_alone with_number ambient_word in_word out_word open_word replication_word ambient_kind nested_kind label_by label_in
low-label = refl

pub high-label : FaultyReplication high_label cause.WrongLabel
unfolding replication_with high_label read_answer lines_answer length_told scan_answer read_by room_in scan scan_from line_read worded worded_by kinds kind_word labelled demand numeral numeral_of digit starts leading number_read number_alone with_number ambient_word in_word out_word open_word replication_word ambient_kind nested_kind label_by label_in
high-label = refl

pub some-name : FaultyReplication some_name cause.WrongName
unfolding replication_with some_name read_answer lines_answer length_told scan_answer read_by room_in scan scan_from line_read worded worded_by kinds kind_word labelled named demand numeral numeral_of digit starts leading number_read number_alone with_number ambient_word in_word out_word open_word replication_word ambient_kind nested_kind label_by label_in name_by
some-name = refl

-- what hubshow writes where it has no text is none: hubtext refuses it, and writes what every call on an itinerary refuses
no-text-fault : (room : ℕ) → (scan (suc room) no_text).fault ≡ Some cause.UnknownKind
unfolding no_text scan scan_from line_read worded worded_by kinds kind_word unworded visible demand starts leading cause_at mark_bytes ambient_word in_word out_word open_word replication_word
no-text-fault room = refl

pub no-text-refused : validity (converted true no_text) ≡ refuse 1 0
no-text-refused = fault-refused no_text cause.UnknownKind (no-text-fault 1023)
