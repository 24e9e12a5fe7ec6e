-- What hubjoin writes: the joined bytes of the four files' members, and what is no itinerary where a file can't be read, a member
-- is refused or they have too many records together.
use Rattle.std.specs.Prelude.{ℕ, leb, length, List, Option, Some}
use Rattle.model.specs.Joins.{four, join, join_bytes, members_check}
use Rattle.model.specs.Refusals.{Check, ◌▸◌, need}
use Rattle.text_form.specs.Reading.{no_itinerary}
use Rattle.text_form.specs.Writing.{text_or}

-- each member's checks in order, and then 16, as far as it is about the members: the buffer is the program's own
unfoldable pub set_check : List (List ℕ) → Check
set_check members =
    members_check members
    ▸ need (leb (length (join members)) 1024) 16 0

-- of members that could be read
unfoldable pub joined_set : List (List ℕ) → List ℕ
joined_set members = text_or no_itinerary (set_check members) (join_bytes members)

-- by the files' bytes, where they could be read
unfoldable pub joined_file : Option (List ℕ) → Option (List ℕ) → Option (List ℕ) → Option (List ℕ) → List ℕ
joined_file (Some a) (Some b) (Some c) (Some d) = joined_set (four a b c d)
joined_file a b c d = no_itinerary
