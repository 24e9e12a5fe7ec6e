-- Document 02, Job 6: A joined with B, and two places unused. B's records come behind A's two, so that their parents grow by 2 and
-- its environment stays. The table of B's seven bits is accepted for both, and so for the join; that of A's five isn't for B: the
-- call refuses with 9.
use Rattle.std.specs.Prelude.{ℕ, replicate, List, [], ◌≡◌, refl}
use Rattle.std.proofs.Common.{◌∙◌, ap, sym}
use Rattle.std.proofs.Math.Bool.{true}
use Rattle.examples.specs.Claims.{classes, itinerary_a, itinerary_b, rec}
use Rattle.examples.specs.Listed.{all_below, computing}
use Rattle.examples.specs.Proofs.{bits_a, bits_b}
use Rattle.examples.specs.Tabled.{accepting, formed, refusing, table_of}
use Rattle.model.specs.Calls.{check_answer, checking, join_after, join_answer, joining}
use Rattle.model.specs.Joins.{behind, four, join, join_bytes, join_from, members_check, set_right, shifted}
use Rattle.model.specs.Refusals.{◌▸◌, done, need, pass, refuse, refused}
use Rattle.model.proofs.Laws.Checks.{answer-done, answer-pass, answer-refuse, content-kept, content-new, then_next}

-- A and B in the first places
unfoldable pub members : List (List ℕ)
members = four itinerary_a itinerary_b [] []

-- "Joining them puts the records one after another and adds the earlier record count to each parent that isn't 0."
unfoldable pub together : List ℕ
together = rec 1 1 0 0 (rec 1 2 1 1 (rec 1 1 0 0 (rec 1 2 1 3 (rec 3 64 0 4 []))))

-- a buffer of the joined length
unfoldable pub room : List ℕ
room = replicate 40 255

pub bytes-joined : join_bytes members ≡ together
unfolding computing members together join_bytes join join_from behind shifted
bytes-joined = refl

front : (members_check members ▸ need (set_right members room) 16 0) ≡ pass
unfolding computing members room members_check set_right join join_from behind shifted
front = refl

small-a : all_below 12352 bits_a ≡ true
unfolding computing all_below bits_a
small-a = refl

small-b : all_below 12352 bits_b ≡ true
unfolding computing all_below bits_b
small-b = refl

accepted-b : check_answer together classes (table_of bits_b) ≡ done tt
unfolding computing bits_b formed together
accepted-b = accepting bits_b small-b classes refl refl together refl refl

passed-b : joining members classes (table_of bits_b) room ≡ pass
unfolding joining check_answer
passed-b = then_next _ front ∙ ap (λ s. checking s classes (table_of bits_b)) bytes-joined ∙ answer-done (checking together classes (table_of bits_b)) tt tt accepted-b

-- the call is done, and the joined bytes are in the buffer
pub answered : join_answer members classes (table_of bits_b) room ≡ done tt
unfolding join_answer
answered = answer-pass tt passed-b

pub joined : join_after members classes (table_of bits_b) room ≡ together
unfolding join_after
joined = sym (content-new (join_bytes members) room passed-b) ∙ bytes-joined

-- by A's table it is refused, and the buffer is as it was
lacking : checking together classes (table_of bits_a) ≡ refuse 9 0
unfolding computing bits_a formed together
lacking = refusing bits_a small-a classes refl refl together refl refl

refused-a : joining members classes (table_of bits_a) room ≡ refuse 9 0
unfolding joining
refused-a = then_next _ front ∙ ap (λ s. checking s classes (table_of bits_a)) bytes-joined ∙ lacking

pub turned-down : join_answer members classes (table_of bits_a) room ≡ refused 9 0
unfolding join_answer
turned-down = answer-refuse tt refused-a

pub kept : join_after members classes (table_of bits_a) room ≡ room
unfolding join_after
kept = sym (content-kept (join_bytes members) room refused-a)
