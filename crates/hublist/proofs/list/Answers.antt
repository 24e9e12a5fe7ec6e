-- `hublist::list` meets its contract: a valid itinerary has a listing with room, so that there is never too little.
use Rattle.std.proofs.Common.{[], ◌∙◌, ap, arith, refl}
use Rattle.std.specs.Prelude.{Err}
use Rattle.hublist.specs.Listed.{room_for}
use Rattle.text_form.specs.Laws.Room.{never, refused, wrote}
use Rattle.text_put.specs.Puts.{over}
use Rattle.text_form.specs.Writing.{list_after, list_answer}
use Rattle.hublist.proofs.list.Goals as goal

pub returns-in-Err-Refused : goal.returns-in-Err-Refused
unfolding list_answer list_after over
returns-in-Err-Refused g c =
    let t = refused _ _ _ _ c.list_text.result c.list_text.ensures.answer c.list_text.ensures.bytes (λ p. omega (arith, room_for _ _ p)) [] c.in-Err-Refused.r (c.in-Err-Refused.is ∙ ap Err c.in-Err-Refused.field-0-is) (c.tell.ensures, refl) in
    record { length = t.0; bytes = t.1 }

pub returns-in-Ok : goal.returns-in-Ok
unfolding list_answer list_after
returns-in-Ok g c =
    let t = wrote _ _ _ _ c.list_text.result c.list_text.ensures.answer c.list_text.ensures.bytes (λ p. omega (arith, room_for _ _ p)) [] _ c.in-Ok.is in
    record { length = t.0; bytes = t.1 }

pub returns-in-Err-NoRoom : goal.returns-in-Err-NoRoom
unfolding list_answer list_after
returns-in-Err-NoRoom g c =
    absurd (never _ _ _ _ c.list_text.result c.list_text.ensures.answer c.list_text.ensures.bytes (λ p. omega (arith, room_for _ _ p)) _ (c.in-Err-NoRoom.is ∙ ap Err c.in-Err-NoRoom.field-0-is))
