-- `hubshow::show_text` meets its contract: a file that can't be read has no text, and a valid itinerary has a text with room, so
-- that there is never too little.
use Rattle.std.proofs.Common.{◌∙◌, ap, arith}
use Rattle.std.specs.Prelude.{Err, option_map}
use Rattle.hubshow.specs.Shown.{file-fits, file-read, file-unread}
use Rattle.text_put.specs.Laws.{put-over}
use Rattle.text_form.specs.Laws.Room.{never, refused, text-short, wrote}
use Rattle.text_form.specs.Writing.{no_text, write_after, write_answer}
use Rattle.hubshow.proofs.show_text.Goals as goal

pub returns-in_default : goal.returns-in_default
unfolding no_text
returns-in_default g c =
    let t = file-unread _ (ap (option_map (λ s. s.now)) c.in_default.is) (put-over c.put_byte.ensures) in
    record { length = t.0; bytes = t.1; within = omega (arith, file-fits _ t.0) }

pub returns-in-Err-Refused : goal.returns-in-Err-Refused
unfolding write_answer write_after no_text
returns-in-Err-Refused g c =
    let w = refused _ _ _ _ c.write_text.result c.write_text.ensures.answer c.write_text.ensures.bytes (λ p. omega (arith, text-short _ p)) no_text c.in-Err-Refused.r (c.in-Err-Refused.is ∙ ap Err c.in-Err-Refused.field-0-is) (put-over c.put_byte-in-Err-Refused.ensures) in
    let t = file-read _ _ (ap (option_map (λ s. s.now)) c.in-Some.is) w in
    record { length = t.0; bytes = t.1; within = omega (arith, file-fits _ t.0) }

pub returns-in-Ok : goal.returns-in-Ok
unfolding write_answer write_after
returns-in-Ok g c =
    let w = wrote _ _ _ _ c.write_text.result c.write_text.ensures.answer c.write_text.ensures.bytes (λ p. omega (arith, text-short _ p)) no_text _ c.in-Ok.is in
    let t = file-read _ _ (ap (option_map (λ s. s.now)) c.in-Some.is) w in
    record { length = t.0; bytes = t.1; within = omega (arith, file-fits _ t.0) }

pub returns-in-Err-NoRoom : goal.returns-in-Err-NoRoom
unfolding write_answer write_after
returns-in-Err-NoRoom g c =
    absurd (never _ _ _ _ c.write_text.result c.write_text.ensures.answer c.write_text.ensures.bytes (λ p. omega (arith, text-short _ p)) _ (c.in-Err-NoRoom.is ∙ ap Err c.in-Err-NoRoom.field-0-is))
