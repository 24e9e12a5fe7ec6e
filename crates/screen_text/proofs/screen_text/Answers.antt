-- `screen_text::screen_text` meets its contract: by the answer of the screen, done or refused.
use Rattle.screen_text.specs.Laws.{room-done, text-done, text-refused}
use Rattle.std.proofs.Common.{rules}
use Rattle.screen_text.proofs.screen_text.Goals as goal

pub put_screen-requires : goal.put_screen-requires
put_screen-requires c =
    let screen = c.screen in room-done _ c.args.policy.now _ _ screen.result screen.ensures.answer _ c.in-Ok.is _ screen.ensures.answers _ (search rules)

pub returns-in-Err : goal.returns-in-Err
returns-in-Err c =
    let screen = c.screen in let t = text-refused _ c.args.policy.now _ _ screen.result screen.ensures.answer _ c.in-Err.is c.put_refused.ensures in
    record { length = t.0; text = t.1; itinerary = screen.ensures.itinerary; answers = screen.ensures.answers }

pub returns-in-Ok : goal.returns-in-Ok
returns-in-Ok c =
    let screen = c.screen in let t = text-done _ c.args.policy.now _ _ screen.result screen.ensures.answer _ c.in-Ok.is _ screen.ensures.answers c.put_screen.ensures in
    record { length = t.0; text = t.1; itinerary = screen.ensures.itinerary; answers = screen.ensures.answers }
