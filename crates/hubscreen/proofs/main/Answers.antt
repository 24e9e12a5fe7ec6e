-- `hubscreen::main` meets its contract: the parts that are lent have their lengths, and the whole text has room.
use Rattle.std.proofs.Common.{arith, length-take-le, sym}
use Rattle.screen_text.specs.Laws.{text-sized}
use Rattle.hubscreen.specs.Lent.{answers-few}
use Rattle.listing.specs.Short.{shown-fits}
use Rattle.hubscreen.proofs.main.Goals as goal

pub slice_bounds-answers-end : goal.slice_bounds-answers-end
slice_bounds-answers-end c =
    omega (arith, c.answers_for-n.ensures, answers-few c.load-l.result.more c.load-l.result.len, c.load-l.ensures.counts.0)

pub slice_bounds-screen_text-end-4 : goal.slice_bounds-screen_text-end-4
slice_bounds-screen_text-end-4 c =
    sym (length-take-le _ _ (omega (arith, c.answers_for-n.ensures, answers-few c.load-l.result.more c.load-l.result.len, c.load-l.ensures.counts.0)))

pub slice_bounds-text-end : goal.slice_bounds-text-end
slice_bounds-text-end c =
    omega (arith, shown-fits _ _ _ _ c.screen_text-r.ensures.length, text-sized _ _ _ _ _ c.screen_text-r.ensures.text c.room-text.ensures)

pub slice_bounds-write-end : goal.slice_bounds-write-end
slice_bounds-write-end c =
    sym (length-take-le _ _ (omega (arith, shown-fits _ _ _ _ c.screen_text-r.ensures.length, text-sized _ _ _ _ _ c.screen_text-r.ensures.text c.room-text.ensures)))
