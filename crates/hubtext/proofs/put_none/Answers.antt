-- `hubtext::put_none` meets its contract: one byte is set at the start, and one is counted.
use Rattle.text_put.specs.Laws.{put_one, put-over}
use Rattle.text_form.specs.Reading.{no_itinerary}
use Rattle.hubtext.proofs.put_none.Goals as goal

pub returns : goal.returns
unfolding no_itinerary
returns c = let w = put-over (put_one c.args.it.now 0 0 c.requires) in record { length = w.0; bytes = w.1 }
