-- `text_put::put` meets its contract: the part that the bytes are copied to is as long as they are.
use Rattle.std.proofs.Common.{refl}
use Rattle.text_put.specs.Laws.{put-part}
use Rattle.text_put.proofs.put.Goals as goal

pub returns : goal.returns
returns c = put-part _ _ _ refl c.copy_from_slice.ensures.after
