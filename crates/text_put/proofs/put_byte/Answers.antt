-- `text_put::put_byte` meets its contract.
use Rattle.text_put.specs.Laws.{put_one}
use Rattle.text_put.proofs.put_byte.Goals as goal

pub returns : goal.returns
returns c = put_one _ _ _ c.requires
