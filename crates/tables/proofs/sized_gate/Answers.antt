-- `tables::sized_gate` meets its contract.
use Rattle.model.specs.Tables.{table_sized}
use Rattle.model.specs.Numbers.{number_of}
use Rattle.tables.proofs.sized_gate.Goals as goal

pub returns : goal.returns
unfolding number_of table_sized
returns c = c.need.ensures
