-- `table_seed::fill_names` meets its contract. The loop's invariant: the cells of the ambients among the first i records
-- are set, and no others.
use Rattle.std.proofs.Common.{◌≡◌, length}
use Rattle.table_seed.specs.Seeds.{CellsSet}
use Rattle.model.specs.Records.{records}
use Rattle.model.specs.Tables.{bits}
use Rattle.table_partners.specs.Facts.{bearing, name_cell}
use Rattle.table_seed.proofs.fill_names.Given as goal

abbrev pub invariant-loop-i : goal.invariant-loop-i
invariant-loop-i l = (length l.names ≡ 512) × CellsSet (bearing (records l.it)) (name_cell (records l.it)) l.i (bits l.initial.names) (bits l.names)
