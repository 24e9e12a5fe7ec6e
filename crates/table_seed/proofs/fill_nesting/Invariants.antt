-- `table_seed::fill_nesting` meets its contract. The loop's invariant: the cells of the first i records are set, and no
-- others.
use Rattle.std.proofs.Common.{◌≡◌, length}
use Rattle.table_seed.specs.Seeds.{CellsSet}
use Rattle.model.specs.Records.{records}
use Rattle.model.specs.Tables.{bits}
use Rattle.table_partners.specs.Facts.{nesting_cell, standing}
use Rattle.table_seed.proofs.fill_nesting.Given as goal

abbrev pub invariant-loop-i : goal.invariant-loop-i
invariant-loop-i l = (length l.table ≡ 1544) × CellsSet (standing (records l.it)) (nesting_cell (records l.it)) l.i (bits l.initial.table) (bits l.table)
