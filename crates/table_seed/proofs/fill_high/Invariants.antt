-- `table_seed::fill_high` meets its contract. The loop's invariant: the cells of the high labels below k are set, and no
-- others.
use lib.ListN.{length}
use mathlib.Core.Path.{◌≡◌}
use Rattle.table_seed.specs.Seeds.{CellsSet}
use Rattle.model.specs.Tables.{bits, is_high, place_s}
use Rattle.table_seed.proofs.fill_high.Given as goal

abbrev pub invariant-loop-k : goal.invariant-loop-k
invariant-loop-k l = (length l.table ≡ 1544) × CellsSet (is_high l.policy) place_s l.k (bits l.initial.table) (bits l.table)
