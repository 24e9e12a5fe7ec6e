-- `verdicts::with_row` meets its contract. The loop's invariant: the set is the least around the one passed with the labels
-- below k that may stand in x.
use Rattle.std.proofs.Common.{◌≡◌, length}
use Rattle.model.specs.Tables.{bits}
use Rattle.model.specs.Verdicts.{marked}
use Rattle.verdicts.specs.Laws.{RowAt}
use Rattle.tables.specs.Grow.{Below, Smallest}
use Rattle.verdicts.proofs.with_row.Given as goal

abbrev pub invariant-loop-k : goal.invariant-loop-k
invariant-loop-k l = (length l.r ≡ 64) × Smallest (Below (RowAt (bits l.table) l.x) l.k) (marked l.initial.r) (marked l.r)
