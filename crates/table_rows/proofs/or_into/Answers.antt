-- `table_rows::or_into` meets its contract. The word is written only where it changes, so a row that is named has more
-- bits.
use native.Mathlib.Omega.{arith}
use Rattle.std.proofs.Common.{rules}
use Rattle.table_rows.specs.Changes.{or-into-changed, or-into-none, or-into-some, changed-none}
use Rattle.table_rows.proofs.or_into.Goals as goal

pub returns-then-new-old : goal.returns-then-new-old
returns-then-new-old c = let a = c.args in record { grown = or-into-none a.w.now a.i a.labels c.if-new-old.true; rows_changed = changed-none }

pub returns : goal.returns
returns c =
    let a = c.args in record { grown = or-into-some a.w.now a.i a.labels (omega arith); rows_changed = or-into-changed a.w.now a.i a.labels (omega arith) (omega arith) (λ j. search rules) c.ranges.labels.fits c.if-new-old.false }
