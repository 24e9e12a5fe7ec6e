-- What the parts of the check test, in the table T.
use Rattle.std.specs.Prelude.{◌+◌, ℕ, length, Bool, ◌&&◌, List}
use Rattle.model.specs.Analysis.{only_if}
use Rattle.model.specs.Climbing.{container}
use Rattle.model.specs.Finite.{every}
use Rattle.model.specs.Records.{at, is_ambient}
use Rattle.model.specs.Tables.{Table}
use Rattle.model.specs.declared.Rec.{Rec}
use Rattle.table_partners.specs.Facts.{standing}

-- (c, label) is in I, and for an ambient (label, name) in H
unfoldable pub stood : Table → ℕ → Rec → Bool
stood T c r = T.I c r.label && only_if (is_ambient r) (T.H r.label r.name)

-- this of every record that a table speaks of
unfoldable pub nesting_holds : List Rec → Table → Bool
nesting_holds its T = every (length its) (standing its) (λ x. stood T (container its (x + 1)) (at its (x + 1)))
