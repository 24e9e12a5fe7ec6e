-- `calls::make` meets its contract: what passes has a table's length.
use Rattle.std.proofs.Common.{◌≡◌, length, rules}
use Rattle.std.specs.Option.{IsSome, MatchOption}
use Rattle.std.specs.Prelude.{Option, None, Some}
use Rattle.model.proofs.Laws.Checks.{passed, passes}
use Rattle.model.specs.Calls.{making}
use Rattle.calls.proofs.make.Goals as goal

-- where there is no array the length is another
some : {A : Type 0} (o : Option A) {P : Type 0} (Q : A → Type 0) → MatchOption o P Q → (P → ⊥) → IsSome o
some None Q m n = absurd (n m)
some (Some x) Q m n = search rules

pub unwrap-table-requires : goal.unwrap-table-requires
unfolding making
unwrap-table-requires c =
    let e = passed _ _ c.making.ensures.checks c.in_ok-valid.was in
    let n : length c.args.table.now ≡ 1544 = search passes depth 20 in
    some _ _ c.as_mut_array.ensures.cases (λ u. u n)
