-- `table_seed::seed` meets its contract: a clear table with the names in its lent part, then the high labels, then the
-- nesting, has what is asked for and no more.
use Rattle.std.proofs.Common.{◌∙◌, ◌≡◌, length}
use Rattle.model.proofs.Laws.Finite.{replicated}
use Rattle.table_seed.specs.Laws.{part-long, seeded}
use Rattle.table_seed.proofs.seed.Goals as goal

pub returns : goal.returns
returns c =
    let t = c.fill.new.self in
    let l : length t ≡ 1544 = c.fill.auto.self ∙ c.told-table in
    seeded c.args.it.now c.args.policy.now t c.fill_names.new.names c.fill_names.ensures.valid l (λ i. rw (c.fill.ensures.after (λ y e. e)) (replicated 0 _ i))
    (c.fill_names.auto.names ∙ part-long t l) c.fill_names.ensures.cells c.fill_high.ensures c.fill_nesting.ensures
