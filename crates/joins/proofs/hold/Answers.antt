-- `joins::hold` meets its contract. High labels and nesting are what the members and the policy ask for by themselves; with the rules
-- of all capabilities that is when a table holds.
use Rattle.std.proofs.Common.{◌∙◌, sym, true≢false}
use Rattle.model.specs.Joins.{join}
use Rattle.model.specs.Tables.{bits}
use Rattle.table_holds.specs.Laws.{holds-by-rules, holds-not-high, holds-not-nested}
use Rattle.joins.proofs.hold.Goals as goal
use Rattle.joins.proofs.hold.Goals.{then-highs_hold, else-highs_hold}

pub returns-then-nesting_holds : goal.returns-then-nesting_holds
returns-then-nesting_holds c =
    elim c.if-highs_hold.branch [
      | then-highs_hold w ↦
          holds-by-rules c.args.policy.now (join c.args.members.now) (bits c.args.table.now) c.rules_hold.result (sym c.highs_hold.ensures ∙ w.if-highs_hold.true)
          (sym w.nesting_holds.ensures ∙ sym w.value-is ∙ c.if-nesting_holds.true) c.rules_hold.ensures
      | else-highs_hold w ↦ absurd (true≢false (sym c.if-nesting_holds.true ∙ w.value-is ∙ w.if-highs_hold.false))
    ]

pub returns-else-nesting_holds : goal.returns-else-nesting_holds
returns-else-nesting_holds c =
    let its = join c.args.members.now in let u = bits c.args.table.now in
    c.if-nesting_holds.false ∙ elim c.if-highs_hold.branch [
      | then-highs_hold w ↦ holds-not-nested c.args.policy.now its u (sym w.nesting_holds.ensures ∙ sym w.value-is ∙ c.if-nesting_holds.false)
      | else-highs_hold w ↦ holds-not-high c.args.policy.now its u (sym c.highs_hold.ensures ∙ w.if-highs_hold.false)
    ]
