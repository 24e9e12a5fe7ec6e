-- The goals of `table_rules::closed`; the argument stands in Invariants.
use Rattle.std.proofs.Common.{below_more, refl, arith}
use Rattle.model.proofs.Laws.Finite.{replicated}
use Rattle.table_rules.specs.Laws.{closed-by, decide-no}
use Rattle.table_movers.specs.Movers.{clear-only}
use Rattle.table_rules.proofs.closed.Goals as goal

pub movers_of-requires : goal.movers_of-requires
movers_of-requires c = clear-only _ _ _ (replicated 0 192)

pub row_holds-requires : goal.row_holds-requires
row_holds-requires c = record { same_bits = c.requires; p_bound = omega arith }

pub returns-then-not-row_holds : goal.returns-then-not-row_holds
returns-then-not-row_holds c = closed-by c.args.partners.now c.args.w.now c.movers_of.new.movers _ c.movers_of.ensures (decide-no _ (λ f. c.row_holds.ensures.passes (f c.loop-p.p (omega arith))) c.if-not-row_holds.true)

pub loop-p-preserved : goal.loop-p-preserved
loop-p-preserved c = below_more _ _ c.loop-p.invariant (c.row_holds.ensures.holds (c.if-not-row_holds.false))

pub returns : goal.returns
returns c = closed-by c.args.partners.now c.args.w.now c.movers_of.new.movers _ c.movers_of.ensures (record { holds = λ _ x h. c.loop-p.invariant x (omega arith); passes = λ _. refl })
