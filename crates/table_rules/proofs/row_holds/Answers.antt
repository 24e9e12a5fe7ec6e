-- The goals of `table_rules::row_holds`; the argument stands in Invariants.
use Rattle.table_rules.specs.Laws.{tested-all, tested-next, tested-not}
use Rattle.table_words.specs.Ones.{taken-from}
use Rattle.table_rules.proofs.row_holds.Goals as goal

pub loop-b-init : goal.loop-b-init
loop-b-init c = rw c.into_iter-b-iterator.ensures.into_iter_gives ((λ x t. t), λ x h t d. absurd (d t))

pub pair_holds-requires : goal.pair_holds-requires
pair_holds-requires c = record { same_bits = c.requires.same_bits; p_bound = c.requires.p_bound; b_bound = c.in-Some.ensures.steps.lowest.below }

pub returns-then-not-pair_holds : goal.returns-then-not-pair_holds
returns-then-not-pair_holds c =
    let a = c.args in let o = c.in-Some.ensures.steps.lowest in
    tested-not a.movers.now a.w.now a.p _ _ o.below (c.loop-b.invariant.0 _ o.bit) c.pair_holds.ensures c.if-not-pair_holds.true

pub loop-b-preserved : goal.loop-b-preserved
loop-b-preserved c =
    let a = c.args in let l = c.loop-b in let o = c.in-Some.ensures.steps in (
      (λ x t. l.invariant.0 x (taken-from o x t)),
      tested-next a.movers.now a.w.now a.p _ l.invariant.1 o (c.pair_holds.ensures.holds c.if-not-pair_holds.false),
    )

pub returns : goal.returns
returns c = let a = c.args in let l = c.loop-b in tested-all a.movers.now a.w.now a.p _ l.invariant.1 c.in-None.ensures.steps
