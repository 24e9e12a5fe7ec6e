-- The goals of `verdicts::reach_until`; the argument stands in Invariants.
use lib.ListN.{length-set}
use mathlib.Core.Path.{◌∙◌, sym}
use native.Mathlib.Omega.{arith}
use Rattle.model.specs.Tables.{bits}
use Rattle.model.specs.Verdicts.{marked}
use Rattle.verdicts.specs.Laws.{Unseen, all-until, fewer-left, met-until, reach-inside, reach-is, seen_all, seen_more, seen_none, step-on, lowest-passing, lowest-passing_none, no-label, unseen-at}
use Rattle.tables.specs.Grow.{start}
use Rattle.std.proofs.Common.{rules, tests}
use Rattle.verdicts.proofs.reach_until.Goals as goal
use Rattle.verdicts.proofs.reach_until.Goals.{In-Some}

-- the label found is reached, and not yet seen
new : (c : In-Some) →
    Unseen c.loop-stop.r c.loop-stop.seen c.in-Some.k
unfolding marked
new c =
    let l = c.loop-stop in unseen-at l.r l.seen _ (lowest-passing _ c.in-Some.ensures (λ k b l h. search (rules, tests)))

pub loop-stop-init : goal.loop-stop-init
loop-stop-init c =
    let a = c.args in (search rules, search rules, start (marked c.origin-r.result), seen_none (bits a.table.now) a.policy.now _ _ no-label)

pub returns-then-meets : goal.returns-then-meets
returns-then-meets c =
    let a = c.args in met-until (reach-inside (bits a.table.now) a.policy.now (marked c.origin-r.result) _ c.origin-r.ensures c.loop-stop.invariant.2) (sym c.meets.ensures ∙ c.if-meets.true)

pub returns-in_default : goal.returns-in_default
unfolding marked
returns-in_default c =
    let a = c.args in let all = seen_all _ _ c.loop-stop.seen _ c.loop-stop.invariant.3 (lowest-passing_none _ c.in_default.ensures (λ k b l h. search (rules, tests))) in
    all-until (reach-is (bits a.table.now) a.policy.now (marked c.origin-r.result) _ c.origin-r.ensures c.loop-stop.invariant.2 all)

pub overflow_cast-x : goal.overflow_cast-x
overflow_cast-x c = omega (arith, (new (goal.at.overflow_cast-x c).In-Some).below)

pub bounds-seen-x : goal.bounds-seen-x
bounds-seen-x c = (new (goal.at.bounds-seen-x c).In-Some).below

pub bounds-policy-x : goal.bounds-policy-x
bounds-policy-x c =
    omega (arith, (new (goal.at.bounds-policy-x c).In-Some).below, c.told-policy)

pub with_row-r-requires : goal.with_row-r-requires
with_row-r-requires c = omega (arith, (new (goal.at.with_row-r-requires c).In-Some).below)

pub loop-stop-smaller-then-policy-x-ne-BOUNDARY : goal.loop-stop-smaller-then-policy-x-ne-BOUNDARY
loop-stop-smaller-then-policy-x-ne-BOUNDARY c =
    let l = c.loop-stop in fewer-left l.seen _ l.invariant.1 (new (goal.at.loop-stop-smaller-then-policy-x-ne-BOUNDARY c).In-Some).below (new (goal.at.loop-stop-smaller-then-policy-x-ne-BOUNDARY c).In-Some).new

pub loop-stop-preserved-then-policy-x-ne-BOUNDARY : goal.loop-stop-preserved-then-policy-x-ne-BOUNDARY
loop-stop-preserved-then-policy-x-ne-BOUNDARY c =
    let a = c.args in let i = c.loop-stop.invariant in (
      search rules,
      simp length-set i.1,
      step-on _ _ _ (new (goal.at.loop-stop-preserved-then-policy-x-ne-BOUNDARY c).In-Some).below (new (goal.at.loop-stop-preserved-then-policy-x-ne-BOUNDARY c).In-Some).has c.if-policy-x-ne-BOUNDARY.true i.2 c.with_row-r.ensures,
      seen_more (bits a.table.now) a.policy.now c.loop-stop.seen _ i.3 _ c.with_row-r.ensures.keeps (λ _. c.with_row-r.ensures.closed),
    )

pub loop-stop-smaller : goal.loop-stop-smaller
loop-stop-smaller c =
    let l = c.loop-stop in fewer-left l.seen _ l.invariant.1 (new (goal.at.loop-stop-smaller c).In-Some).below (new (goal.at.loop-stop-smaller c).In-Some).new

pub loop-stop-preserved : goal.loop-stop-preserved
loop-stop-preserved c =
    let a = c.args in let i = c.loop-stop.invariant in (
      i.0,
      simp length-set i.1,
      i.2,
      seen_more (bits a.table.now) a.policy.now c.loop-stop.seen _ i.3 _ (λ j t. t) (λ d. absurd (d c.if-policy-x-ne-BOUNDARY.false)),
    )
