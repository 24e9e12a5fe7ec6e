-- The goals of `move_list::tally`; the argument stands in Invariants.
use Rattle.std.specs.Prelude.{◌≤◌}
use Rattle.std.proofs.Common.{◌≡◌, length, ◌∙◌, ap, arith}
use Rattle.model.proofs.Laws.Bytes.{length-records, valid-few}
use Rattle.model.specs.Records.{count, records}
use Rattle.move_list.specs.Laws.{few-records, rows-end, rows-next, rows-none, rows-room}
use Rattle.move_list.specs.Pairs.{rows_to}
use Rattle.move_list.proofs.tally.Goals as goal

pub overflow_cast-i-end : goal.overflow_cast-i-end
overflow_cast-i-end c = omega (arith, valid-few _ c.it.invariant)

pub loop-i-init : goal.loop-i-init
loop-i-init c = rows-none _

pub added-t-requires : goal.added-t-requires
unfolding count
added-t-requires c =
    let f : count c.args.it.now ≤ 1024 = rw (← c.it.view_is) (few-records _ c.it.invariant).1 in
    let n = length-records c.args.it.now in
    rw (c.loop-i.invariant, c.actor_tally.ensures) (rows-room _ _ (omega arith) (omega (arith, ap count c.it.view_is)))

pub loop-i-preserved : goal.loop-i-preserved
loop-i-preserved c = c.added-t.ensures ∙ rw (c.loop-i.invariant, c.actor_tally.ensures) (rows-next _ _)

pub returns : goal.returns
unfolding count
returns c =
    let e : c.loop-i.i ≡ length (records c.args.it.now) = omega (arith, ap count c.it.view_is, length-records c.args.it.now) in
    c.loop-i.invariant ∙ ap (rows_to _) e ∙ rows-end _
