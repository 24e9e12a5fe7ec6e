-- The goals of `move_list::write`; the argument stands in Invariants.
use Rattle.std.proofs.Common.{◌≡◌, ◌∙◌, ap, arith}
use Rattle.model.specs.Analysis.{permit_all}
use Rattle.model.specs.MoveList.{moves_of}
use Rattle.model.specs.Records.{count, records}
use Rattle.move_list.specs.Laws.{all-left, left-next, left-none}
use Rattle.move_list.specs.Pairs.{left}
use Rattle.text_put.specs.Laws.{put-over, putting-end, putting-on, putting-room, putting-start}
use Rattle.move_list.proofs.write.Goals as goal

pub loop-i-init : goal.loop-i-init
loop-i-init c = rw (← all-left c.args.it.now) (putting-start _ _ _ (omega (arith, c.requires)))

pub put_actor-end-requires : goal.put_actor-end-requires
put_actor-end-requires c = putting-room _ _ c.loop-i.invariant (left-next _ _ _ (omega (arith, c.count-i-end.ensures)))

pub loop-i-preserved : goal.loop-i-preserved
loop-i-preserved c = putting-on c.loop-i.invariant (left-next _ _ _ (omega (arith, c.count-i-end.ensures))) c.put_actor-end.auto.list c.put_actor-end.ensures

pub returns : goal.returns
returns c =
    let e : c.loop-i.i ≡ count c.args.it.now = omega (arith, c.count-i-end.ensures) in
    (put-over (putting-end c.loop-i.invariant (ap (left (moves_of permit_all (records c.args.it.now)) (count c.args.it.now)) e ∙ left-none _ _))).1
