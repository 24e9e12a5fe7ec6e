-- `move_list::actor_tally` meets its contract: by what 10 and 11 say of the actor.
use Rattle.std.proofs.Common.{◌≡◌, ◌%◌, ℕ, List, length, ◌∙◌, ap, sym}
use Rattle.model.proofs.Laws.Bytes.{length-records}
use Rattle.model.proofs.Laws.Forest.{tally-le}
use Rattle.model.specs.Records.{records}
use Rattle.move_list.specs.Laws.{few-records, fitting-all, ready-tally, refused-tally}
use Rattle.move_list.specs.Pairs.{all_refused}
use Rattle.steps.specs.Moves.{admitted}
use Rattle.move_list.proofs.actor_tally.Goals as goal
use Rattle.move_list.proofs.actor_tally.Goals.{After-admit}

pub admit-requires : goal.admit-requires
admit-requires c = (few-records _ c.it.invariant).2

pub overflow_sub-result : goal.overflow_sub-result
overflow_sub-result c = rw (c.fitting-done.ensures, c.count-n.ensures) (tally-le _ _)

said : (c : After-admit) → c.admit.result ≡ admitted (records c.args.it.now) c.args.actor
said c = c.admit.ensures ∙ ap (λ (s : List ℕ). admitted (records s) c.args.actor) c.it.view_is

counted : (c : After-admit) → c.count-n.result ≡ length (records c.args.it.now)
counted c = c.count-n.ensures ∙ sym (length-records _)

pub returns-in-Ok : goal.returns-in-Ok
returns-in-Ok c =
    let m : length c.args.it.now % 8 ≡ 0 = rw (← c.it.view_is) (few-records _ c.it.invariant).2 in
    let w = (goal.at.returns-in-Ok c).After-admit in
    rw (counted w) (ready-tally _ _ c.in-Ok.x (sym (said w) ∙ c.in-Ok.is) _ (fitting-all _ m _ _ c.fitting-done.ensures))

pub returns-in-Err : goal.returns-in-Err
returns-in-Err c =
    let w = (goal.at.returns-in-Err c).After-admit in
    c.refused.ensures ∙ ap (all_refused c.in-Err.cause) (counted w) ∙ refused-tally _ _ _ (sym (said w) ∙ c.in-Err.is)
