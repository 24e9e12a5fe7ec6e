-- `move_list::put_actor` meets its contract: an actor that 10 or 11 refuses has no move.
use Rattle.std.proofs.Common.{◌≡◌, ℕ, List, ◌∙◌, ap, sym}
use Rattle.model.specs.Records.{records}
use Rattle.model.specs.MoveList.{list_bytes}
use Rattle.move_list.specs.Laws.{few-records, none-listed}
use Rattle.steps.specs.Moves.{admitted}
use Rattle.text_put.specs.Laws.{put-nil, put_as}
use Rattle.move_list.proofs.put_actor.Goals as goal
use Rattle.move_list.proofs.put_actor.Goals.{After-admit}

pub admit-requires : goal.admit-requires
admit-requires c = (few-records _ c.it.invariant).2

said : (c : After-admit) → c.admit.result ≡ admitted (records c.args.it.now) c.args.actor
said c = c.admit.ensures ∙ ap (λ (s : List ℕ). admitted (records s) c.args.actor) c.it.view_is

pub put_moves_of-requires : goal.put_moves_of-requires
put_moves_of-requires c = record { ready = sym (said (goal.at.put_moves_of-requires c).After-admit) ∙ c.in-Ok.is; room = c.requires }

pub returns-in_default : goal.returns-in_default
unfolding list_bytes
returns-in_default c = put_as (sym (ap list_bytes (none-listed _ _ _ (sym (said (goal.at.returns-in_default c).After-admit) ∙ c.in_default.is)))) (put-nil _ _)
