-- `move_list::put_pair` meets its contract: the bytes of two numbers, put one after the other.
use Rattle.std.proofs.Common.{◌%◌, ◌/◌, ◌∙◌, ◌≡◌, ap, arith, get_or}
use Rattle.model.specs.MoveList.{list_bytes}
use Rattle.move_list.specs.Laws.{four-put}
use Rattle.move_list.specs.Pairs.{pair}
use Rattle.move_list.proofs.put_pair.Goals as goal

pub returns : goal.returns
unfolding list_bytes pair
returns c =
    let a : get_or c.to_le_bytes.result 0 0 ≡ c.args.actor % 256 = ap (λ bs. get_or bs 0 0) c.to_le_bytes.ensures in
    let b : get_or c.to_le_bytes.result 1 0 ≡ c.args.actor / 256 = ap (λ bs. get_or bs 1 0) c.to_le_bytes.ensures ∙ omega arith in
    let d : get_or c.to_le_bytes-2.result 0 0 ≡ c.args.partner % 256 = ap (λ bs. get_or bs 0 0) c.to_le_bytes-2.ensures in
    let e : get_or c.to_le_bytes-2.result 1 0 ≡ c.args.partner / 256 = ap (λ bs. get_or bs 1 0) c.to_le_bytes-2.ensures ∙ omega arith in
    rw (a, b, d, e) (four-put _ _ _ _ _ _ c.requires)
