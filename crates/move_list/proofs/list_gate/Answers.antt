-- `move_list::list_gate` meets its contract: the list is four times as long as the tally's count of 0.
use Rattle.std.specs.Prelude.{◌*◌, leb}
use Rattle.std.proofs.Common.{◌≡◌, length, Err, ◌∙◌, ap, rules, sym}
use Rattle.model.proofs.Laws.Checks.{passed, refused-by}
use Rattle.model.proofs.Laws.MoveList.{list-length}
use Rattle.model.specs.Analysis.{permit_all}
use Rattle.model.specs.MoveList.{list_bytes, moves, tally_by, tally_of}
use Rattle.model.specs.Numbers.{check_as, number_of}
use Rattle.model.specs.Records.{records}
use Rattle.model.specs.Refusals.{need}
use Rattle.move_list.proofs.list_gate.Goals as goal
use Rattle.move_list.proofs.list_gate.Goals.{After-need}

same : (c : After-need) → check_as c.need.result ≡ need (leb (length (list_bytes (moves permit_all (records c.args.it.now)))) (length c.args.list.now)) 15 0
unfolding number_of tally_of tally_by
same c = c.need.ensures ∙ ap (λ n. need (leb n (length c.args.list.now)) 15 0) (ap (λ t. 4 * t.done) c.tally-tally.ensures ∙ sym (list-length permit_all _))

pub returns-in_err-need-clause-checks : goal.returns-in_err-need-clause-checks
unfolding check_as
returns-in_err-need-clause-checks c =
    let e : c.from_residual.result ≡ Err c.in_err-need.field-0.0 = search rules in
    rw e (sym (refused-by _ _ (same (goal.at.returns-in_err-need-clause-checks c).After-need) c.in_err-need.was))

pub returns-clause-checks : goal.returns-clause-checks
unfolding check_as
returns-clause-checks c = sym (passed _ _ (same (goal.at.returns-clause-checks c).After-need) c.in_ok-need.was)
