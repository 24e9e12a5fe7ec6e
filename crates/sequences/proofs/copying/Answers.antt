-- `sequences::copying` meets its contract: each list has room for all records.
use Rattle.std.proofs.Common.{◌≤◌, arith}
use Rattle.model.proofs.Laws.Bytes.{valid-few}
use Rattle.model.proofs.Laws.Checks.{passed}
use Rattle.model.specs.Records.{count}
use Rattle.sequences.proofs.copying.Goals as goal
use Rattle.sequences.proofs.copying.Goals.{In_ok-valid}

few : (c : In_ok-valid) → count c.args.it.now ≤ 1024
unfolding count
few c = omega (arith, valid-few _ (passed _ _ c.validity.ensures.checks c.in_ok-valid.was))

pub list_beneath-n-requires : goal.list_beneath-n-requires
list_beneath-n-requires c = rw c.in_ok-valid.ensures.same (omega (arith, few (goal.at.list_beneath-n-requires c).In_ok-valid))

pub list_gones-m-requires : goal.list_gones-m-requires
list_gones-m-requires c = rw c.in_ok-valid.ensures.same (omega (arith, few (goal.at.list_gones-m-requires c).In_ok-valid))
