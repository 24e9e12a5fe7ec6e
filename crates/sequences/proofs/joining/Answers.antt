-- `sequences::joining` meets its contract: members that pass 1 to 6 are valid each.
use Rattle.joins.specs.Sequence.{members-valid}
use Rattle.model.proofs.Laws.Checks.{passed}
use Rattle.sequences.proofs.joining.Goals as goal

pub hold-requires : goal.hold-requires
hold-requires c = rw c.in_ok-members.ensures.same (members-valid _ (passed _ _ c.members.ensures.checks c.in_ok-members.was))
