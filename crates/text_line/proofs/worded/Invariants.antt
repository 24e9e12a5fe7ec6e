-- `text_line::worded` meets its contract. The loop's invariant: the kinds to come decide.
use Rattle.std.proofs.Common.{◌≡◌, drop}
use Rattle.text_form.specs.Reading.{worded, worded_by}
use Rattle.text_line.proofs.worded.Given as goal

abbrev pub invariant-loop-kind : goal.invariant-loop-kind
invariant-loop-kind l = worded l.depth l.s ≡ worded_by (drop l.kind-index l.kind-items) l.depth l.s
