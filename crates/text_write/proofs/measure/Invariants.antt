-- `text_write::measure` meets its contract. The loop's invariant: the lines before are counted.
use Rattle.std.proofs.Common.{◌≡◌, length}
use Rattle.model.specs.Records.{records}
use Rattle.text_form.specs.Laws.Walking.{Measured}
use Rattle.text_form.specs.Parts.{visit_line}
use Rattle.text_form.specs.Writing.{walk}
use Rattle.text_walk.specs.Visits.{visits_left}
use Rattle.text_write.proofs.measure.Given as goal

abbrev pub invariant-loop-v : goal.invariant-loop-v
invariant-loop-v l = Measured (visit_line l.listed (records l.it) (records l.sheet)) (walk (records l.it)) (visits_left l.v-iterator) l.used × (length l.line ≡ 2100)
