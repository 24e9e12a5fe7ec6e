-- `text_write::fill` meets its contract. The loop's invariant: the lines before are written.
use Rattle.model.specs.Records.{records}
use Rattle.text_form.specs.Laws.Walking.{Filling}
use Rattle.text_form.specs.Parts.{visit_line}
use Rattle.text_form.specs.Writing.{walk}
use Rattle.text_walk.specs.Visits.{visits_left}
use Rattle.text_write.proofs.fill.Given as goal

abbrev pub invariant-loop-v : goal.invariant-loop-v
invariant-loop-v l = Filling (visit_line l.listed (records l.it) (records l.sheet)) (walk (records l.it)) l.initial.text l.text (visits_left l.v-iterator) l.at
