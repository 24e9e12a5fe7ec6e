-- `text_walk::next_visit` meets its contract. The loop's invariant: what is next after p is next after q, below which all up to after are past.
use mathlib.Core.Path.{◌≡◌}
use Rattle.model.specs.Records.{records}
use Rattle.text_form.specs.Writing.{next_from}
use Rattle.text_walk.proofs.next_visit.Given as goal

abbrev pub invariant-loop-above : goal.invariant-loop-above
invariant-loop-above l = next_from (records l.it) l.d l.p 0 ≡ next_from (records l.it) l.above l.q l.after
