-- `copies::list_gones` meets its contract. The loop's invariant: what is gone of the records passed is listed.
use Rattle.std.specs.Prelude.{eqb}
use Rattle.model.specs.Records.{at, records}
use Rattle.copies.specs.Laws.{ListedTo}
use Rattle.copies.proofs.list_gones.Given as goal

abbrev pub invariant-loop-i : goal.invariant-loop-i
invariant-loop-i l = ListedTo (λ i. eqb (at (records l.it) i).kind 0) l.i l.list l.n
