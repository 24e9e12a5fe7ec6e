-- `copies::list_noting` meets its contract. The loop's invariant: what is beneath of the records passed is listed, and what is noted is
-- right.
use Rattle.model.specs.Climbing.{below, is_beneath}
use Rattle.model.specs.Records.{records}
use Rattle.copies.specs.Laws.{ListedTo}
use Rattle.ways.specs.Ways.{Noting}
use Rattle.copies.proofs.list_noting.Given as goal

abbrev pub invariant-loop-i : goal.invariant-loop-i
invariant-loop-i l = Noting (below l.c) l.it l.notes × ListedTo (is_beneath (records l.it) l.c) l.i l.list l.n
