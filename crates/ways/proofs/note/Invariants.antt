-- `ways::note` meets its contract. The loop's invariant: the numbers of the way from the k-th on are noted, and `found` is what
-- the view finds at the k-th (`Back`).
use Rattle.ways.specs.Laws.{Back}
use Rattle.ways.proofs.note.Given as goal

abbrev pub invariant-loop-k : goal.invariant-loop-k
invariant-loop-k g l = Back (g.V.Finds.view l.view) l.it l.initial.notes l.i l.w.len l.notes l.found l.k
