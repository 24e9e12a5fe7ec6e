-- `move_list::put_moves_of` meets its contract. The loop's invariant: with the pairs of the partners that are left put at the
-- end, the list is what all the actor's pairs make of it.
use Rattle.model.specs.Analysis.{permit_all}
use Rattle.model.specs.MoveList.{list_bytes, moves_of}
use Rattle.model.specs.Records.{count, records}
use Rattle.move_list.specs.Pairs.{left, listed_at}
use Rattle.text_put.specs.Puts.{Putting}
use Rattle.move_list.proofs.put_moves_of.Given as goal

abbrev pub invariant-loop-b : goal.invariant-loop-b
invariant-loop-b l =
    Putting l.initial.list l.at (list_bytes (moves_of permit_all (records l.it) l.actor)) l.list l.end (left (listed_at (records l.it) l.actor) (count l.it) l.b)
