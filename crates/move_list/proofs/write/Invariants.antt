-- `move_list::write` meets its contract. The loop's invariant: with the moves of the actors that are left put at the end, the list
-- is what all moves make of it.
use Rattle.model.specs.Analysis.{permit_all}
use Rattle.model.specs.MoveList.{list_bytes, moves, moves_of}
use Rattle.model.specs.Records.{count, records}
use Rattle.move_list.specs.Pairs.{left}
use Rattle.text_put.specs.Puts.{Putting}
use Rattle.move_list.proofs.write.Given as goal

abbrev pub invariant-loop-i : goal.invariant-loop-i
invariant-loop-i l =
    Putting l.initial.list 0 (list_bytes (moves permit_all (records l.it))) l.list l.end (left (moves_of permit_all (records l.it)) (count l.it) l.i)
