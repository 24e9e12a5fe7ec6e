-- `joins::put_member` meets its contract. The loop's invariant: with the records that are left put at the end, the buffer is what all
-- the member's records make of it.
use Rattle.std.specs.Prelude.{◌*◌, ◌+◌, drop, map}
use Rattle.model.specs.Joins.{behind}
use Rattle.model.specs.Records.{encode, records}
use Rattle.text_put.specs.Puts.{Putting}
use Rattle.joins.proofs.put_member.Given as goal

abbrev pub invariant-loop-i : goal.invariant-loop-i
invariant-loop-i l =
    Putting l.initial.buffer (8 * l.before) (encode (map (behind l.before) (records l.member))) l.buffer (8 * (l.before + l.i)) (encode (drop l.i (map (behind l.before) (records l.member))))
