-- `copies::put_copies` meets its contract. The loop's invariant: the copies of the originals passed stand where they go, and all else is
-- as before.
use Rattle.std.specs.Prelude.{◌≡◌}
use Rattle.model.specs.Records.{encode, records}
use Rattle.copies.specs.Filling.{filled_to}
use Rattle.copies.proofs.put_copies.Given as goal

abbrev pub invariant-loop-k : goal.invariant-loop-k
invariant-loop-k l = l.it ≡ encode (filled_to (records l.initial.it) l.c l.k)
