-- `copies::link` meets its contract. The loop's invariant: of the originals passed it is noted where their copies go.
use Rattle.std.specs.Prelude.{◌≡◌, length, take}
use Rattle.copies.specs.Listed.{Leading}
use Rattle.copies.proofs.link.Given as goal

abbrev pub invariant-loop-k : goal.invariant-loop-k
invariant-loop-k l = (length l.leads ≡ length l.initial.leads) × Leading (take l.k l.originals) l.places l.leads
