-- `records::record_at` meets its contract: a record within the count is whole.
use Rattle.std.proofs.Common.{arith}
use Rattle.std.proofs.Common.{refl}
use Rattle.model.specs.Records.{byte_of, decode}
use Rattle.records.proofs.record_at.Goals as goal

pub record_in-requires : goal.record_in-requires
record_in-requires c = record { some = omega (arith, c.if-i-eq0.false); whole = omega (arith, c.if-it-i.false) }

pub returns-then-i-eq0 : goal.returns-then-i-eq0
unfolding decode byte_of
returns-then-i-eq0 c = rw (c.gone.ensures, c.if-i-eq0.true) refl
