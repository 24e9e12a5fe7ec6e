-- `table_partners::partners_of` meets its contract. The loop's invariant: the partners of the first i records are added.
use Rattle.std.proofs.Common.{◌≡◌, length}
use Rattle.model.specs.Records.{records}
use Rattle.table_partners.specs.Partners.{AddedTo, borne}
use Rattle.table_partners.proofs.partners_of.Given as goal

abbrev pub invariant-loop-i : goal.invariant-loop-i
invariant-loop-i l = (length l.partners ≡ 192) × AddedTo (records l.it) (borne l.bearers) l.i l.initial.partners l.partners
