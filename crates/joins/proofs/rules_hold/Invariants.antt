-- `joins::rules_hold` meets its contract. The loop's invariant: the partners of the members but those that are left are gathered.
use Rattle.std.specs.Prelude.{◌≡◌, drop, length}
use Rattle.joins.specs.Parts.{Gathered}
use Rattle.table_partners.specs.Partners.{in_h}
use Rattle.joins.proofs.rules_hold.Given as goal

abbrev pub invariant-loop-member : goal.invariant-loop-member
invariant-loop-member l = (length l.partners ≡ 192) × Gathered l.all (in_h l.w) (drop l.member-index l.all) l.partners
