-- `records::byte_of` meets its contract.
use lib.ListN.{get_or-eq_default}
use mathlib.Core.Path.{◌∙◌, sym}
use Rattle.records.specs.Laws.{byte-of}
use Rattle.model.specs.Records.{byte_of}
use Rattle.records.proofs.byte_of.Goals as goal

pub returns-then-i-eq0 : goal.returns-then-i-eq0
unfolding byte_of
returns-then-i-eq0 c = rw c.if-i-eq0.true

pub returns-then-at-it : goal.returns-then-at-it
returns-then-at-it c = sym (byte-of _ _ _ c.if-i-eq0.false)

pub returns-else-at-it : goal.returns-else-at-it
returns-else-at-it c = sym (byte-of _ _ _ c.if-i-eq0.false ∙ get_or-eq_default c.args.it.now 0 c.if-at-it.false)
