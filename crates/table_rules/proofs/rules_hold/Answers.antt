-- `table_rules::rules_hold` meets its contract: the rules of the partners are those of all records.
use Rattle.model.proofs.Laws.Bytes.{valid-wf}
use Rattle.model.proofs.Laws.Finite.{replicated}
use Rattle.table_partners.specs.Laws.{partners-of}
use Rattle.table_rules.specs.Laws.{rules-by}
use Rattle.table_rules.proofs.rules_hold.Goals as goal

pub returns : goal.returns
returns c =
    let p = c.partners_of in
    rules-by c.args.table.now c.load.new.words p.new.partners _ (valid-wf c.args.it.now p.ensures.valid) c.load.ensures (partners-of _ (replicated 0 192) p.ensures.partners) c.closed.ensures
