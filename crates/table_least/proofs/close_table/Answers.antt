-- `table_least::close_table` meets its contract: the words' least closed set is the table's, for the rules by partners are
-- those of the records as long as H does not grow, and it never does.
use Rattle.model.proofs.Laws.Finite.{replicated}
use Rattle.table_partners.specs.Laws.{partners-of}
use Rattle.table_least.specs.Laws.{close-made}
use Rattle.table_least.proofs.close_table.Goals as goal

pub returns : goal.returns
returns c =
    let p = c.partners_of in
    record {
      valid = p.ensures.valid;
      closed = close-made c.args.it.now c.args.table.now c.store.new.bytes c.load.new.words c.close.new.w p.new.partners p.ensures.valid c.load.ensures (partners-of _ (replicated 0 192) p.ensures.partners) c.close.ensures c.store.ensures.same_bits;
      narrow = c.store.ensures.narrow;
    }
