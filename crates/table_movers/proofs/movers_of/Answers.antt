-- `table_movers::movers_of`: the odd words transposed have the holders of each capability label, and a holder of a
-- capability is a mover of its partners.
use Rattle.model.proofs.Laws.Finite.{replicated}
use Rattle.table_movers.specs.Folds.{folded-movers, movers-added}
use Rattle.table_words.specs.BitSets.{Bits}
use Rattle.table_movers.proofs.movers_of.Goals as goal

pub returns : goal.returns
returns c =
    let t = c.transpose in let f = c.fold_partners in let a = c.args in movers-added a.partners.now (Bits a.w.now) a.movers.now _ c.requires
    (folded-movers a.w.now _ t.new.columns a.partners.now (replicated 0 64) t.ensures f.ensures)
