-- `table_closure::close` meets its contract. I first, which never reads S; then S with the movers of that I.
use Rattle.table_closure.specs.Rounds.{close-end}
use Rattle.model.proofs.Laws.Finite.{replicated}
use Rattle.table_closure.proofs.close.Goals as goal

pub close_nesting-requires : goal.close_nesting-requires
close_nesting-requires c = replicated 0 192

pub returns : goal.returns
returns c =
    let a = c.args in let g = c.close_nesting in let q = c.close_suspects in close-end a.partners.now g.new.movers g.new.w q.new.w g.ensures q.ensures.rows_kept q.ensures.smallest
