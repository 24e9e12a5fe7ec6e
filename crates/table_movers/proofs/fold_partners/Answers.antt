-- The goals of `table_movers::fold_partners`; the argument stands in Invariants.
use Rattle.std.proofs.Common.{◌∙◌, arith}
use Rattle.table_movers.specs.Folds.{folded-end, folded-next, folded-none}
use Rattle.table_movers.proofs.fold_partners.Goals as goal

pub loop-i-init : goal.loop-i-init
loop-i-init c = let a = c.args in (c.told-movers, folded-none a.holders.now a.partners.now)

pub loop-i-preserved : goal.loop-i-preserved
loop-i-preserved c =
    let a = c.args in let l = c.loop-i in let q = c.scatter in (q.auto.words ∙ l.invariant.0, folded-next a.holders.now a.partners.now l.i (omega arith) l.invariant.1 q.ensures)

pub returns : goal.returns
returns c = let a = c.args in folded-end a.holders.now a.partners.now c.loop-i.i (omega arith) c.loop-i.invariant.1
