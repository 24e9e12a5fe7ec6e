-- The goals of `verdicts::with_row`; the argument stands in Invariants.
use Rattle.std.proofs.Common.{length-set, arith, rules}
use Rattle.model.specs.Tables.{bits}
use Rattle.verdicts.specs.Laws.{row-end, row_next, row-none}
use Rattle.verdicts.proofs.with_row.Goals as goal

pub loop-k-init : goal.loop-k-init
loop-k-init c = (search rules, row-none (bits c.args.table.now) c.args.x _)

pub loop-k-preserved : goal.loop-k-preserved
loop-k-preserved c =
    let a = c.args in let p = c.loop-k in (simp length-set p.invariant.0, row_next (bits a.table.now) a.x p.k c.bit.result p.r (omega arith) c.bit.ensures p.invariant.1)

pub returns : goal.returns
returns c = let a = c.args in row-end (bits a.table.now) a.x c.loop-k.k (omega arith) c.loop-k.invariant.1
