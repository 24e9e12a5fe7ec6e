-- The goals of `table_suspects::made_suspect`; the argument stands in Invariants.
use Rattle.std.proofs.Common.{ℕ, ◌+◌, ◌∙◌, subst, sym, arith}
use Rattle.table_suspects.specs.Suspects.{MadeSuspect, caused, made-end, made-no, made_none, made-yes}
use Rattle.table_suspects.proofs.made_suspect.Goals as goal
use Rattle.table_suspects.proofs.made_suspect.Goals.{then-bit_of, else-bit_of}

pub loop-outer-init : goal.loop-outer-init
loop-outer-init c = let a = c.args in made_none a.w.now a.movers.now a.b

pub loop-outer-preserved : goal.loop-outer-preserved
unfolding caused
loop-outer-preserved c =
    let a = c.args in let l = c.loop-outer in let e = c.bit_of.ensures in let at : ℕ → Type 0 = λ r. MadeSuspect a.w.now a.movers.now a.b (l.outer + 1) r in
    elim c.if-bit_of.branch [
      | then-bit_of v ↦ subst at (sym v.found-is) (made-yes a.w.now a.movers.now a.b l.outer l.found l.invariant (sym e ∙ v.if-bit_of.true))
      | else-bit_of v ↦ subst at (sym v.found-is) (made-no a.w.now a.movers.now a.b l.outer l.found l.invariant (sym e ∙ v.if-bit_of.false))
    ]

pub returns : goal.returns
returns c = let a = c.args in let l = c.loop-outer in made-end a.w.now a.movers.now a.b l.outer l.found (omega arith) l.invariant
