-- The goals of `table_closure::sweep`; the argument stands in Invariants.
use Prim.Native.Nat.{◌+◌, ◌<◌, ℕ}
use Rattle.table_closure.specs.Laws.{Sweeping, sweep-end, sweep-none, sweep-skip, sweep-row}
use lib.ListN.{length}
use mathlib.Core.List.{List}
use mathlib.Core.Path.{◌∙◌, ap, subst₂, sym}
use native.Mathlib.Omega.{arith}
use Rattle.table_closure.proofs.sweep.Goals as goal
use Rattle.table_closure.proofs.sweep.Goals.{then-changed-w-ne0, else-changed-w-ne0}

pub loop-p-init : goal.loop-p-init
loop-p-init c = (c.told-w, sweep-none c.args.movers.now c.args.w.now c.args.dirty_before c.requires)

pub loop-p-preserved : goal.loop-p-preserved
loop-p-preserved c =
    let a = c.args in let m = a.movers.now in
    let l = c.loop-p in let h : l.p < 64 = omega arith in
    let at : List ℕ → ℕ → Type 0 = λ w dirty. Sweeping m a.w.now w a.dirty_before dirty (l.p + 1) in
    elim c.if-changed-w-ne0.branch [
      | then-changed-w-ne0 v ↦ (ap length v.w-is ∙ v.close_row-dirty.array_long, subst₂ at (sym v.w-is) (sym v.dirty-is) (sweep-row m a.w.now a.dirty_before l.w l.dirty l.p h l.invariant.1 v.close_row-dirty.new.w v.close_row-dirty.result v.close_row-dirty.ensures.grown v.close_row-dirty.ensures.rows_changed))
      | else-changed-w-ne0 v ↦ (ap length v.w-is ∙ l.invariant.0, subst₂ at (sym v.w-is) (sym v.dirty-is) (sweep-skip m a.w.now a.dirty_before l.w l.dirty l.p h l.invariant.1 v.if-changed-w-ne0.false))
    ]

pub returns : goal.returns
returns c = let a = c.args in let l = c.loop-p in sweep-end a.movers.now a.w.now a.dirty_before l.w l.dirty l.p (omega arith) l.invariant.1
