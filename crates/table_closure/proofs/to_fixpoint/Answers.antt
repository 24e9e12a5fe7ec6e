-- The goals of `table_closure::to_fixpoint`; the argument stands in Invariants.
use Prim.Native.Nat.{◌*◌, ℕ}
use Rattle.table_closure.specs.Laws.{all-owed, fixpoint-end, fixpoint-on}
use Rattle.tables.specs.Grow.{start}
use lib.ListN.{length}
use mathlib.Core.Logic.{⊎_elim}
use mathlib.Core.Path.{◌≡◌, ap}
use native.Mathlib.Omega.{arith}
use Rattle.table_words.specs.BitSets.{Bits}
use Rattle.table_words.specs.Sums.{total-le}
use Rattle.table_closure.proofs.to_fixpoint.Goals as goal

pub loop-dirty-init : goal.loop-dirty-init
loop-dirty-init c = let a = c.args in (c.fits-w, all-owed a.movers.now a.w.now, start (Bits a.w.now))

pub sweep-changed-requires : goal.sweep-changed-requires
sweep-changed-requires c = c.loop-dirty.invariant.1

pub returns-then-changed-eq0 : goal.returns-then-changed-eq0
returns-then-changed-eq0 c =
    let q = c.sweep-changed in record { smallest = fixpoint-end c.loop-dirty.invariant.2 q.ensures c.if-changed-eq0.true; narrow = q.ensures.changed.narrow c.loop-dirty.invariant.0 }

pub loop-dirty-smaller : goal.loop-dirty-smaller
loop-dirty-smaller c =
    let q = c.sweep-changed in let b = total-le 64 q.new.w (q.ensures.changed.narrow c.loop-dirty.invariant.0) in
    let k : length q.new.w * 64 ≡ 12352 = ap (λ (x : ℕ). x * 64) q.array_long in
    let d = c.if-changed-eq0.false in ⊎_elim (λ e. absurd (d e)) (λ l. omega arith) q.ensures.changed.more

pub loop-dirty-preserved : goal.loop-dirty-preserved
loop-dirty-preserved c = let q = c.sweep-changed in let l = c.loop-dirty in (q.ensures.changed.narrow l.invariant.0, q.ensures.owed, fixpoint-on l.invariant.2 q.ensures)
