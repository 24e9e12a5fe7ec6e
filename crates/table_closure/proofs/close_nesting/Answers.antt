-- The goals of `table_closure::close_nesting`; the argument stands in Invariants.
use Rattle.table_closure.specs.Rounds.{round-end, round-on, round-only}
use Rattle.tables.specs.Grow.{start}
use native.Mathlib.Omega.{arith}
use Rattle.table_movers.specs.Movers.{clear-only}
use Rattle.table_words.specs.BitSets.{Bits}
use Rattle.table_closure.specs.Capabilities.{capabilities-le, capabilities-fewer}
use Rattle.table_closure.proofs.close_nesting.Goals as goal

pub loop-count-init : goal.loop-count-init
loop-count-init c =
    let a = c.args in (c.told-w, c.told-movers, c.count_capabilities-count.ensures, c.fits-w, clear-only a.partners.now (Bits a.w.now) a.movers.now c.requires, start (Bits a.w.now))

pub movers_of-requires : goal.movers_of-requires
movers_of-requires c = c.loop-count.invariant.4

pub returns-then-grown-count : goal.returns-then-grown-count
returns-then-grown-count c =
    let a = c.args in let i = c.loop-count.invariant in let n = i.2 in
    let g = c.count_capabilities-grown.ensures in let e = c.if-grown-count.true in round-end a.partners.now c.movers_of.new.movers c.loop-count.w c.to_fixpoint.new.w i.5 c.movers_of.ensures c.to_fixpoint.ensures.smallest i.3 c.to_fixpoint.ensures.narrow (omega arith)

pub loop-count-smaller : goal.loop-count-smaller
loop-count-smaller c =
    let l = c.loop-count in let v = c.to_fixpoint.new.w in let h = c.to_fixpoint.ensures.narrow in
    let n = l.invariant.2 in
    let e = c.count_capabilities-grown.ensures in let g = (capabilities-fewer l.w v l.invariant.3 h c.to_fixpoint.ensures.smallest.keeps 64).le in
    let b = capabilities-le v 64 h in
    let d = c.if-grown-count.false in omega arith

pub loop-count-preserved : goal.loop-count-preserved
loop-count-preserved c =
    let p = c.args.partners.now in let i = c.loop-count.invariant in let f = c.movers_of in let q = c.to_fixpoint in (
      q.array_long,
      f.array_long,
      c.count_capabilities-grown.ensures,
      q.ensures.narrow,
      round-only p f.new.movers c.loop-count.w q.new.w i.5 f.ensures q.ensures.smallest,
      round-on p f.new.movers c.loop-count.w q.new.w i.5 f.ensures q.ensures.smallest,
    )
