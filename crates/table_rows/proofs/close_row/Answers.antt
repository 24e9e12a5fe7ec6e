-- The goals of `table_rows::close_row`; the argument stands in Invariants.
use Rattle.std.proofs.Common.{◌*◌, get_or}
use Rattle.table_rows.specs.Laws.{read-pair, row-grown, row_reads}
use Rattle.table_rows.specs.Changes.{changed-as, changed-none, changed_then}
use Rattle.table_words.specs.Ones.{taken-from}
use Rattle.table_words.specs.OverBits.{taken-end, taken_next, taken_start}
use Rattle.table_movers.specs.Rules.{PairClosed}
use Rattle.table_rows.proofs.close_row.Goals as goal

pub loop-b-init : goal.loop-b-init
loop-b-init c =
    let a = c.args in rw c.into_iter-b-iterator.ensures.into_iter_gives (c.told-w, (λ x t. t), taken_start (PairClosed a.movers.now a.p) (get_or a.w.now (2 * a.p) 0), changed-none)

pub close_pair-changed-requires : goal.close_pair-changed-requires
close_pair-changed-requires c = record { p_bound = c.requires; b_bound = c.in-Some.ensures.steps.lowest.below }

pub loop-b-preserved : goal.loop-b-preserved
loop-b-preserved c =
    let a = c.args in let l = c.loop-b in let q = c.close_pair-changed in let o = c.in-Some.ensures.steps in (
      q.array_long,
      (λ x t. l.invariant.1 x (taken-from o x t)),
      taken_next (PairClosed a.movers.now a.p) (get_or a.w.now (2 * a.p) 0) o l.invariant.1 l.invariant.2 q.ensures.grown,
      changed_then l.invariant.3 q.ensures.rows_changed (λ x r. r) (read-pair a.w.now a.p c.in-Some.b c.requires o.lowest.below (l.invariant.1 _ o.lowest.bit)),
    )

pub returns : goal.returns
returns c =
    let a = c.args in let l = c.loop-b in
    let g = row-grown a.movers.now a.w.now l.w a.p (taken-end (PairClosed a.movers.now a.p) (get_or a.w.now (2 * a.p) 0) l.b-iterator.0 c.in-None.ensures.steps l.invariant.2) in
    record { grown = g; rows_changed = changed-as l.invariant.3 (λ x r. row_reads a.w.now l.w a.p g.keeps r) }
