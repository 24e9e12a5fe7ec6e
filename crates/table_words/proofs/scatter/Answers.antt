-- The goals of `table_words::scatter`; the argument stands in Invariants.
use Rattle.std.proofs.Common.{◌+◌, length-set, refl, arith}
use Rattle.table_words.specs.Adds.{adds-or}
use Rattle.table_words.specs.Ones.{taken-from}
use Rattle.table_words.specs.Transposes.{scatter-end, scatter-next, scatter-none}
use Rattle.table_words.proofs.scatter.Goals as goal

pub loop-k-init : goal.loop-k-init
loop-k-init c = let a = c.args in rw c.into_iter-k-iterator.ensures.into_iter_gives (refl, (λ x t. t), scatter-none a.base a.bits a.value)

pub overflow_add-words : goal.overflow_add-words
overflow_add-words c = let h = c.in-Some.ensures.steps.lowest.below in omega arith

pub offset_bounds-words-base : goal.offset_bounds-words-base
offset_bounds-words-base c = let h = c.in-Some.ensures.steps.lowest.below in omega arith

pub bounds-words-base : goal.bounds-words-base
bounds-words-base c = let h = c.in-Some.ensures.steps.lowest.below in omega arith

pub loop-k-preserved : goal.loop-k-preserved
loop-k-preserved c =
    let a = c.args in let l = c.loop-k in let o = c.in-Some.ensures.steps in
    let h = o.lowest.below in (
      simp length-set l.invariant.0,
      (λ x t. l.invariant.1 x (taken-from o x t)),
      scatter-next a.base a.bits a.value o l.invariant.1 l.invariant.2 (adds-or l.words (a.base + c.in-Some.k) a.value (omega arith)),
    )

pub returns : goal.returns
returns c = let a = c.args in scatter-end a.base a.bits a.value c.loop-k.k-iterator.0 c.in-None.ensures.steps c.loop-k.invariant.2
