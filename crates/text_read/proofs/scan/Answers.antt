-- The goals of `text_read::scan`; the argument stands in Invariants.
use mathlib.Core.Path.{◌∙◌, ◌≡◌, ap, refl, sym}
use native.Mathlib.Omega.{arith}
use Rattle.std.proofs.Common.{rules}
use Rattle.std.specs.Prelude.{Err, ◌+◌}
use Rattle.text_form.specs.Laws.Placing.{bad, depth-few, done, fewer, first, full, mapped-err, mapped-ok, next}
use Rattle.text_form.specs.Laws.Scanning.{part}
use Rattle.text_form.specs.Reading.{line_read, none_above}
use Rattle.text_read.proofs.scan.Goals as goal

pub loop-at-init : goal.loop-at-init
unfolding none_above
loop-at-init c = first _ _ _ _ refl

pub returns-then-room-k : goal.returns-then-room-k
returns-then-room-k c = let w = full c.loop-at.invariant c.loop-at-test.true c.if-room-k.true in record { answer = w.0; bytes = w.1 }

pub slice_bounds-read_line-count : goal.slice_bounds-read_line-count
slice_bounds-read_line-count c = c.loop-at.invariant.inside

pub returns-in_err-got : goal.returns-in_err-got
returns-in_err-got c =
    let e : c.from_residual.result ≡ Err c.in_err-got.field-0.0 = search rules in
    let x = mapped-err _ _ _ c.map_err.ensures.cases c.in_err-got.was in
    let y : c.in_err-got.field-0.0 ≡ record { line = c.loop-at.k + 1; cause = x.0 } = search (rules, x) in
    let w = bad c.loop-at.invariant _ c.loop-at-test.true c.if-room-k.false (sym (c.read_line.ensures ∙ ap (line_read _) (part c.loop-at.at c.args.text.now)) ∙ x.1) in
    record { answer = e ∙ ap Err y ∙ w.0; bytes = w.1 }

pub place-requires : goal.place-requires
place-requires c =
    let pre = c.requires in let loop = c.loop-at in let if1 = c.if-room-k in let loop-test = c.loop-at-test in let args = c.args in record { few = omega (arith, pre.few, if1.false); room = omega (arith, pre.fits, if1.false, loop.invariant.sized); long = omega (arith, pre.few, if1.false, loop.invariant.long, depth-few loop.invariant _ _ loop-test.true if1.false (sym (c.read_line.ensures ∙ ap (line_read _) (part loop.at args.text.now)) ∙ mapped-ok _ _ _ c.map_err.ensures.cases c.in_ok-got.was)) }

pub overflow_sub-at : goal.overflow_sub-at
overflow_sub-at c =
    let loop = c.loop-at in let loop-test = c.loop-at-test in let if1 = c.if-room-k in let read-line = c.read_line in let args = c.args in fewer loop.invariant _ _ loop-test.true if1.false (sym (read-line.ensures ∙ ap (line_read _) (part loop.at args.text.now)) ∙ mapped-ok _ _ _ c.map_err.ensures.cases c.in_ok-got.was)

pub overflow_add-deepest : goal.overflow_add-deepest
overflow_add-deepest c =
    let loop = c.loop-at in let if1 = c.if-room-k in let pre = c.requires in let loop-test = c.loop-at-test in let read-line = c.read_line in let args = c.args in omega (arith, pre.few, if1.false, depth-few loop.invariant _ _ loop-test.true if1.false (sym (read-line.ensures ∙ ap (line_read _) (part loop.at args.text.now)) ∙ mapped-ok _ _ _ c.map_err.ensures.cases c.in_ok-got.was))

pub loop-at-smaller : goal.loop-at-smaller
loop-at-smaller c =
    let if1 = c.if-room-k in omega (arith, if1.false)

pub loop-at-preserved : goal.loop-at-preserved
loop-at-preserved c =
    let loop = c.loop-at in let place = c.place in let loop-test = c.loop-at-test in let if1 = c.if-room-k in let read-line = c.read_line in let args = c.args in let pre = c.requires in next loop.invariant _ _ loop-test.true if1.false (sym (read-line.ensures ∙ ap (line_read _) (part loop.at args.text.now)) ∙ mapped-ok _ _ _ c.map_err.ensures.cases c.in_ok-got.was) _ _ pre.fits place.ensures.bytes place.ensures.above

pub returns : goal.returns
returns c = let w = done c.loop-at.invariant c.loop-at-test.false in record { answer = w.0; bytes = w.1 }
