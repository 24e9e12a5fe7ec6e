-- `text_line::unworded` meets its contract: the visible bytes are inside.
use Rattle.std.proofs.Common.{arith}
use Rattle.text_form.specs.Laws.Scanning.{leading-inside}
use Rattle.text_form.specs.Reading.{visible}
use Rattle.text_line.proofs.unworded.Goals as goal

pub slice_bounds-cause_at-count : goal.slice_bounds-cause_at-count
slice_bounds-cause_at-count c = omega (arith, c.shown-n.ensures, leading-inside visible c.args.s.now)

pub slice_bounds-cause_at-start : goal.slice_bounds-cause_at-start
slice_bounds-cause_at-start c = omega (arith, c.shown-n.ensures, leading-inside visible c.args.s.now)
