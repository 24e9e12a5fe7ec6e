-- `text_line::read_line` meets its contract: the spaces are inside.
use Rattle.std.proofs.Common.{arith, eqb}
use Rattle.text_form.specs.Laws.Scanning.{leading-inside}
use Rattle.text_line.proofs.read_line.Goals as goal

pub slice_bounds-rest-count : goal.slice_bounds-rest-count
slice_bounds-rest-count c = omega (arith, c.spaces-n.ensures, leading-inside (λ x. eqb x 32) c.args.s.now)

pub slice_bounds-rest-start : goal.slice_bounds-rest-start
slice_bounds-rest-start c = omega (arith, c.spaces-n.ensures, leading-inside (λ x. eqb x 32) c.args.s.now)
