-- `hubscreen::answers_for` meets its contract, by whether the script has more.
use Rattle.std.proofs.Common.{ap, sym}
use Rattle.hubscreen.specs.Lent.{answers_for}
use Rattle.hubscreen.proofs.answers_for.Goals as goal

pub returns-then-l : goal.returns-then-l
unfolding answers_for
returns-then-l c = sym (ap (λ b. answers_for b c.args.l.len) c.if-l.true)

pub returns-else-l : goal.returns-else-l
unfolding answers_for
returns-else-l c = sym (ap (λ b. answers_for b c.args.l.len) c.if-l.false)
