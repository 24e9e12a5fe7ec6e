-- `Ones::next` meets its contract: what `trailing_zeros` counts is the lowest one bit, and `x & (x - 1)` clears it.
use Rattle.std.proofs.Common.{refl, rules}
use Rattle.table_words.specs.Lowest.{lowest-one}
use Rattle.table_words.proofs.OnesIterator.next.Goals as goal

pub returns-clause-steps : goal.returns-clause-steps
returns-clause-steps c = record { lowest = lowest-one 64 c.args.self.now.0 (search rules) c.if-self-eq0.false; rest = refl }
