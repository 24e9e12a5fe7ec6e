-- `steps::apply` meets its contract: behind the last record nothing changes.
use Rattle.model.specs.Records.{count}
use Rattle.steps.specs.Laws.{pass-settled}
use Rattle.steps.specs.Moves.{applied, remade}
use Rattle.std.proofs.Common.{◌∙◌, arith, rules}
use Rattle.model.proofs.Laws.Bytes.{valid-few}
use Rattle.steps.proofs.apply.Goals as goal

pub overflow_cast-it : goal.overflow_cast-it
overflow_cast-it c = omega (arith, valid-few _ c.requires)

pub pass_to-requires : goal.pass_to-requires
unfolding count
pass_to-requires c = record { valid = c.requires; inside = omega arith }

pub returns : goal.returns
unfolding applied count
returns c = c.pass_to.ensures ∙ pass-settled (remade c.args.m) c.args.it.now (λ j. search rules) c.requires _ (λ i a b. absurd (omega arith))
