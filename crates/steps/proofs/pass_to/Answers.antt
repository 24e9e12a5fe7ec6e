-- The goals of `steps::pass_to`; the argument stands in Invariants.
use Rattle.model.specs.Records.{count, records, update}
use Rattle.records.specs.Written.{pass-length, pass-next, pass-read, pass-whole, written, written_none}
use Rattle.steps.specs.Laws.{pass-untouched}
use Rattle.steps.specs.Moves.{remade}
use Rattle.steps.specs.Passes.{passed_to}
use Rattle.std.specs.Prelude.{◌≤◌, ◌*◌, length}
use Rattle.std.proofs.Common.{◌≡◌, rules}
use native.Mathlib.Omega.{arith}
use mathlib.Core.Path.{◌∙◌, ap, refl}
use Rattle.steps.proofs.pass_to.Goals as goal
use Rattle.steps.proofs.pass_to.Goals.{After-untouched_to-i, In-loop-i}

pub loop-i-init : goal.loop-i-init
unfolding passed_to written
loop-i-init c = (omega arith, written_none (update (remade c.args.m) (records c.args.it.now)) _)

room : (c : In-loop-i) → 8 * c.args.k ≤ length c.loop-i.it
unfolding count passed_to written
room c = omega (arith, c.requires.inside, pass-length _ _ _ _ _ c.loop-i.invariant.1 (omega (arith, c.requires.inside, c.loop-i.invariant.0)) (omega (arith, c.requires.inside, c.loop-i.invariant.0)))

pub untouched_to-i-requires : goal.untouched_to-i-requires
untouched_to-i-requires c = record { ordered = c.loop-i.invariant.0; inside = room (goal.at.untouched_to-i-requires c).In-loop-i }

-- what is gone over is as after the pass
over : (c : After-untouched_to-i) → c.loop-i.it ≡ passed_to (remade c.args.m) c.untouched_to-i.result c.args.it.now
over c = pass-untouched _ c.args.it.now (λ j. search rules) c.requires.valid c.args.m refl _ _ _ _ c.loop-i.invariant.1 c.untouched_to-i.ensures c.requires.inside

pub remake-requires : goal.remake-requires
unfolding passed_to written
remake-requires c =
    let w = (goal.at.remake-requires c).After-untouched_to-i in
    record {
      some = omega arith;
      inside = omega (arith, room (goal.at.remake-requires c).In-loop-i);
      whole = pass-whole _ _ _ _ (over w) (λ j. search rules) c.requires.valid (omega (arith, c.requires.inside));
    }

pub loop-i-preserved-then-i-k : goal.loop-i-preserved-then-i-k
unfolding passed_to written
loop-i-preserved-then-i-k c =
    let w = (goal.at.loop-i-preserved-then-i-k c).After-untouched_to-i in
    (omega arith, c.remake.ensures ∙ pass-next _ _ _ _ _ (over w) (omega (arith, c.requires.inside)) _ _ (pass-read _ _ _ _ _ (over w) (omega (arith, c.requires.inside))) refl)

pub loop-i-preserved : goal.loop-i-preserved
loop-i-preserved c = (c.untouched_to-i.ensures.inside, over (goal.at.loop-i-preserved c).After-untouched_to-i)

pub returns : goal.returns
returns c = let e : c.loop-i.i ≡ c.args.k = omega (arith, c.loop-i.invariant.0) in c.loop-i.invariant.1 ∙ ap (λ k. passed_to (remade c.args.m) k c.args.it.now) e
