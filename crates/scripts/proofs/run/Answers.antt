-- The goals of `scripts::run`; the argument stands in Invariants.
use Rattle.std.proofs.Common.{arith}
use Rattle.scripts.specs.Runs.{running-end, running-few, running-next, running-room, running-start, running-valid, script-of}
use Rattle.scripts.proofs.run.Goals as goal

pub loop-k-init : goal.loop-k-init
loop-k-init c = (script-of _ _ c.requires.right, running-start _ _ _)

pub act-outcome-requires : goal.act-outcome-requires
act-outcome-requires c =
    running-valid c.loop-k.invariant.1 (omega arith) (omega arith) c.requires.valid

pub bounds-answers-k : goal.bounds-answers-k
bounds-answers-k c =
    omega (arith, running-room c.loop-k.invariant.1 (omega arith) (omega arith))

pub counted-c-requires : goal.counted-c-requires
counted-c-requires c =
    let h = running-few c.loop-k.invariant.1 (omega arith) (omega arith) in
    record { ins_few = omega arith; outs_few = omega arith; opens_few = omega arith }

pub loop-k-preserved : goal.loop-k-preserved
loop-k-preserved c = (
  c.loop-k.invariant.0,
  running-next c.loop-k.invariant.1 (omega arith) (omega arith) c.word_at-actor.ensures c.word_at-partner.ensures c.act-outcome.ensures.outcome
      _ _ _ c.act-outcome.ensures.bytes c.act-outcome.auto.it c.number_of.ensures c.counted-c.ensures,
)

pub returns : goal.returns
returns c = let e = running-end c.loop-k.invariant.1 (omega arith) (omega arith) (omega arith) in record { counts = e.0; itinerary = e.1; answers = e.2 }
