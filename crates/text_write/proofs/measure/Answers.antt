-- The goals of `text_write::measure`; the argument stands in Invariants.
use Rattle.std.proofs.Common.{◌∙◌, ap, arith, refl}
use Rattle.model.specs.Records.{records}
use Rattle.text_form.specs.Laws.Walking.{measure-deep, measure-end, measure-on, measure-small, measure-start, visit-short}
use Rattle.text_walk.specs.Visits.{visits_left}
use Rattle.text_write.proofs.measure.Goals as goal

pub loop-v-init : goal.loop-v-init
loop-v-init c =
    let e = ap visits_left c.into_iter-v-iterator.ensures.into_iter_gives ∙ c.new-v-items.ensures in
    (rw e (measure-start _ _ c.requires.whole), refl)

pub put_visit-used-requires : goal.put_visit-used-requires
put_visit-used-requires c =
    let deep = measure-deep _ _ c.in-Some.ensures.steps c.loop-v.invariant.0 in
    record {
      whole = c.requires.whole;
      sheet = c.requires.sheet;
      shallow = deep;
      fits = omega (arith, c.loop-v.invariant.1, visit-short c.args.listed (records c.args.it.now) (records c.args.sheet.now) c.in-Some.v deep);
    }

pub overflow_add-used : goal.overflow_add-used
overflow_add-used c =
    let deep = measure-deep _ _ c.in-Some.ensures.steps c.loop-v.invariant.0 in
    let small = measure-small _ _ c.in-Some.ensures.steps c.loop-v.invariant.0 in
    omega (arith, c.put_visit-used.ensures.end, visit-short c.args.listed (records c.args.it.now) (records c.args.sheet.now) c.in-Some.v deep)

pub loop-v-preserved : goal.loop-v-preserved
loop-v-preserved c =
    let deep = measure-deep _ _ c.in-Some.ensures.steps c.loop-v.invariant.0 in
    let short = visit-short c.args.listed (records c.args.it.now) (records c.args.sheet.now) c.in-Some.v deep in
    (measure-on _ _ c.in-Some.ensures.steps c.loop-v.invariant.0 short c.put_visit-used.ensures.end, c.put_visit-used.auto.text ∙ c.loop-v.invariant.1)

pub returns : goal.returns
returns c = measure-end _ _ c.in-None.ensures.steps.0 c.loop-v.invariant.0
