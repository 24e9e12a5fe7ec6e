-- The goals of `text_write::fill`; the argument stands in Invariants.
use Rattle.std.proofs.Common.{◌∙◌, ap}
use Rattle.text_form.specs.Laws.Walking.{fill-deep, fill_end, fill_on, fill-room, fill_start}
use Rattle.text_walk.specs.Visits.{visits_left}
use Rattle.text_write.proofs.fill.Goals as goal

pub loop-v-init : goal.loop-v-init
loop-v-init c =
    let e = ap visits_left c.into_iter-v-iterator.ensures.into_iter_gives ∙ c.new-v-items.ensures in
    rw e (fill_start _ _ c.requires.whole _ c.requires.fits)

pub put_visit-at-requires : goal.put_visit-at-requires
put_visit-at-requires c = record {
  whole = c.requires.whole;
  sheet = c.requires.sheet;
  shallow = fill-deep _ _ c.in-Some.ensures.steps c.loop-v.invariant;
  fits = fill-room _ _ c.in-Some.ensures.steps c.loop-v.invariant;
}

pub loop-v-preserved : goal.loop-v-preserved
loop-v-preserved c = fill_on _ _ c.in-Some.ensures.steps c.loop-v.invariant c.put_visit-at.auto.text c.put_visit-at.ensures

pub returns : goal.returns
returns c = fill_end _ _ c.in-None.ensures.steps.0 c.loop-v.invariant
