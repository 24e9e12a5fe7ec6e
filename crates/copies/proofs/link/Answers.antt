-- The goals of `copies::link`; the argument stands in Invariants.
use Rattle.std.proofs.Common.{refl, ◌<◌, ◌∙◌, ap, arith, get_or, length, take_all}
use Rattle.std.proofs.lemmas.List.{length-set}
use Rattle.copies.specs.Filling.{leading-next, leading-none, listed-below, listed-distinct}
use Rattle.model.proofs.Laws.Bytes.{length-records}
use Rattle.model.proofs.Laws.Numbers.{Distinct}
use Rattle.model.specs.Copies.{beneath}
use Rattle.model.specs.Finite.{across}
use Rattle.model.specs.Records.{records}
use Rattle.copies.proofs.link.Goals as goal
use Rattle.copies.proofs.link.Goals.{At-loop-k, In-loop-k}

-- the originals are numbers of records, once each
below : (c : In-loop-k) → get_or c.args.originals.now c.loop-k.k 0 < length c.loop-k.leads
below c =
    let l : c.loop-k.k < length (beneath (records c.args.it.now) c.args.c) = rw (← c.requires.beneath) (omega arith) in
    rw c.requires.beneath (omega (arith, listed-below (records c.args.it.now) c.args.c c.loop-k.k l, length-records c.args.it.now, c.requires.room, c.loop-k.invariant.0))

once : (c : In-loop-k) → Distinct c.args.originals.now
once c = rw c.requires.beneath (listed-distinct (records c.args.it.now) c.args.c)

pub loop-k-init : goal.loop-k-init
loop-k-init c = (refl, λ q. ap (λ l. get_or l q 0) c.requires.clear ∙ leading-none c.args.originals.now c.args.places.now (length c.args.leads.now) q)

pub bounds-leads-originals : goal.bounds-leads-originals
bounds-leads-originals c = below (goal.at.bounds-leads-originals c).In-loop-k

pub loop-k-preserved : goal.loop-k-preserved
loop-k-preserved c =
    let w = (goal.at.loop-k-preserved c).In-loop-k in
    (simp length-set c.loop-k.invariant.0, leading-next c.args.originals.now c.args.places.now c.loop-k.leads c.loop-k.k (once w) (omega arith) (below w) c.loop-k.invariant.1)

pub returns : goal.returns
returns c = record {
  long = c.loop-k.invariant.0;
  leads = λ q. c.loop-k.invariant.1 q ∙ ap (λ x. across x c.args.places.now q) (take_all c.loop-k.k c.args.originals.now (omega arith) ∙ c.requires.beneath) ∙ ap (λ x. across (beneath (records c.args.it.now) c.args.c) x q) c.requires.gones;
}
