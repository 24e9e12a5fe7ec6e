-- `copies::write` meets its contract: what is noted of originals and of c is what becomes of parents.
use Rattle.std.proofs.Common.{◌∙◌, ap, arith, sym}
use Rattle.std.proofs.lemmas.List.{length-set}
use Rattle.copies.specs.Filling.{leads-set}
use Rattle.copies.specs.Laws.{active-in}
use Rattle.model.proofs.Laws.Bytes.{at-whole, length-records, valid-few, valid-whole}
use Rattle.model.specs.Records.{count, records}
use Rattle.copies.proofs.write.Goals as goal

pub link-requires-clause-room : goal.link-requires-clause-room
unfolding count
link-requires-clause-room c = omega (arith, valid-few _ c.requires.valid)

pub bounds-leads-c : goal.bounds-leads-c
unfolding count
bounds-leads-c c = omega (arith, active-in _ _ c.requires.active, length-records c.args.it.now, valid-few _ c.requires.valid)

pub put_copies-requires-clause-room : goal.put_copies-requires-clause-room
unfolding count
put_copies-requires-clause-room c = simp length-set (omega (arith, c.link.ensures.long, valid-few _ c.requires.valid))

pub put_copies-requires-clause-leads : goal.put_copies-requires-clause-leads
unfolding count
put_copies-requires-clause-leads c =
    λ q l. leads-set (records c.args.it.now) c.args.c c.link.new.leads c.record_at.result.parent c.link.ensures.leads
    (ap (λ r. r.parent) (c.record_at.ensures ∙ sym (at-whole c.args.it.now (valid-whole _ c.requires.valid) c.args.c)))
    (omega (arith, c.link.ensures.long, active-in _ _ c.requires.active, length-records c.args.it.now, valid-few _ c.requires.valid)) q
