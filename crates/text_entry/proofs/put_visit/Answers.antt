-- `text_entry::put_visit` meets its contract.
use Rattle.std.proofs.Common.{ap, arith, length}
use Rattle.model.specs.Records.{records}
use Rattle.text_put.specs.Laws.{put_as}
use Rattle.text_form.specs.Laws.Walking.{at-is, visit-is}
use Rattle.text_entry.proofs.put_visit.Goals as goal

pub put_entry-requires : goal.put_entry-requires
put_entry-requires c =
    let args = c.args in let r = c.record_at-r in let s = c.record_at-s in record {
      shallow = c.requires.shallow;
      fits = omega (arith, c.requires.fits, ap length (visit-is args.listed (records args.it.now) (records args.sheet.now) args.v r.result s.result c.then_some-shown.ensures (at-is c.requires.whole _ _ r.ensures) (at-is c.requires.sheet _ _ s.ensures) c.kind_of_record.ensures c.is_gone.ensures));
    }

pub returns : goal.returns
returns c =
    let r = c.record_at-r in let s = c.record_at-s in
    put_as (visit-is _ _ _ _ r.result s.result c.then_some-shown.ensures (at-is c.requires.whole _ _ r.ensures) (at-is c.requires.sheet _ _ s.ensures) c.kind_of_record.ensures c.is_gone.ensures) c.put_entry.ensures
