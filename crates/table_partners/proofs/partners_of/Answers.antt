-- The goals of `table_partners::partners_of`; the argument stands in Invariants. H transposed has the bearers of each name, so
-- what they bear is H.
use Rattle.std.proofs.Common.{◌≡◌, ℕ, ◌+◌, ◌∙◌, List, ap, length, subst, sym, arith}
use Rattle.model.proofs.Laws.Bytes.{at-decode, length-records, valid-wf}
use Rattle.model.proofs.Laws.Finite.{replicated}
use Rattle.model.specs.Records.{count, decode, records}
use Rattle.model.specs.Refusals.{pass}
use Rattle.model.specs.Validity.{validity}
use Rattle.table_partners.specs.Partners.{borne}
use Rattle.table_partners.specs.Laws.{added-end, added-next, added-start, read-shape}
use Rattle.table_partners.proofs.partners_of.Goals as goal

pub loop-i-init : goal.loop-i-init
loop-i-init c = (c.told-partners, added-start (records c.args.it.now) (borne c.transpose.new.columns) c.args.partners.now)

-- a record within the count is whole
pub record_in-r-requires-clause-whole : goal.record_in-r-requires-clause-whole
unfolding count
record_in-r-requires-clause-whole c = omega (arith, c.count-i-end.ensures, ap length c.it.view_is)

pub add_partners-requires : goal.add_partners-requires
add_partners-requires c = read-shape c.it.inside.bytes.now (c.loop-i.i + 1) c.record_in-r.result c.it.invariant (omega (arith, c.count-i-end.ensures, ap count c.it.view_is)) c.record_in-r.ensures

pub loop-i-preserved : goal.loop-i-preserved
loop-i-preserved c =
    let l = c.loop-i in let q = c.add_partners in let it = c.args.it.now in
    let e = c.record_in-r.ensures ∙ ap (λ (s : List ℕ). decode s (l.i + 1)) c.it.view_is in (
      q.array_long,
      added-next (records it) (borne c.transpose.new.columns) l.i c.record_in-r.result (e ∙ sym (at-decode it (l.i + 1) (omega (arith, c.count-i-end.ensures)))) l.invariant.1 q.ensures,
    )

pub returns : goal.returns
returns c =
    let l = c.loop-i in let t = c.transpose in let it = c.args.it.now in
    let v = subst (λ (s : List ℕ). validity s ≡ pass) c.it.view_is c.it.invariant in
    record {
      partners = added-end (valid-wf it v) c.args.w.now _ t.new.columns (replicated 0 64) t.ensures l.i (omega (arith, c.count-i-end.ensures, length-records it)) l.invariant.1;
      valid = v;
    }
