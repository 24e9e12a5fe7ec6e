-- The goals of `record_checks::read_all`; the argument stands in Invariants.
use Rattle.std.proofs.Common.{◌∙◌, ◌≡◌, Err, sym, rules}
use Rattle.model.proofs.Laws.Checks.{rest_end, rest-next, rest-refuse, rest-start, answered-done, answered-refused}
use Rattle.model.specs.Numbers.{check_as}
use Rattle.record_checks.specs.Laws.{answered-is, order-next, order-start}
use Rattle.record_checks.proofs.read_all.Goals as goal

pub loop-i-init : goal.loop-i-init
loop-i-init c = (rest-start _ _, order-start _)

pub loop-i-preserved : goal.loop-i-preserved
loop-i-preserved c = (
  c.loop-i.invariant.0 ∙ rest-next _ _ _ c.loop-i-test.true (answered-done _ _ _ c.read_record-read.ensures c.in-Ok.is),
  order-next _ _ _ _ c.loop-i.invariant.1 (answered-is _ _ _ c.read_record-read.ensures c.in-Ok.is),
)

pub returns-in_default-clause-checks : goal.returns-in_default-clause-checks
unfolding check_as
returns-in_default-clause-checks c =
    let e : c.map.result ≡ Err c.in_default.field-0 = search rules in
    rw e (sym (c.loop-i.invariant.0 ∙ rest-refuse _ _ _ _ _ c.loop-i-test.true (answered-refused _ _ _ c.read_record-read.ensures c.in_default.is)))

pub returns-clause-checks : goal.returns-clause-checks
unfolding check_as
returns-clause-checks c = sym (c.loop-i.invariant.0 ∙ rest_end _ _ _ c.loop-i-test.false)
