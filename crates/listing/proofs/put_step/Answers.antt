-- `listing::put_step` meets its contract: three fields, one after the other.
use native.Mathlib.Omega.{arith}
use Rattle.listing.specs.Laws.{step-length, step-put}
use Rattle.listing.proofs.put_step.Goals as goal

pub put_field-second-requires : goal.put_field-second-requires
put_field-second-requires c =
    let a = c.args in omega (arith, c.requires, step-length a.actor a.partner a.answer)

pub put_field-third-requires : goal.put_field-third-requires
put_field-third-requires c =
    let a = c.args in omega (arith, c.requires, step-length a.actor a.partner a.answer, c.put_field-second.ensures.end, c.put_field-second.auto.text)

pub put_field-requires : goal.put_field-requires
put_field-requires c =
    let a = c.args in omega (arith, c.requires, step-length a.actor a.partner a.answer, c.put_field-second.ensures.end, c.put_field-second.auto.text, c.put_field-third.ensures.end, c.put_field-third.auto.text)

pub returns : goal.returns
returns c =
    step-put _ _ _ c.requires c.put_field-second.ensures c.put_field-third.ensures c.put_field.ensures
