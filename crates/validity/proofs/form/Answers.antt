-- `validity::form` meets its contract: 1, then 2 to 5 by `read_all`, then 6 by `climbs`, each where the one before passes.
use Rattle.std.proofs.Common.{◌∙◌, ◌≡◌, Err, refl, sym, true, arith, rules}
use Rattle.model.proofs.Laws.Bytes.{size-le}
use Rattle.model.proofs.Laws.Checks.{need-pass, passed, refused-by}
use Rattle.model.specs.Numbers.{check_as, number_of}
use Rattle.model.specs.Records.{count}
use Rattle.model.specs.Validity.{size_right}
use Rattle.validity.specs.Laws.{form-climb, form-read, viewable}
use Rattle.validity.proofs.form.Goals as goal
use Rattle.validity.proofs.form.Goals.{In_ok-need}

-- the length is right behind the first check
sized : (c : In_ok-need) → size_right c.args.it.now ≡ true
unfolding size_right number_of
sized c = need-pass _ _ _ (passed _ _ c.need.ensures c.in_ok-need.was)

pub overflow_cast-n : goal.overflow_cast-n
overflow_cast-n c = omega (arith, size-le c.args.it.now (sized (goal.at.overflow_cast-n c).In_ok-need))

pub climbs-requires-clause-viewable : goal.climbs-requires-clause-viewable
unfolding count
climbs-requires-clause-viewable c = viewable _ (sized (goal.at.climbs-requires-clause-viewable c).In_ok-need) (passed _ _ c.read_all.ensures.checks c.in_ok-ordered.was)

pub climbs-requires-clause-counted : goal.climbs-requires-clause-counted
unfolding count
climbs-requires-clause-counted c = refl

pub returns-in_err-ordered : goal.returns-in_err-ordered
unfolding check_as count
returns-in_err-ordered c =
    let e : c.from_residual-in_err-ordered.result ≡ Err c.in_err-ordered.field-0.0 = search rules in
    rw e (sym (form-read _ (sized (goal.at.returns-in_err-ordered c).In_ok-need) (refused-by _ _ c.read_all.ensures.checks c.in_err-ordered.was)))

pub returns : goal.returns
unfolding count
returns c = c.climbs.ensures ∙ sym (form-climb _ (sized (goal.at.returns c).In_ok-need) (passed _ _ c.read_all.ensures.checks c.in_ok-ordered.was))
