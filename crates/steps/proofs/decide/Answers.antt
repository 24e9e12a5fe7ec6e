-- `steps::decide` meets its contract: the number that 10 and 11 give the actor, or else done or 12, by whether the partner fits.
use Rattle.std.proofs.Common.{◌∙◌, ◌≡◌, Err, ap, sym, rules, true}
use Rattle.model.proofs.Laws.Bytes.{at-whole}
use Rattle.model.specs.Numbers.{number_of, outcome_as}
use Rattle.model.specs.Steps.{decide}
use Rattle.steps.specs.Laws.{as-admitted}
use Rattle.steps.specs.Moves.{fit_by}
use Rattle.steps.proofs.decide.Goals as goal

pub returns-in_err-x : goal.returns-in_err-x
unfolding outcome_as
returns-in_err-x c =
    let e : c.from_residual.result ≡ Err c.in_err-x.field-0.0 = search rules in
    rw e (sym ((as-admitted _ _ _).0 _ (sym c.in_err-x.ensures)))

pub returns-then-not-fits : goal.returns-then-not-fits
unfolding outcome_as number_of decide
returns-then-not-fits c =
    sym ((as-admitted _ _ _).1 _ (sym c.in_ok-x.ensures) ∙ ap (λ p. decide c.in_ok-x.x.capability true (fit_by c.in_ok-x.x p c.args.partner)) (at-whole _ c.requires _ ∙ sym c.record_at-p.ensures) ∙ ap (decide c.in_ok-x.x.capability true) (sym c.fits.ensures ∙ c.if-not-fits.true))

pub returns : goal.returns
unfolding outcome_as decide
returns c =
    sym ((as-admitted _ _ _).1 _ (sym c.in_ok-x.ensures) ∙ ap (λ p. decide c.in_ok-x.x.capability true (fit_by c.in_ok-x.x p c.args.partner)) (at-whole _ c.requires _ ∙ sym c.record_at-p.ensures) ∙ ap (decide c.in_ok-x.x.capability true) (sym c.fits.ensures ∙ c.if-not-fits.false))
