-- `tables::policy_right` meets its contract: the length, then the class of the environment, then every class.
use Rattle.std.proofs.Common.{◌≡◌, ℕ, ◌<◌, ◌≤◌, List, get_or, ne_eqb, ◌∙◌, ap, sym, rules, tests}
use Rattle.std.proofs.lemmas.Iterator.{YieldsList-from_slice, cases_from_all}
use Rattle.tables.specs.Loops.{policy-classes, policy-first, policy-long}
use Rattle.tables.proofs.policy_right.Goals as goal

pub returns-in_default : goal.returns-in_default
returns-in_default c = policy-long _ (search rules)

pub returns-then-policy-eq0 : goal.returns-then-policy-eq0
returns-then-policy-eq0 c =
    let whole = c.in-Some.ensures.cases in
    let xs = c.in-Some.policy.now in
    let e : get_or c.args.policy.now 0 0 ≡ 0 = ap (λ (s : List ℕ). get_or s 0 0) (sym whole.same) ∙ c.if-policy-eq0.true in
    policy-classes _ _ whole.long e
    (cases_from_all _ _ _ (λ x. x ≤ 2) (λ x. 2 < x) c.all.ensures.ran (YieldsList-from_slice c.args.policy.now (c.iter.ensures.rest ∙ whole.same)) (λ x q k. search (rules, tests)) (λ x q k. search (rules, tests)))

pub returns-else-policy-eq0 : goal.returns-else-policy-eq0
returns-else-policy-eq0 c =
    let whole = c.in-Some.ensures.cases in
    ne_eqb _ _ c.if-policy-eq0.false ∙ policy-first _ (λ e. c.if-policy-eq0.false (ap (λ (s : List ℕ). get_or s 0 0) whole.same ∙ e))
