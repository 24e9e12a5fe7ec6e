-- `verdicts::verdict_of` meets its contract. The lowest high label of R decides, then the lowest suspect one; where there is
-- neither, the table is sealed.
use Rattle.std.proofs.Common.{rules, tests}
use Rattle.model.specs.Tables.{bits, is_high, place_s}
use Rattle.model.specs.Verdicts.{marked}
use Rattle.verdicts.specs.Laws.{exposed-is, hinted-is, lowest-passing, lowest-passing_none, sealed-is}
use Rattle.verdicts.proofs.verdict_of.Goals as goal

pub returns-in-Some : goal.returns-in-Some
unfolding marked is_high
returns-in-Some c =
    let a = c.args in exposed-is (bits a.table.now) a.policy.now _ c.reach-r.ensures _ (lowest-passing _ c.in-Some.ensures (λ k b l h. search (rules, tests)))

pub returns-in-Some-lowest : goal.returns-in-Some-lowest
unfolding marked is_high place_s
returns-in-Some-lowest c =
    let a = c.args in hinted-is (bits a.table.now) a.policy.now _ c.reach-r.ensures _ (lowest-passing_none _ c.in_default.ensures (λ k b l h. search (rules, tests))) (lowest-passing _ c.in-Some-lowest.ensures (λ k b l h. search (rules, tests)))

pub returns-in-None : goal.returns-in-None
unfolding marked is_high place_s
returns-in-None c =
    let a = c.args in sealed-is (bits a.table.now) a.policy.now _ c.reach-r.ensures (lowest-passing_none _ c.in_default.ensures (λ k b l h. search (rules, tests))) (lowest-passing_none _ c.in-None.ensures (λ k b l h. search (rules, tests)))
