-- `verdicts::exposed` meets its contract: a high label in the environment's row is in R, and a search that stops at high labels
-- has met one exactly where R has one.
use Rattle.std.proofs.Common.{◌≡◌, ◌+◌, ◌*◌, arith, rules, tests}
use mathlib.Core.Path.{◌∙◌}
use Rattle.model.specs.Tables.{bits, is_high, parts, place_i}
use Rattle.verdicts.specs.Laws.{first-row, lowest-passing, until-exposed}
use Rattle.verdicts.proofs.exposed.Goals as goal

pub returns-in-Some : goal.returns-in-Some
unfolding is_high place_i
returns-in-Some c =
    let a = c.args in
    first-row (parts (bits a.table.now)) a.policy.now c.if-policy-ne-BOUNDARY.true (lowest-passing _ c.in-Some.ensures (λ k b l h. let z : 128 * 0 + k ≡ k = omega arith in rw z (search (rules, tests))))

pub returns : goal.returns
returns c =
    let a = c.args in c.meets.ensures ∙ until-exposed (parts (bits a.table.now)) a.policy.now c.reach_until-r.ensures c.highs-high.ensures
