-- The maker's table: accepted, and inside every accepted one.
use Rattle.std.specs.Prelude.{◌<◌, ℕ, true, List, ◌≡◌}
use Rattle.std.proofs.Common.{ap, sym}
use Rattle.model.specs.Analysis.{permit_all}
use Rattle.model.specs.Calls.{check_answer, checking, entry, make_after, make_answer, making, screen_answer, screening, verdict_answer}
use Rattle.model.proofs.Laws.Bytes.{valid-wf}
use Rattle.model.proofs.Laws.Checks.{answer-done, answer-value, passes}
use Rattle.model.proofs.Laws.Least.{least-table-below, least-table-holds, least-table-right}
use Rattle.model.proofs.Laws.Secrecy.{accept, accepted}
use Rattle.model.specs.Least.{least_table}
use Rattle.model.specs.Records.{records}
use Rattle.model.specs.Refusals.{answer, content, done, pass}
use Rattle.model.specs.Tables.{bits, policy_right, total}
use Rattle.model.specs.Validity.{validity}
use Rattle.model.specs.declared.Screen.{Screen}

-- "The table that the hub makes is accepted"
pub made-accepted : (s policy : List ℕ) → validity s ≡ pass → policy_right policy ≡ true → check_answer s policy (least_table permit_all policy (records s)) ≡ done tt
made-accepted s policy v p = let wf = valid-wf s v in
    accept s policy (least_table permit_all policy (records s))
    (record { valid = v; policy-right = p; table-right = least-table-right permit_all policy wf; holding = least-table-holds permit_all policy wf })

-- "and lies inside every other table accepted for the same itinerary and policy"
pub made_inside : (s policy table : List ℕ) → check_answer s policy table ≡ done tt → (j : ℕ) → j < 12352 → bits (least_table permit_all policy (records s)) j ≡ true → bits table j ≡ true
made_inside s policy table h = let w = accepted s policy table h in least-table-below permit_all policy (valid-wf s w.valid) (bits table) w.holding

-- the call that makes a table: where it is done, the table it leaves is accepted
pub make-done : (s policy table : List ℕ) (n : ℕ) → make_answer s policy table ≡ done n →
    (check_answer s policy (make_after s policy table) ≡ done tt) × (n ≡ total (make_after s policy table))
unfolding make_answer make_after making entry content
make-done s policy table n h =
    let c : making s policy table ≡ pass = answer-done (making s policy table) _ n h in
    let a = made-accepted s policy (search passes) (search passes) in (
      rw (c, content) a,
      rw (c, content) (sym (answer-value (making s policy table) (total (least_table permit_all policy (records s))) n h)),
    )

-- what hubscreen shows: the verdict is that of the verdict call, which "runs the check first", on the table made
pub screen-verdict : (s policy script answers : List ℕ) (x : Screen) → screen_answer s policy script answers ≡ done x →
    verdict_answer s policy (least_table permit_all policy (records s)) ≡ done x.verdict
unfolding screen_answer screening entry verdict_answer check_answer answer
screen-verdict s policy script answers x h =
    let a = answer-done (screening s policy script answers) _ x h in
    let c = answer-done (checking s policy (least_table permit_all policy (records s))) _ tt (made-accepted s policy (search passes) (search passes)) in
    rw (c, answer) (ap (λ (y : Screen). done y.verdict) (answer-value (screening s policy script answers) _ x h))
