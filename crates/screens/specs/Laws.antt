-- What a screen that passes its checks returns and leaves, from what its four parts do.
use Rattle.std.specs.Prelude.{◌%◌, ◌≤◌, ℕ, length, List, ◌≡◌}
use Rattle.std.proofs.Common.{◌∙◌}
use Rattle.std.proofs.Math.Path.{ap}
use Rattle.model.specs.Analysis.{permit_all}
use Rattle.model.specs.Calls.{screen_after, screen_answer, screen_answers, screening}
use Rattle.model.proofs.Laws.Bytes.{valid-few, valid-whole}
use Rattle.model.proofs.Laws.Checks.{content-new, done-answer}
use Rattle.model.proofs.Laws.Done.{list-valid}
use Rattle.model.specs.Least.{least_table}
use Rattle.model.specs.Records.{records}
use Rattle.model.specs.Refusals.{done, pass}
use Rattle.model.specs.Scripts.{after_list, answers_of, counts_of, not_gone, outcomes, steps_in}
use Rattle.model.specs.Tables.{bits, parts, total}
use Rattle.model.specs.Validity.{validity}
use Rattle.model.specs.Verdicts.{verdict_of}
use Rattle.model.specs.declared.Screen.{Screen}

-- an itinerary after a script has whole records, and not too many
pub run-sized : (s z s' : List ℕ) → validity s ≡ pass → s' ≡ after_list permit_all s (steps_in z) → (length s' % 8 ≡ 0) × (length s' ≤ 8192)
run-sized s z s' v e = let w = list-valid permit_all (steps_in z) s v in (rw e (valid-whole _ w), rw e (valid-few _ w))

module _ (s policy z a : List ℕ) where
  pub screen-done : screening s policy z a ≡ pass → (x : Screen) (t s' a' : List ℕ) → t ≡ least_table permit_all policy (records s) → x.ones ≡ total t →
      x.verdict ≡ verdict_of (parts (bits t)) policy →
      (x.counts ≡ counts_of (outcomes permit_all s (steps_in z))) × (s' ≡ after_list permit_all s (steps_in z)) × (a' ≡ answers_of permit_all s (steps_in z)) →
      x.records ≡ not_gone (records s') → (done x ≡ screen_answer s policy z a) × (s' ≡ screen_after s policy z a) × (a' ≡ screen_answers s policy z a)
  unfolding screen_answer screen_after screen_answers
  screen-done e x t s' a' et eo ev w el =
      let ones : x.ones ≡ total (least_table permit_all policy (records s)) = eo ∙ ap total et in
      let verdict : x.verdict ≡ verdict_of (parts (bits (least_table permit_all policy (records s)))) policy = ev ∙ ap (λ y. verdict_of (parts (bits y)) policy) et in
      let left : x.records ≡ not_gone (records (after_list permit_all s (steps_in z))) = el ∙ ap (λ y. not_gone (records y)) w.1 in (
        done-answer _ e (λ i. record { verdict = verdict i; ones = ones i; counts = w.0 i; records = left i }),
        w.1 ∙ content-new _ _ e,
        w.2 ∙ content-new _ _ e,
      )
