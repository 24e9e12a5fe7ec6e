-- A least table given by the list of its bits: the list holds, and each bit is forced.
use Rattle.std.specs.Prelude.{◌%◌, ◌/◌, ◌<◌, ◌≤◌, suc, ℕ, eqb, leb, length, Bool, ◌&&◌, false, true, List, [], ◌∷◌, ◌≡◌, refl}
use Rattle.std.proofs.Common.{eqb-true, leb-true, true≢false, ◌∙◌, subst, sym, arith}
use Rattle.std.specs.Int.Count.{ones, ones_in}
use Rattle.std.proofs.Math.ListN.{get_or-eq_default}
use Rattle.std.proofs.Math.Bool.{beq}
use Rattle.std.proofs.Math.Path.{ap, ap₂, fun_ext}
use Rattle.std.proofs.Math.Decide.{dec_lt}
use Rattle.examples.specs.Claims.{Meets, all_low, blank_table, classes, is_in, itinerary_a, itinerary_b, itinerary_c, itinerary_d, itinerary_e, itinerary_f, itinerary_g, itinerary_h, makes, rec, records_a, suspecting}
use Rattle.model.specs.Analysis.{permit_all, holds, only_if, record_holds, rule_holds, rules_hold}
use Rattle.model.specs.Calls.{check_answer, checking, comparing, entry, make_after, make_answer, making, outcome_check, run_after, run_answers, running, screen_answer, screen_answers, screening, step_after, step_answer, stepping, validate_answer, verdict_answer}
use Rattle.model.specs.Climbing.{ambient_and, hides, is_suspect, labelled, reaches, view, view_from}
use Rattle.model.specs.Finite.{Each, one_if, every, lowest, some_of, tabulate, tally}
use Rattle.model.proofs.Laws.Bit.{zero_bit}
use Rattle.model.proofs.Laws.Bytes.{valid-wf}
use Rattle.model.proofs.Laws.Checks.{all_pass, answer-done}
use Rattle.model.proofs.Laws.Booleans.{and_left, and_right, beq-eq}
use Rattle.model.proofs.Laws.Finite.{every-use}
use Rattle.model.proofs.Laws.Holding.{Holds, holds-sound}
use Rattle.model.proofs.Laws.Least.{least-table-is}
use Rattle.model.proofs.Laws.Made.{made-accepted}
use Rattle.model.proofs.Laws.Sets.{bits-bytes, bytes-narrow, length-bytes}
use Rattle.model.specs.Least.{bytes, least_table, numeral}
use Rattle.model.specs.Listing.{content_of, digits_in, end_line, end_word, field, last_field, listing, refused_word, step_lines, verdict_word}
use Rattle.model.specs.Noninterference.{after, after_event, all_steps, given, given_by, kept, steps_of, without_copying}
use Rattle.model.specs.Observer.{on_sheet, sheet}
use Rattle.model.specs.Records.{at, byte_of, capability, count, decode, encode, is_ambient, nested, records, update_from}
use Rattle.model.specs.Refusals.{and_then, answer, content, done, each_of, need, pass}
use Rattle.model.specs.Scripts.{after_list, answers_of, counts_of, done_by, how_many, kind_of, not_gone, step_in, steps_in, outcomes, script_right}
use Rattle.model.specs.Steps.{answer_of, decide, dissolve, dissolved, fit, move, outcome, outcome_by, place, placed, ready, rewritten, stands, step_bytes}
use Rattle.model.specs.Tables.{bit_at, bits, is_boundary, is_high, parts, place_h, place_i, place_s, policy_right, table_sized, test_bit, total}
use Rattle.model.specs.Validity.{blank, client_right, climb_check, form, gone_right, kind_right, label_by, label_in, label_right, name_by, name_right, parent_right, record_check, size_right, spare_right, validity}
use Rattle.model.specs.Verdicts.{alike, growing, grown, in_r, joins, marked, opening, reached, verdict_by, verdict_of}
use Rattle.model.specs.Numbers.{label_of}
use Rattle.model.specs.declared.Verdict.{Verdict}

-- what the examples compute with: to unfold this is to unfold all that its line names
unfoldable pub computing : ℕ
unfolding form entry comparing size_right kind_right spare_right client_right blank gone_right label_in label_by label_right name_by name_right parent_right record_check climb_check validity count byte_of decode records tabulate at is_ambient nested view_from reaches need and_then each_of view labelled capability every only_if rule_holds rules_hold record_holds holds is_high place_i place_h place_s is_in some_of lowest marked alike joins grown growing reached opening in_r is_boundary verdict_by verdict_of encode update_from ambient_and placed place dissolved dissolve ready stands fit move decide outcome_by outcome answer_of rewritten step_bytes outcome_check stepping step_answer step_after answer content step_in steps_in script_right after_list outcomes answers_of running run_after run_answers after_event after kept steps_of all_steps given_by given without_copying hides is_suspect sheet on_sheet policy_right total bytes numeral one_if ones ones_in validate_answer screening tally not_gone counts_of how_many done_by kind_of screen_answers content_of digits_in field last_field verdict_word end_word refused_word step_lines end_line listing label_of rec classes all_low records_a itinerary_a itinerary_b itinerary_c itinerary_d itinerary_e itinerary_f itinerary_g itinerary_h
computing = 0

unfoldable pub all_below : ℕ → List ℕ → Bool
all_below n [] = true
all_below n (x ∷ xs) = leb (suc x) n && all_below n xs

in-each : (P : ℕ → Type 0) (xs : List ℕ) → Each P xs → (j : ℕ) → is_in xs j ≡ true → P j
unfolding is_in
in-each P [] w j h = absurd (true≢false (sym h))
in-each P (x ∷ xs) w j h = go (eqb j x) refl (in-each P xs w.1 j)
  where
    go : (t : Bool) → eqb j x ≡ t → (is_in xs j ≡ true → P j) → P j
    go true e ih = subst P (sym (eqb-true j x e)) w.0
    go false e ih = ih (rw (e, is_in) at h)

in-below : (n : ℕ) (xs : List ℕ) → all_below n xs ≡ true → (j : ℕ) → is_in xs j ≡ true → j < n
unfolding all_below is_in
in-below n [] b j h = absurd (true≢false (sym h))
in-below n (x ∷ xs) b j h = go (eqb j x) refl (in-below n xs (and_right (leb (suc x) n) _ b) j)
  where
    go : (t : Bool) → eqb j x ≡ t → (is_in xs j ≡ true → j < n) → j < n
    go true e ih = omega (arith, eqb-true j x e, leb-true (suc x) n (and_left _ _ b))
    go false e ih = ih (rw (e, is_in) at h)

-- the bytes of a list of bits have just these bits
pub bits-listed : (xs : List ℕ) → all_below 12352 xs ≡ true → bits (bytes 1544 (is_in xs)) ≡ is_in xs
unfolding bit_at
bits-listed xs b = fun_ext (λ j. go j (dec_lt j 12352))
  where
    none : (j : ℕ) → 12352 ≤ j → (t : Bool) → is_in xs j ≡ t → t ≡ false
    none j l false e = refl
    none j l true e = absurd (omega (arith, in-below 12352 xs b j e))

    go : (j : ℕ) → Dec (j < 12352) → bits (bytes 1544 (is_in xs)) j ≡ is_in xs j
    go j (yes l) = bits-bytes (is_in xs) 1544 j (omega arith)
    go j (no l) =
        ap (λ v. test_bit v (j % 8)) (get_or-eq_default (bytes 1544 (is_in xs)) 0 {n = j / 8} (omega (arith, length-bytes (is_in xs) 1544)))
        ∙ zero_bit (j % 8) ∙ sym (none j (omega arith) (is_in xs j) refl)

-- a list of bits that holds, and that every table that holds has, is the least table
pub listed : (s policy : List ℕ) → validity s ≡ pass → (xs : List ℕ) → all_below 12352 xs ≡ true → holds permit_all policy (records s) (parts (is_in xs)) ≡ true →
    ((u : ℕ → Bool) → Holds permit_all policy (records s) (parts u) → Each (λ j. u j ≡ true) xs) → least_table permit_all policy (records s) ≡ bytes 1544 (is_in xs)
listed s policy v xs b h f = let wf = valid-wf s v in
    sym (least-table-is permit_all policy wf (bytes 1544 (is_in xs)) (length-bytes (is_in xs) 1544) (bytes-narrow (is_in xs) 1544)
    (subst (λ u. Holds permit_all policy (records s) (parts u)) (sym (bits-listed xs b)) (holds-sound permit_all policy (records s) (parts (is_in xs)) h))
    (λ u g j l e. in-each (λ i. u i ≡ true) xs (f u g) j (sym (ap (λ w. w j) (bits-listed xs b)) ∙ e)))

-- an example whose least table is listed
pub record Listed (s policy xs : List ℕ) (ones : ℕ) (verdict : Verdict) : Type 0 where
  pub valid : validity s ≡ pass
  pub policy-right : policy_right policy ≡ true
  pub small : all_below 12352 xs ≡ true
  pub holding : holds permit_all policy (records s) (parts (is_in xs)) ≡ true
  pub forced : (u : ℕ → Bool) → Holds permit_all policy (records s) (parts u) → Each (λ j. u j ≡ true) xs
  pub counted : total (bytes 1544 (is_in xs)) ≡ ones
  pub judged : verdict_of (parts (is_in xs)) policy ≡ verdict

module _ {s policy xs : List ℕ} {ones : ℕ} {verdict : Verdict} (w : Listed s policy xs ones verdict) where
  table_is : least_table permit_all policy (records s) ≡ bytes 1544 (is_in xs)
  table_is = listed s policy w.valid xs w.small w.holding w.forced

  making-passes : making s policy blank_table ≡ pass
  unfolding making entry table_sized blank_table
  making-passes = search all_pass depth 12

  made-is : make_after s policy blank_table ≡ least_table permit_all policy (records s)
  unfolding make_after content
  made-is = rw (making-passes, content)

  check-passes : (t : List ℕ) → t ≡ least_table permit_all policy (records s) → checking s policy t ≡ pass
  unfolding check_answer
  check-passes t e =
      let h : check_answer s policy t ≡ done tt = rw e (made-accepted s policy w.valid w.policy-right) in
      answer-done (checking s policy t) _ _ h

  pub listed-makes : Meets (makes s policy ones verdict)
  unfolding Meets make_answer verdict_answer answer check_answer
  listed-makes = (
    ap₂ answer making-passes (ap total table_is ∙ w.counted),
    ap₂ answer (check-passes (make_after s policy blank_table) made-is)
        (ap (λ t. verdict_of (parts (bits t)) policy) (made-is ∙ table_is) ∙ ap (λ u. verdict_of (parts u) policy) (bits-listed xs w.small) ∙ w.judged),
  )

  pub listed-suspects : (labels : List ℕ) → every 64 (λ k. true) (λ k. beq (is_in xs (place_s k)) (is_in labels k)) ≡ true → Meets (suspecting s policy labels)
  unfolding Meets
  listed-suspects labels h k l =
      ap (λ t. bits t (place_s k)) (made-is ∙ table_is) ∙ ap (λ u. u (place_s k)) (bits-listed xs w.small)
      ∙ beq-eq _ _ (every-use (λ j. true) (λ j. beq (is_in xs (place_s j)) (is_in labels j)) 64 h k l refl)

  -- what the screen returns where its script is right
  pub listed-screen : (z answers : List ℕ) → script_right z (length answers) ≡ true →
      screen_answer s policy z answers ≡ done (record {
        verdict = verdict;
        ones = ones;
        counts = counts_of (outcomes permit_all s (steps_in z));
        records = not_gone (records (after_list permit_all s (steps_in z)));
      })
  unfolding screen_answer screening entry answer
  listed-screen z answers e =
      let c : screening s policy z answers ≡ pass = search all_pass depth 12 in
      let v : verdict_of (parts (bits (least_table permit_all policy (records s)))) policy ≡ verdict =
      ap (λ t. verdict_of (parts (bits t)) policy) table_is ∙ ap (λ u. verdict_of (parts u) policy) (bits-listed xs w.small) ∙ w.judged in
      rw (c, answer, v, ap total table_is ∙ w.counted)
