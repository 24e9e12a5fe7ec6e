-- What hublist writes: the listing by the table that it makes, and nothing where the maker or the listing refuses.
use Rattle.std.specs.Prelude.{Result, Ok, Err}
use Rattle.std.specs.Prelude.{◌≤◌, ℕ, length, ◌≡◌, refl}
use mathlib.Core.List.{List, []}
use Rattle.std.proofs.Common.{◌∙◌, sym, arith}
use Rattle.std.proofs.Math.Path.{ap}
use Rattle.model.specs.Calls.{make_after, make_answer, making}
use Rattle.model.proofs.Laws.Checks.{answer-done, answer-refused, then-pass}
use Rattle.model.specs.Numbers.{answer_as, number_of, refusal}
use Rattle.model.specs.Records.{records}
use Rattle.model.specs.Refusals.{and_then, pass, refuse}
use Rattle.model.specs.Tables.{suspects}
use Rattle.model.specs.declared.Refusal.{Refusal}
use Rattle.text_put.specs.Puts.{over}
use Rattle.text_form.specs.Laws.Room.{list-short, or_short}
use Rattle.text_form.specs.Writing.{list_of, listable, text_or}

-- the listing by the table made, after the maker's checks and its own
unfoldable pub listed : List ℕ → List ℕ → List ℕ → List ℕ
listed s policy table =
    let after = make_after s policy table in
    text_or [] (and_then (making s policy table) (listable s after)) (list_of (records s) (suspects after))

-- a listing by any table has room
pub room_for : (s table : List ℕ) → listable s table ≡ pass → length (list_of (records s) (suspects table)) ≤ 1079296
unfolding listable
room_for s table h = list-short s (then-pass _ _ h).0 (suspects table)

module _ (s policy table : List ℕ) where
  pub listed-fits : {n : ℕ} → n ≡ length (listed s policy table) → n ≤ 1079296
  unfolding listed
  listed-fits e =
      let after = make_after s policy table in
      let c = and_then (making s policy table) (listable s after) in
      omega (arith, or_short [] c (list_of (records s) (suspects after)) 1079296 (omega arith) (λ h. room_for s after (then-pass _ _ h).1))

  module _ (r : Result ℕ Refusal) (e : answer_as r ≡ make_answer s policy table) where
    pub made-refused : (x : Refusal) → r ≡ Err x → {n : ℕ} → n ≡ 0 → (t : List ℕ) → (n ≡ length (listed s policy table)) × (t ≡ over (listed s policy table) t)
    unfolding listed answer_as refusal make_answer text_or and_then over
    made-refused x d z t =
        let c : making s policy table ≡ refuse (number_of x.cause) x.«record» = answer-refused (making s policy table) _ (sym e ∙ ap answer_as d) in
        rw (c, and_then) (z, refl)

    pub made-done : (k : ℕ) → r ≡ Ok k → (table' t : List ℕ) {t' : List ℕ} {n : ℕ} → table' ≡ make_after s policy table →
        (n ≡ length (text_or [] (listable s table') (list_of (records s) (suspects table')))) × (t' ≡ over (text_or [] (listable s table') (list_of (records s) (suspects table'))) t) →
        (n ≡ length (listed s policy table)) × (t' ≡ over (listed s policy table) t)
    unfolding listed answer_as make_answer and_then
    made-done k d table' t f y =
        let c : making s policy table ≡ pass = answer-done (making s policy table) _ k (sym e ∙ ap answer_as d) in
        rw (c, and_then) (rw f at y)
