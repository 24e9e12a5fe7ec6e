-- The text that is filled is the one shown, for a screen that is done and for one that is refused.
use Rattle.std.specs.Prelude.{◌+◌, ◌≤◌, ℕ, drop, length, List, [], ◌≡◌}
use Rattle.std.specs.Prelude.{Result, Ok, Err}
use Rattle.std.proofs.Common.{length-append, length-drop, ◌∙◌, arith}
use Rattle.std.proofs.Math.Path.{ap, sym}
use Rattle.listing.specs.Lines.{shown}
use Rattle.listing.specs.Short.{done-short, shown-short}
use Rattle.model.specs.Calls.{screen_answer, screen_answers}
use Rattle.model.specs.Listing.{listing, step_lines}
use Rattle.model.specs.Numbers.{answer_as, refusal}
use Rattle.model.specs.Refusals.{done}
use Rattle.model.specs.Scripts.{steps_in}
use Rattle.model.specs.declared.Refusal.{Refusal}
use Rattle.model.specs.declared.Screen.{Screen}
use Rattle.text_put.specs.Laws.{put_as, put-over}
use Rattle.text_put.specs.Puts.{Put, over}

module _ (s policy z a : List ℕ) (r : Result Screen Refusal) (e : answer_as r ≡ screen_answer s policy z a) where
  module _ (x : Screen) (d : r ≡ Ok x) (a' : List ℕ) (f : a' ≡ screen_answers s policy z a) where
    is-done : screen_answer s policy z a ≡ done x
    unfolding answer_as
    is-done = sym e ∙ ap answer_as d

    -- there is room for all lines of a screen that is done
    pub room-done : (n : ℕ) → 15408 ≤ n → 48 + length (step_lines (steps_in z) a' []) ≤ n
    room-done n h = rw f (omega (arith, done-short s policy z a x is-done))

    pub text-done : {t t' : List ℕ} {n : ℕ} → Put t 0 (listing (done x) (steps_in z) a') t' n → (n ≡ length (shown s policy z a)) × (t' ≡ over (shown s policy z a) t)
    unfolding shown
    text-done p = put-over (put_as (rw (f, is-done)) p)

  pub text-refused : (y : Refusal) → r ≡ Err y → {t t' : List ℕ} {n : ℕ} → Put t 0 (listing (refusal y) [] []) t' n →
      (n ≡ length (shown s policy z a)) × (t' ≡ over (shown s policy z a) t)
  unfolding shown answer_as refusal listing
  text-refused y d p = put-over (put_as (ap (λ u. listing u (steps_in z) (screen_answers s policy z a)) (sym (ap answer_as d) ∙ e)) p)

-- the text keeps its length
pub text-sized : (s policy z a t : List ℕ) {t' : List ℕ} → t' ≡ over (shown s policy z a) t → 15408 ≡ length t → 15408 ≡ length t'
unfolding over
text-sized s policy z a t e h =
    let w = shown s policy z a in
    omega (arith, ap length e, length-append w (drop (length w) t), length-drop (length w) t, shown-short s policy z a)
