-- The hypotheses of noninterference can be met: two different benches, a table, and a list of events with a shown step
-- done, a hidden step done, a refused step, a script, and a run refused with 13.
use Rattle.std.specs.Prelude.{ℕ, get_or, length, true, List, [], ◌∷◌, ◌≡◌, refl}
use Rattle.std.proofs.Common.{ap, arith}
use Rattle.examples.specs.Claims.{classes, is_in, rec}
use Rattle.examples.specs.Listed.{all_below, computing}
use Rattle.examples.specs.Tabled.{accepting, formed, judging, showing-alike, table_of}
use Rattle.model.specs.Analysis.{permit_all, holds}
use Rattle.model.specs.Calls.{check_answer}
use Rattle.model.proofs.Laws.Secrecy.{noninterference}
use Rattle.model.specs.Noninterference.{Event, Noninterference, all_steps, given, script, single}
use Rattle.model.specs.Observer.{sheet}
use Rattle.model.specs.Records.{records}
use Rattle.model.specs.Refusals.{done, pass}
use Rattle.model.specs.Tables.{parts, place_h, place_i, place_s}
use Rattle.model.specs.Validity.{validity}
use Rattle.model.specs.Verdicts.{verdict_of}
use Rattle.model.specs.declared.Verdict.TheVariants.{Sealed}

-- below the boundary 1: the high ambient 2, which holds an ambient 5 and, in the first bench, the capability to open it;
-- in the open: the ambients 3 and 4, and in 4 the capability to enter 3
unfoldable pub shown_rest : List ℕ
shown_rest = rec 1 3 2 0 (rec 1 4 3 0 (rec 2 65 2 6 []))

unfoldable pub bench_x : List ℕ
bench_x = rec 1 1 0 0 (rec 1 2 1 1 (rec 1 5 5 2 (rec 4 64 5 2 shown_rest)))

unfoldable pub bench_y : List ℕ
bench_y = rec 1 1 0 0 (rec 1 2 1 1 (rec 1 5 5 2 (rec 0 0 0 0 shown_rest)))

unfoldable pub bits_w : List ℕ
unfolding computing
bits_w =
    place_i 0 1 ∷ place_i 1 2 ∷ place_i 2 5 ∷ place_i 2 64 ∷ place_i 0 3 ∷ place_i 0 4 ∷ place_i 4 65 ∷ place_i 3 4
    ∷ place_h 1 0 ∷ place_h 2 1 ∷ place_h 5 5 ∷ place_h 3 2 ∷ place_h 4 3 ∷ place_s 2 ∷ []

abbrev pub table_w : List ℕ
table_w = table_of bits_w

-- the shown step (7,5), the hidden step (4,3), a refused step, the script (7,5), and a script with no room for its answer
unfoldable pub events_w : List Event
events_w = single 7 5 ∷ single 4 3 ∷ single 1 1 ∷ script (7 ∷ 0 ∷ 5 ∷ 0 ∷ []) 1 ∷ script (4 ∷ 0 ∷ 3 ∷ 0 ∷ []) 0 ∷ []

small-W : all_below 12352 bits_w ≡ true
unfolding computing all_below bits_w
small-W = refl

accepted-W : (s : List ℕ) → validity s ≡ pass → holds permit_all classes (records s) (parts (is_in bits_w)) ≡ true → check_answer s classes table_w ≡ done tt
unfolding computing bits_w formed
accepted-W = accepting bits_w small-W classes refl refl

accepted-X : check_answer bench_x classes table_w ≡ done tt
unfolding computing shown_rest bench_x bits_w
accepted-X = accepted-W bench_x refl refl

accepted-Y : check_answer bench_y classes table_w ≡ done tt
unfolding computing shown_rest bench_y bits_w
accepted-Y = accepted-W bench_y refl refl

sealed-W : verdict_of (parts (is_in bits_w)) classes ≡ Sealed
unfolding computing bits_w
sealed-W = refl

sheets-W : sheet (records bench_x) (λ k. is_in bits_w (place_s k)) ≡ sheet (records bench_y) (λ k. is_in bits_w (place_s k))
unfolding computing bits_w shown_rest bench_x bench_y
sheets-W = refl

-- the theorem at this pair
pub witness : Noninterference classes table_w bench_x bench_y events_w
unfolding rec bench_x bench_y shown_rest
witness = noninterference classes table_w bench_x bench_y refl accepted-X accepted-Y (judging bits_w small-W classes bench_x Sealed accepted-X sealed-W) (showing-alike bits_w small-W bench_x bench_y sheets-W) events_w

-- the benches differ, and so do the answers to the hidden step alone
pub different : bench_x ≡ bench_y → ⊥
unfolding rec bench_x bench_y shown_rest
different e = let u : ◌≡◌ {A = ℕ} 4 0 = ap (λ l. get_or l 24 0) e in absurd (omega arith)

pub answers-X : given bench_x events_w ≡ 0 ∷ 0 ∷ 10 ∷ 10 ∷ []
unfolding computing shown_rest bench_x bench_y events_w
answers-X = refl

pub answers-Y : given bench_y events_w ≡ 0 ∷ 10 ∷ 10 ∷ 10 ∷ []
unfolding computing shown_rest bench_x bench_y events_w
answers-Y = refl

-- four steps in all: the run refused with 13 stands for none
pub steps-W : length (all_steps events_w) ≡ 4
unfolding computing events_w
steps-W = refl
