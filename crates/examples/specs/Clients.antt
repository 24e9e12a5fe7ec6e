-- Two clients on one bench, screened once for each. Below the boundary 1 stands the first client's recipe, the ambient 2,
-- and below the boundary 3 the second's, the ambient 4; beside them stands an ambient 5 that enters 6. For the first client
-- 4 is high and its own labels are low, for the second 2 is high.
use Rattle.std.specs.Prelude.{ℕ, get_or, replicate, true, List, [], ◌∷◌, ◌≡◌, refl}
use Rattle.std.proofs.Common.{ap, arith}
use Rattle.examples.specs.Claims.{classes, is_in, rec}
use Rattle.examples.specs.Listed.{all_below, computing}
use Rattle.examples.specs.Tabled.{accepting, formed, judging, showing-alike, table_of}
use Rattle.model.specs.Analysis.{permit_all, holds}
use Rattle.model.specs.Calls.{check_answer}
use Rattle.model.specs.Finite.{Each}
use Rattle.model.proofs.Laws.Secrecy.{every-client}
use Rattle.model.specs.Noninterference.{Client, Event, KeptFrom, Noninterference, ScreenedFor}
use Rattle.model.specs.Observer.{sheet}
use Rattle.model.specs.Records.{records}
use Rattle.model.specs.Refusals.{done, pass}
use Rattle.model.specs.Tables.{parts, place_h, place_i, place_s}
use Rattle.model.specs.Validity.{validity}
use Rattle.model.specs.Verdicts.{verdict_of}
use Rattle.model.specs.declared.Verdict.TheVariants.{Sealed}

-- the bench: each recipe holds an ambient and a capability; the second client's capability is of this kind
unfoldable pub shared : ℕ → List ℕ
shared kind =
    rec 1 1 0 0 (rec 1 2 1 1 (rec 1 7 7 2 (rec 4 64 7 2 (rec 1 3 2 0 (rec 1 4 3 5 (rec 1 8 8 6 (rec kind 65 8 6 (rec 1 5 4 0 (rec 2 66 6 9 (rec 1 6 6 0 []))))))))))

-- as it is: the second client's recipe opens the ambient in it
unfoldable pub bench : List ℕ
bench = shared 4

-- another bench, which the first client can't tell from it: the second client's recipe has the capability out instead
unfoldable pub other : List ℕ
other = shared 3

-- what may stand where and which names are borne, for both clients
unfoldable pub common : List ℕ
unfolding computing
common =
    place_i 0 1 ∷ place_i 1 2 ∷ place_i 2 7 ∷ place_i 2 64 ∷ place_i 0 3 ∷ place_i 3 4 ∷ place_i 4 8 ∷ place_i 4 65 ∷ place_i 0 5 ∷ place_i 5 66 ∷ place_i 0 6 ∷ place_i 6 5
    ∷ place_h 1 0 ∷ place_h 2 1 ∷ place_h 7 7 ∷ place_h 3 2 ∷ place_h 4 3 ∷ place_h 8 8 ∷ place_h 5 4 ∷ place_h 6 6 ∷ []

-- for the first client 3 is a boundary and 4 high, for the second 1 is a boundary and 2 high (`classes`)
unfoldable pub first_policy : List ℕ
first_policy = 0 ∷ 0 ∷ 0 ∷ 2 ∷ 1 ∷ replicate 59 0

unfoldable pub bits_for : ℕ → List ℕ
unfolding computing
bits_for suspect = place_s suspect ∷ common

unfoldable pub clients : List Client
clients = record { policy = first_policy; table = table_of (bits_for 4) } ∷ record { policy = classes; table = table_of (bits_for 2) } ∷ []

small-first : all_below 12352 (bits_for 4) ≡ true
unfolding computing all_below bits_for common
small-first = refl

small-second : all_below 12352 (bits_for 2) ≡ true
unfolding computing all_below bits_for common
small-second = refl

accepted-first : (s : List ℕ) → validity s ≡ pass → holds permit_all first_policy (records s) (parts (is_in (bits_for 4))) ≡ true → check_answer s first_policy (table_of (bits_for 4)) ≡ done tt
unfolding computing first_policy bits_for common formed
accepted-first = accepting (bits_for 4) small-first first_policy refl refl

accepted-bench : check_answer bench first_policy (table_of (bits_for 4)) ≡ done tt
unfolding computing first_policy bits_for common bench shared
accepted-bench = accepted-first bench refl refl

accepted-other : check_answer other first_policy (table_of (bits_for 4)) ≡ done tt
unfolding computing first_policy bits_for common other shared
accepted-other = accepted-first other refl refl

accepted-second : check_answer bench classes (table_of (bits_for 2)) ≡ done tt
unfolding computing bits_for common formed bench shared
accepted-second = accepting (bits_for 2) small-second classes refl refl bench refl refl

sealed-first : verdict_of (parts (is_in (bits_for 4))) first_policy ≡ Sealed
unfolding computing first_policy bits_for common
sealed-first = refl

sealed-second : verdict_of (parts (is_in (bits_for 2))) classes ≡ Sealed
unfolding computing bits_for common
sealed-second = refl

-- the bench is screened for both
pub screened : Each (ScreenedFor bench) clients
unfolding clients
screened = (
  record { accepted = accepted-bench; sealed = judging (bits_for 4) small-first first_policy bench Sealed accepted-bench sealed-first },
  (record { accepted = accepted-second; sealed = judging (bits_for 2) small-second classes bench Sealed accepted-second sealed-second }, tt),
)

-- and so each client is kept from the other's recipe
pub kept-from-each : Each (KeptFrom bench) clients
kept-from-each = every-client bench clients screened

sheets-first : sheet (records bench) (λ k. is_in (bits_for 4) (place_s k)) ≡ sheet (records other) (λ k. is_in (bits_for 4) (place_s k))
unfolding computing bits_for common bench other shared
sheets-first = refl

-- the first client can't tell whether the second's recipe opens or goes out, whatever is done
pub first-client : (es : List Event) → Noninterference first_policy (table_of (bits_for 4)) bench other es
unfolding clients bench other shared rec
first-client es = kept-from-each.0 other refl accepted-other (showing-alike (bits_for 4) small-first bench other sheets-first) es

-- the two benches differ
pub benches-differ : bench ≡ other → ⊥
unfolding bench other shared rec
benches-differ e = let u : ◌≡◌ {A = ℕ} 4 3 = ap (λ l. get_or l 56 0) e in absurd (omega arith)
