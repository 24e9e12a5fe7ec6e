-- The call's sequence where nothing is joined yet: behind 16 what is joined is valid, so that the check of the joined bytes starts with
-- 7, and whether the table holds is asked of the records.
use Rattle.std.specs.Prelude.{◌≤◌, ℕ, leb, length, true, List, [], ◌∷◌, ◌≡◌, refl}
use Rattle.std.proofs.Common.{leb-true, ◌∙◌, ap, sym}
use Rattle.joins.specs.Joined.{join-records, join-valid}
use Rattle.model.specs.Analysis.{holds, permit_all}
use Rattle.model.specs.Calls.{checking, comparing, entry, joining}
use Rattle.model.specs.Joins.{join, join_bytes, members_check, set_right}
use Rattle.model.specs.Refusals.{Check, ◌▸◌, and_then, need, pass, refuse}
use Rattle.model.specs.Requests.{Valid}
use Rattle.model.specs.Tables.{bits, parts, policy_right, table_right}
use Rattle.model.specs.Validity.{validity}
use Rattle.model.proofs.Laws.Booleans.{and_left}
use Rattle.model.proofs.Laws.Checks.{need-pass, then-pass}

-- checks in sequence, grouped otherwise
then-then : (a b c : Check) → and_then a (and_then b c) ≡ and_then (and_then a b) c
unfolding and_then
then-then pass b c = refl
then-then (refuse n r) b c = refl

-- what comes next is looked at only behind a pass
then-same : (a b c : Check) → (a ≡ pass → b ≡ c) → and_then a b ≡ and_then a c
unfolding and_then
then-same pass b c f = f refl
then-same (refuse n r) b c f = refl

pub members-valid : (members : List (List ℕ)) → members_check members ≡ pass → Valid members
unfolding members_check
members-valid [] h = tt
members-valid (s ∷ ss) h = let w = then-pass (validity s) (members_check ss) h in (w.0, members-valid ss w.1)

pub set-few : (members : List (List ℕ)) (buffer : List ℕ) → set_right members buffer ≡ true → length (join members) ≤ 1024
unfolding set_right
set-few members buffer h = leb-true _ _ (and_left (leb (length (join members)) 1024) _ h)

-- the sequence where nothing is joined: what is joined is valid behind 16
pub by_members : {k : Check} (policy table buffer : List ℕ) (members : List (List ℕ)) →
    k
    ≡ (members_check members
    ▸ need (set_right members buffer) 16 0
    ▸ need (policy_right policy) 7 0
    ▸ need (table_right table) 8 0
    ▸ need (holds permit_all policy (join members) (parts (bits table))) 9 0) →
    k ≡ joining members policy table buffer
unfolding joining checking comparing entry and_then
by_members policy table buffer members e =
    let front = members_check members ▸ need (set_right members buffer) 16 0 in
    let seven = need (policy_right policy) 7 0 in
    let eight = need (table_right table) 8 0 in
    let nine = need (holds permit_all policy (join members) (parts (bits table))) 9 0 in
    e
    ∙ sym (then-same front (checking (join_bytes members) policy table) (seven ▸ eight ▸ nine) checked
    ∙ then-then front (seven ▸ eight) nine
    ∙ ap (λ k. k ▸ nine) (then-then front seven eight))
  where
    checked : (members_check members ▸ need (set_right members buffer) 16 0) ≡ pass →
        checking (join_bytes members) policy table
        ≡ (need (policy_right policy) 7 0 ▸ need (table_right table) 8 0 ▸ need (holds permit_all policy (join members) (parts (bits table))) 9 0)
    checked h =
        let w = then-pass (members_check members) _ h in
        rw ((join-valid members (members-valid members w.0) (set-few members buffer (need-pass _ 16 0 w.1))).0, and_then)
        (ap (λ t. need (policy_right policy) 7 0 ▸ need (table_right table) 8 0 ▸ need t 9 0)
        (ap (λ its. holds permit_all policy its (parts (bits table))) (join-records members)))
