-- Clients. A step gives each record that stays another parent at most, so that its client stays with it. Whether a table holds is
-- said of kinds, labels, names and parents, so that it holds for records without their clients exactly where it holds for them,
-- and the least of all tables that hold is the same. A sheet shows a record whole or not at all.
use Rattle.std.specs.Prelude.{suc, zero, ℕ, get_or, length, map, Bool, ◌&&◌, false, true, List, [], ◌∷◌, ◌≢◌, ◌≡◌, refl}
use Rattle.std.specs.Prelude.{Option, None, Some}
use Rattle.std.proofs.lemmas.List.{length-map}
use Rattle.std.proofs.Common.{◌∙◌, ap, ap₂, sym}
use Rattle.std.proofs.Math.Decide.{ℕ_discrete}
use Rattle.model.specs.Analysis.{Permit, holds, only_if, permit_all, record_holds, rules_hold}
use Rattle.model.specs.Calls.{check_answer, checking, comparing, entry, exposed_answer, make_after, make_answer, making, verdict_answer}
use Rattle.model.specs.Climbing.{View, container, labelled, hidden, nesting, view, view_from}
use Rattle.model.specs.Finite.{every}
use Rattle.model.specs.Least.{bytes, least, least_table}
use Rattle.model.specs.Noninterference.{OnSheet, all_steps}
use Rattle.model.specs.Observer.{sheet_of}
use Rattle.model.specs.Records.{Capability, at, cap-in, cap-open, cap-out, capability, gone, is_ambient, nested, parent_of, records}
use Rattle.model.specs.Refusals.{pass}
use Rattle.model.specs.Requests.{ClientsKept, ClientsUnread, SheetsAgree, unclaimed}
use Rattle.model.specs.Scripts.{Step, after_list}
use Rattle.model.specs.Steps.{Outcome, dissolve, done-by, effect, move, outcome, refused-with, step, step_bytes}
use Rattle.model.specs.Tables.{Table, bits, is_high, parts, suspects}
use Rattle.model.specs.Validity.{validity}
use Rattle.model.specs.declared.Rec.{Rec}
use Rattle.model.proofs.Laws.Bytes.{valid-wf}
use Rattle.model.proofs.Laws.Done.{Done, cap-pos, first-wf, halfway, in-live, move-first, out-live, outcome-done, partner-pos, step-records, step-valid}
use Rattle.model.proofs.Laws.Lists.{after-steps}
use Rattle.model.proofs.Laws.Secrecy.{sheet-records}
use Rattle.model.proofs.Laws.Sheet.{sheet-hidden, sheet-shown}
use Rattle.model.proofs.Laws.Updates.{dissolve-self}
use Rattle.model.proofs.Laws.WellFormed.{Alive, SameBut, WellFormed, dissolve-same, place_same}

-- what stands after a change stood before it, with its client
abbrev Keeps : List Rec → List Rec → ℕ → Type 0
Keeps its its' i = Alive its' i → Alive its i × ((at its' i).client ≡ (at its i).client)

keeps-same : (its its' : List Rec) (i : ℕ) → SameBut (at its i) (at its' i) → Keeps its its' i
keeps-same its its' i s live = (rw s.kind at live, s.client)

keeps-then : (a b c : List Rec) (i : ℕ) → Keeps a b i → Keeps b c i → Keeps a c i
keeps-then a b c i f g live = let y = g live in let x = f y.0 in (x.0, y.1 ∙ x.1)

-- a record is taken out
out-keeps : {its : List Rec} (wf : WellFormed its) (x i : ℕ) → x ≢ 0 → Keeps its (dissolve x its) i
out-keeps {its} wf x i z live = go (ℕ_discrete i x)
  where
    go : Dec (i ≡ x) → Alive its i × ((at (dissolve x its) i).client ≡ (at its i).client)
    go (yes e) = absurd (live (rw (e, dissolve-self x its z)))
    go (no e) = keeps-same its (dissolve x its) i (dissolve-same wf x z i e) live

module _ {its : List Rec} (wf : WellFormed its) (i : ℕ) {c b : ℕ} where
  first-keeps : (k : Capability) → Done permit_all k its c b → Keeps its (halfway k its c b) i
  first-keeps cap-in d = keeps-same its _ i (place_same wf (parent_of its c) b (in-live wf d) i)
  first-keeps cap-out d = keeps-same its _ i (place_same wf (parent_of its c) (parent_of its b) (out-live wf d) i)
  first-keeps cap-open d = out-keeps wf b i (partner-pos wf cap-open d)

  move-keeps : (k : Capability) → Done permit_all k its c b → Keeps its (move k its c b) i
  move-keeps k d = rw (move-first k its c b) (keeps-then its _ _ i (first-keeps k d) (out-keeps (first-wf wf k d) c i (cap-pos wf k d)))

step-keeps : {its : List Rec} (wf : WellFormed its) (c b i : ℕ) → Keeps its (step permit_all its c b) i
unfolding step effect
step-keeps {its} wf c b i = go (outcome permit_all its c b) refl
  where
    go : (o : Outcome) → outcome permit_all its c b ≡ o → Keeps its (effect o its c b) i
    go (refused-with n) e live = (live, refl)
    go (done-by k) e live = move-keeps wf i k (outcome-done k e) live

list-keeps : (ms : List Step) (s : List ℕ) (i : ℕ) → validity s ≡ pass → Keeps (records s) (records (after_list permit_all s ms)) i
unfolding after_list
list-keeps [] s i v live = (live, refl)
list-keeps (m ∷ ms) s i v live =
    let t = step_bytes permit_all s m.actor m.partner in
    let f : Keeps (records s) (records t) i = rw (step-records permit_all s m.actor m.partner) (step-keeps (valid-wf s v) m.actor m.partner i) in
    keeps-then (records s) (records t) _ i f (list-keeps ms t i (step-valid permit_all s m.actor m.partner v)) live

-- "kept by every move"
pub clients-kept : ClientsKept
clients-kept s es i v w live =
    let e = after-steps es s v w in
    ap (λ x. (at (records x) i).client) e ∙ (list-keeps (all_steps es) s i v (rw e at live)).1

-- a sheet shows a record whole, or not at all
shown-whole : (x table : List ℕ) (i : ℕ) → OnSheet table x i → at (records (sheet_of x table)) i ≡ at (records x) i
shown-whole x table i on = go (hidden (records x) (suspects table) i) refl
  where
    go : (t : Bool) → hidden (records x) (suspects table) i ≡ t → at (records (sheet_of x table)) i ≡ at (records x) i
    go true h = absurd (on (ap (λ r. r.kind) (ap (λ l. at l i) (sheet-records x table) ∙ sheet-hidden (records x) (suspects table) i h)))
    go false h = ap (λ l. at l i) (sheet-records x table) ∙ sheet-shown (records x) (suspects table) i h

-- "two equal sheets now agree on clients too"
pub sheets-agree : SheetsAgree
sheets-agree x y table e i on =
    let f : at (records (sheet_of x table)) i ≡ at (records (sheet_of y table)) i = ap (λ t. at (records t) i) e in
    let on' : OnSheet table y i = λ z. on (ap (λ r. r.kind) f ∙ z) in
    ap (λ r. r.client) (sym (shown-whole x table i on) ∙ f ∙ shown-whole y table i on')

-- records without their clients: what is read of each is the same
module _ (its : List Rec) where
  abbrev bare : List Rec
  bare = map unclaimed its

  at-bare : (l : List Rec) (i : ℕ) → get_or (map unclaimed l) i gone ≡ unclaimed (get_or l i gone)
  unfolding unclaimed
  at-bare [] i = refl
  at-bare (r ∷ rs) zero = refl
  at-bare (r ∷ rs) (suc i) = at-bare rs i

  bare-at : (i : ℕ) → at bare i ≡ unclaimed (at its i)
  unfolding at unclaimed
  bare-at zero = refl
  bare-at (suc i) = at-bare its i

  bare-length : length bare ≡ length its
  bare-length = length-map its unclaimed

  module _ {A : Type 0} (v : View A) (blind : (i : ℕ) (r : Rec) (x : A) → v.make i (unclaimed r) x ≡ v.make i r x) where
    bare-from : (n i : ℕ) → view_from v bare n i ≡ view_from v its n i
    unfolding view_from unclaimed
    bare-from zero zero = refl
    bare-from zero (suc i) = refl
    bare-from (suc n) zero = refl
    bare-from (suc n) (suc i) =
        ap (λ r. v.make (suc i) r (view_from v bare n r.parent)) (bare-at (suc i))
        ∙ blind (suc i) (at its (suc i)) _
        ∙ ap (v.make (suc i) (at its (suc i))) (bare-from n (parent_of its (suc i)))

  bare-container : (i : ℕ) → container bare i ≡ container its i
  unfolding view unclaimed labelled is_ambient
  bare-container i =
      ap (λ n. view_from nesting bare (suc n) (parent_of bare i)) bare-length
      ∙ ap (λ r. view_from nesting bare (suc (length its)) r.parent) (bare-at i)
      ∙ bare-from nesting (λ j r x. refl) (suc (length its)) (parent_of its i)

  -- what is said of a record by itself
  rules-blind : (permit : Permit) (T : Table) (o : Option Capability) (r : Rec) → rules_hold permit T o (unclaimed r) ≡ rules_hold permit T o r
  unfolding rules_hold unclaimed
  rules-blind permit T None r = refl
  rules-blind permit T (Some k) r = refl

  record-blind : (permit : Permit) (T : Table) (c : ℕ) (r : Rec) → record_holds permit T c (unclaimed r) ≡ record_holds permit T c r
  unfolding record_holds unclaimed is_ambient
  record-blind permit T c r = ap (λ b. T.I c r.label && (only_if (is_ambient r) (T.H r.label r.name) && b)) (rules-blind permit T (capability r.kind) r)

  nested-blind : (r : Rec) → nested (unclaimed r) ≡ nested r
  unfolding nested unclaimed
  nested-blind r = refl

  -- whether a table holds, and the least that does
  bare-holds : (permit : Permit) (policy : List ℕ) (T : Table) → holds permit policy bare T ≡ holds permit policy its T
  unfolding holds
  bare-holds permit policy T =
      let test : (i : ℕ) → nested (at bare i) ≡ nested (at its i) = λ i. ap nested (bare-at i) ∙ nested-blind (at its i) in
      let body : (i : ℕ) → record_holds permit T (container bare i) (at bare i) ≡ record_holds permit T (container its i) (at its i) = λ i.
      ap₂ (record_holds permit T) (bare-container i) (bare-at i) ∙ record-blind permit T (container its i) (at its i) in
      ap (λ b. every 64 (is_high policy) T.S && b)
      (ap (λ n. every (suc n) (λ i. nested (at bare i)) (λ i. record_holds permit T (container bare i) (at bare i))) bare-length
      ∙ (λ j. every (suc (length its)) (λ i. test i j) (λ i. body i j)))

  bare-least : (permit : Permit) (policy : List ℕ) → least_table permit policy bare ≡ least_table permit policy its
  unfolding least_table
  bare-least permit policy = λ j. bytes 1544 (least 12352 (λ u. bare-holds permit policy (parts u) j))

-- "Tables don't read it"
pub clients-unread : ClientsUnread
unfolding check_answer verdict_answer exposed_answer make_answer make_after checking making comparing entry
clients-unread x y policy table v w e =
    let h : holds permit_all policy (records x) (parts (bits table)) ≡ holds permit_all policy (records y) (parts (bits table)) =
    sym (bare-holds (records x) permit_all policy (parts (bits table))) ∙ ap (λ l. holds permit_all policy l (parts (bits table))) e ∙ bare-holds (records y) permit_all policy (parts (bits table)) in
    let l : least_table permit_all policy (records x) ≡ least_table permit_all policy (records y) =
    sym (bare-least (records x) permit_all policy) ∙ ap (least_table permit_all policy) e ∙ bare-least (records y) permit_all policy in
    record {
      checks = rw (v, w, h) refl;
      verdicts = rw (v, w, h) refl;
      exposures = rw (v, w, h) refl;
      makes = rw (v, w, l) refl;
      made = rw (v, w, l) refl;
    }
