-- Partners that are gathered from one member after the other are those of the join, and where each member's records stand as a table
-- allows, so do the join's: both ask of a record its kind, label and name, and its container.
use Rattle.std.specs.Prelude.{◌+◌, ◌≤◌, suc, zero, ℕ, get_or, length, Bool, ◌&&◌, true, List, [], ◌∷◌, ◌⊎◌, ◌≡◌, refl}
use Rattle.std.proofs.Common.{inl, inr, true≢false, ⊎_elim, ◌∙◌, ap, arith, sym}
use Rattle.std.proofs.Math.Decide.{dec_le}
use Rattle.joins.specs.Behind.{Side, both, first, join-next, join-none, same-first, same-second, second, side}
use Rattle.joins.specs.Joined.{join-wf}
use Rattle.joins.specs.Tables.{back, container-first, container-second}
use Rattle.model.specs.Climbing.{container}
use Rattle.model.specs.Finite.{every}
use Rattle.model.specs.Joins.{join, shifted}
use Rattle.model.specs.Records.{at, nested, records}
use Rattle.model.specs.Refusals.{pass}
use Rattle.model.specs.Requests.{Valid}
use Rattle.model.specs.Tables.{Table, test_bit}
use Rattle.model.specs.Validity.{validity}
use Rattle.model.specs.declared.Rec.{Rec}
use Rattle.model.proofs.Laws.Bit.{zero_bit}
use Rattle.model.proofs.Laws.Booleans.{and_left, and-make, and_right, bool_iff}
use Rattle.model.proofs.Laws.Bytes.{valid-wf}
use Rattle.model.proofs.Laws.Done.{same-amb}
use Rattle.model.proofs.Laws.Finite.{every-make, every-use}
use Rattle.model.proofs.Laws.Updates.{at-root}
use Rattle.model.proofs.Laws.WellFormed.{SameBut, WellFormed, alive-in, alive-pos, nested-alive, same-nested}
use Rattle.table_holds.specs.Tests.{nesting_holds, stood}
use Rattle.table_partners.specs.Facts.{standing}
use Rattle.table_partners.specs.Laws.{cap-bounds, targeted-in}
use Rattle.table_partners.specs.Partners.{AllAdded, Partners, TargetedBy, Targets, is_capability, slot}
use Rattle.table_words.specs.Adds.{Bit}

-- ---- partners

module _ (H : ℕ → ℕ → Bool) (i b : ℕ) where
  targets-as : {r r' : Rec} → SameBut r r' → Targets H r i b → Targets H r' i b
  unfolding is_capability slot
  targets-as s t = record { capable = rw s.kind t.capable; here = rw (s.kind, s.label) t.here; below = t.below; names = rw s.name t.names }

  none-targets : TargetedBy [] H i b → ⊥
  none-targets t =
      let k = cap-bounds _ t.targets.capable in
      let e : (at [] t.from).kind ≡ 0 = ap (λ r. r.kind) (ap (at []) (omega (arith, targeted-in t)) ∙ at-root []) in
      omega arith

  module _ (xs ys : List Rec) where
    by-first : TargetedBy xs H i b → TargetedBy (both xs ys) H i b
    by-first t = record { from = t.from; targets = targets-as (same-first xs ys t.from (targeted-in t)) t.targets }

    by-second : TargetedBy ys H i b → TargetedBy (both xs ys) H i b
    by-second t = record { from = shifted (length xs) t.from; targets = targets-as (same-second xs ys t.from) t.targets }

    by-either : TargetedBy (both xs ys) H i b → TargetedBy xs H i b ⊎ TargetedBy ys H i b
    by-either t = go (side (length xs) t.from)
      where
        go : Side (length xs) t.from → TargetedBy xs H i b ⊎ TargetedBy ys H i b
        go (first l) = inl (record { from = t.from; targets = targets-as (back (same-first xs ys t.from l)) t.targets })
        go (second k z q) = inr (record { from = k; targets = targets-as (back (same-second xs ys k)) (rw q at t.targets) })

  -- some member's record does
  abbrev pub AnyTargets : List (List ℕ) → Type 0
  AnyTargets [] = ⊥
  AnyTargets (s ∷ ss) = TargetedBy (records s) H i b ⊎ AnyTargets ss

  any-joined : (members : List (List ℕ)) → AnyTargets members → TargetedBy (join members) H i b
  any-joined [] t = absurd t
  any-joined (s ∷ ss) t = rw (join-next s ss) (⊎_elim (by-first (records s) (join ss)) (λ u. by-second (records s) (join ss) (any-joined ss u)) t)

  joined-any : (members : List (List ℕ)) → TargetedBy (join members) H i b → AnyTargets members
  joined-any [] t = none-targets (rw join-none at t)
  joined-any (s ∷ ss) t = ⊎_elim (λ u. inl u) (λ u. inr (joined-any ss u)) (by-either (records s) (join ss) (rw (join-next s ss) at t))

-- p has the partners of the members but those of the rest, which are still to be added
pub record Gathered (members : List (List ℕ)) (H : ℕ → ℕ → Bool) (rest : List (List ℕ)) (p : List ℕ) : Type 0 where
  pub has : (i b : ℕ) → AnyTargets H i b members → Bit p i b ⊎ AnyTargets H i b rest
  pub only : (i b : ℕ) → Bit p i b → AnyTargets H i b members
  pub inside : (i b : ℕ) → AnyTargets H i b rest → AnyTargets H i b members

pub gathered-start : (members : List (List ℕ)) (H : ℕ → ℕ → Bool) (p : List ℕ) → ((i : ℕ) → get_or p i 0 ≡ 0) → Gathered members H members p
gathered-start members H p z = record {
  has = λ i b t. inr t;
  only = λ i b t. absurd (true≢false (sym t ∙ ap (λ x. test_bit x b) (z i) ∙ zero_bit b));
  inside = λ i b t. t;
}

pub gathered-next : {members : List (List ℕ)} {H : ℕ → ℕ → Bool} {s : List ℕ} {rest : List (List ℕ)} {p p' : List ℕ} →
    Gathered members H (s ∷ rest) p → AllAdded (records s) H p p' → Gathered members H rest p'
gathered-next g a = record {
  has = λ i b t. ⊎_elim (λ u. inl (a.keeps i b u)) (λ u. ⊎_elim (λ v. inl (a.has i b v)) (λ v. inr v) u) (g.has i b t);
  only = λ i b t. ⊎_elim (λ u. g.only i b u) (λ u. g.inside i b (inl u)) (a.only i b t);
  inside = λ i b t. g.inside i b (inr t);
}

pub gathered-end : {members : List (List ℕ)} {H : ℕ → ℕ → Bool} {p : List ℕ} (n : ℕ) → Gathered members H [] p → Partners (join members) H n p
gathered-end {members} {H} n g = record {
  has = λ j i b l t. ⊎_elim (λ u. u) (λ u. absurd u) (g.has i b (joined-any H i b members (record { from = j; targets = t })));
  only = λ i b t. any-joined H i b members (g.only i b t);
}

-- ---- where the records stand

module _ (T : Table) where
  abbrev Stands : List Rec → ℕ → Type 0
  Stands its i = nested (at its i) ≡ true → stood T (container its i) (at its i) ≡ true

  stands-use : (its : List Rec) → nesting_holds its T ≡ true → (i : ℕ) → Stands its i
  unfolding nesting_holds standing
  stands-use its h zero n = absurd (alive-pos its 0 (nested-alive _ n) refl)
  stands-use its h (suc i) n = let e : i + 1 ≡ suc i = omega arith in
      rw e at (every-use (standing its) (λ x. stood T (container its (x + 1)) (at its (x + 1))) (length its) h i (omega (arith, alive-in its (suc i) (nested-alive _ n))) (rw e n))

  stands-make : (its : List Rec) → ((i : ℕ) → Stands its i) → nesting_holds its T ≡ true
  unfolding nesting_holds standing
  stands-make its f = every-make (standing its) (λ x. stood T (container its (x + 1)) (at its (x + 1))) (length its) (λ x l n. f (x + 1) n)

  stands-as : (its its' : List Rec) (i i' : ℕ) → SameBut (at its i) (at its' i') → container its' i' ≡ container its i → Stands its i → Stands its' i'
  unfolding stood
  stands-as its its' i i' s e f n = rw (e, same-amb s, s.label, s.name) (f (sym (same-nested s) ∙ n))

  module _ {xs ys : List Rec} (wx : WellFormed xs) (wy : WellFormed ys) where
    nests-both : nesting_holds (both xs ys) T ≡ (nesting_holds xs T && nesting_holds ys T)
    nests-both = bool_iff _ _
        (λ h. and-make (stands-make xs (λ i. in-first h i (dec_le i (length xs))))
        (stands-make ys (λ i. stands-as (both xs ys) ys (shifted (length xs) i) i (back (same-second xs ys i)) (sym (container-second wx wy i)) (stands-use (both xs ys) h (shifted (length xs) i)))))
        (λ h. stands-make (both xs ys) (λ i. in-both (stands-use xs (and_left _ _ h)) (stands-use ys (and_right (nesting_holds xs T) _ h)) i (side (length xs) i)))
      where
        in-first : nesting_holds (both xs ys) T ≡ true → (i : ℕ) → Dec (i ≤ length xs) → Stands xs i
        in-first h i (yes l) n = stands-as (both xs ys) xs i i (back (same-first xs ys i l)) (sym (container-first wx wy i l)) (stands-use (both xs ys) h i) n
        in-first h i (no l) n = absurd (l (alive-in xs i (nested-alive _ n)))

        in-both : ((i : ℕ) → Stands xs i) → ((i : ℕ) → Stands ys i) → (i : ℕ) → Side (length xs) i → Stands (both xs ys) i
        in-both f g i (first l) = stands-as xs (both xs ys) i i (same-first xs ys i l) (container-first wx wy i l) (f i)
        in-both f g i (second k z q) = rw q (stands-as ys (both xs ys) k (shifted (length xs) k) (same-second xs ys k) (container-second wx wy k) (g k))

  -- one member and those behind it, and none
  pub nests-next : (s : List ℕ) (ss : List (List ℕ)) → validity s ≡ pass → Valid ss → nesting_holds (join (s ∷ ss)) T ≡ (nesting_holds (records s) T && nesting_holds (join ss) T)
  nests-next s ss v vs = ap (λ its. nesting_holds its T) (join-next s ss) ∙ nests-both (valid-wf s v) (join-wf ss vs)

  pub nests-none : nesting_holds (join []) T ≡ true
  unfolding nesting_holds every
  nests-none = ap (λ its. nesting_holds its T) join-none
