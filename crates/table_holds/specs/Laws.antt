-- The parts of the check make up when a table holds.
use Rattle.std.specs.Prelude.{◌+◌, ◌<◌, ◌≤◌, ℕ, length, Bool, false, true, List, ◌≡◌}
use borrow.Author.Tests.{eq-eqb, eqb-true, leb-true}
use Rattle.std.proofs.Common.{true≢false, ◌∙◌, ap, ap₂, subst, sym, arith}
use Rattle.std.proofs.lemmas.List.FromFn.{get_or-enumerate_from, length-enumerate_from}
use Rattle.std.specs.Bool.{MatchBool}
use Rattle.std.specs.List.{AllWithin, HoldsAt, enumerate_from}
use Rattle.tables.specs.Loops.{all_pass, one-fails}
use Rattle.table_holds.specs.Tests.{nesting_holds, stood}
use Rattle.model.specs.Analysis.{permit_all, holds, only_if}
use Rattle.model.specs.Climbing.{container, nesting, view}
use Rattle.model.specs.Finite.{every}
use Rattle.model.proofs.Laws.Booleans.{and_left, and-make, and_right, bool_iff, is_false, only_if-make, only_if-use}
use Rattle.model.proofs.Laws.Finite.{every-make, every-use}
use Rattle.model.proofs.Laws.Holding.{holds-complete, holds-sound}
use Rattle.model.proofs.Laws.WellFormed.{amb-nested, label_small, shape-label, shape-named}
use Rattle.model.specs.Validity.{name_by, name_right, shape, validity}
use Rattle.model.specs.Records.{at, count, decode, is_ambient, records}
use Rattle.model.specs.Refusals.{pass}
use Rattle.model.specs.Tables.{Table, is_high, parts, place_h}
use Rattle.model.specs.declared.Rec.{Rec}
use Rattle.table_partners.specs.Facts.{Facts, Wanted, bearing, name_cell, nesting_cell, standing}
use Rattle.table_partners.specs.Standing.{contained, facts-holds, holds-facts, holds-rules, read_at}
use Rattle.tables.specs.Grow.{Set}
use Rattle.table_partners.specs.Rules.{AllRules}
use Rattle.table_rules.specs.Tests.{Decides}

-- ---- facts

module _ (its : List Rec) (u : Set) where
  nesting-facts : nesting_holds its (parts u) ≡ true → (x : ℕ) → x < length its → standing its x ≡ true → stood (parts u) (container its (x + 1)) (at its (x + 1)) ≡ true
  unfolding nesting_holds
  nesting-facts h x l t = every-use (standing its) (λ x. stood (parts u) (container its (x + 1)) (at its (x + 1))) (length its) h x l t

  bearing-stands : (x : ℕ) → bearing its x ≡ true → standing its x ≡ true
  unfolding bearing standing
  bearing-stands x b = amb-nested (at its (x + 1)) b

  pub facts-of : (policy : List ℕ) → every 64 (is_high policy) (parts u).S ≡ true → nesting_holds its (parts u) ≡ true → Facts its policy u
  unfolding Wanted stood nesting_cell name_cell bearing place_h
  facts-of policy h n = record {
    nestings = λ x l t. and_left _ _ (nesting-facts n x l t);
    names = λ x l t. only_if-use (is_ambient (at its (x + 1))) _ (and_right ((parts u).I (container its (x + 1)) (at its (x + 1)).label) _ (nesting-facts n x l (bearing-stands x t))) t;
    highs = every-use (is_high policy) (parts u).S 64 h;
  }

  pub facts-nesting : {policy : List ℕ} → Facts its policy u → nesting_holds its (parts u) ≡ true
  unfolding Wanted nesting_holds stood nesting_cell name_cell bearing place_h
  facts-nesting f = every-make (standing its) (λ x. stood (parts u) (container its (x + 1)) (at its (x + 1))) (length its)
      (λ x l t. and-make (f.nestings x l t) (only_if-make (is_ambient (at its (x + 1))) _ (λ a. f.names x l a)))

  pub facts-highs : {policy : List ℕ} → Facts its policy u → every 64 (is_high policy) (parts u).S ≡ true
  unfolding Wanted
  facts-highs {policy} f = every-make (is_high policy) (parts u).S 64 f.highs

-- ---- the whole

module _ (policy : List ℕ) (its : List Rec) (u : Set) where
  abbrev Whole : Bool
  Whole = holds permit_all policy its (parts u)

  pub holds-not-high : every 64 (is_high policy) (parts u).S ≡ false → false ≡ Whole
  holds-not-high h = sym (is_false Whole (λ t. true≢false (sym (facts-highs its u (holds-facts policy its u (holds-sound permit_all policy its (parts u) t))) ∙ h)))

  pub holds-not-nested : nesting_holds its (parts u) ≡ false → false ≡ Whole
  holds-not-nested h = sym (is_false Whole (λ t. true≢false (sym (facts-nesting its u (holds-facts policy its u (holds-sound permit_all policy its (parts u) t))) ∙ h)))

  pub holds-by-rules : (r : Bool) → every 64 (is_high policy) (parts u).S ≡ true → nesting_holds its (parts u) ≡ true → Decides r (AllRules its u) → r ≡ Whole
  holds-by-rules r h n d = bool_iff r Whole
      (λ t. holds-complete permit_all policy its (parts u) (facts-holds policy its u (facts-of its u policy h n) (d.holds t)))
      (λ t. d.passes (holds-rules policy its u (holds-sound permit_all policy its (parts u) t)))

-- ---- what the loops of the tests find

-- a record as it is read stands as its record does
pub read-stood : (s : List ℕ) (v : validity s ≡ pass) (i : ℕ) (l : i + 1 ≤ count s) (r : Rec) (e : r ≡ decode s (i + 1)) (T : Table) (c : ℕ) → c ≡ view nesting (records s) r.parent →
    stood T c r ≡ stood T (container (records s) (i + 1)) (at (records s) (i + 1))
read-stood s v i l r e T c q = ap₂ (λ (x : ℕ) (y : Rec). stood T x y) (contained s v i l r e c q) (read_at s v i l r e)

-- an ambient of the right form
pub ambient-form : (r : Rec) → shape r ≡ true → is_ambient r ≡ true → (r.label < 64) × (r.name < 64)
unfolding name_right name_by
ambient-form r h a =
    let n = amb-nested r a in
    let m : name_by true r.name ≡ true = rw n at (shape-named r h) in
    let x = leb-true r.name 63 m in
    (label_small (is_ambient r) r.label (shape-label r h n) a, omega arith)

module _ (T : Table) (c : ℕ) (r : Rec) where
  pub stood-not : T.I c r.label ≡ false → false ≡ stood T c r
  unfolding stood
  stood-not h = rw h

  pub stood-other : T.I c r.label ≡ true → is_ambient r ≡ false → true ≡ stood T c r
  unfolding stood only_if
  stood-other h k = rw (h, k)

  pub stood-ambient : T.I c r.label ≡ true → is_ambient r ≡ true → T.H r.label r.name ≡ stood T c r
  unfolding stood only_if
  stood-ambient h k = rw (h, k)

-- ---- the classes, one by one

-- a label that is suspect if it is high; one that is high and isn't
abbrev pub HighHeld : (ℕ → Bool) → ℕ × ℕ → Type 0
HighHeld S p = p.1 ≡ 1 → S p.0 ≡ true

abbrev pub HighLeft : (ℕ → Bool) → ℕ × ℕ → Type 0
HighLeft S p = (p.1 ≡ 1) × (S p.0 ≡ false)

-- what `all` answers of a policy's labels with their classes
pub highs : (policy : List ℕ) (S : ℕ → Bool) (r : Bool) → length policy ≡ 64 →
    MatchBool r (AllWithin (HighHeld S) (enumerate_from 0 policy) 0 (length (enumerate_from 0 policy))) ((k : ℕ) × (k < length (enumerate_from 0 policy)) × HoldsAt (HighLeft S) (enumerate_from 0 policy) k) → r ≡ every 64 (is_high policy) S
unfolding is_high
highs policy S true e h = all_pass 64 (is_high policy) S (λ k l t.
    let m : k < length policy = omega (arith, e) in
    let z : k ≡ 0 + k = omega arith in
    ap S z ∙ subst (HighHeld S) (get_or-enumerate_from 0 policy k (0, 0) m) (h k (0, 0) (omega arith) (omega (arith, length-enumerate_from 0 policy))) (eqb-true _ _ t))
highs policy S false e h =
    let m : h.0 < length policy = omega (arith, h.1, length-enumerate_from 0 policy) in
    let f = subst (HighLeft S) (get_or-enumerate_from 0 policy h.0 (0, 0) m) (h.2 (0, 0)) in
    let z : h.0 ≡ 0 + h.0 = omega arith in
    one-fails 64 (is_high policy) S h.0 (omega (arith, e)) (eq-eqb _ _ f.0) (ap S z ∙ f.1)
