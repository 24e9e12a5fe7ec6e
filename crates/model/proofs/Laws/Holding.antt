-- When a table holds, in both directions: the tests that compute, and the same as statements for all labels.
use Rattle.std.specs.Prelude.{◌<◌, suc, ℕ, length, Bool, List}
use Rattle.std.proofs.Math.Bool.{false, true}
use Rattle.std.proofs.Common.{true≢false, ◌∙◌, sym, arith}
use Rattle.std.specs.Prelude.{Option, None, Some}
use Rattle.std.proofs.Math.Path.{◌≡◌, refl, subst}
use Rattle.model.specs.Analysis.{Permit, holds, only_if, record_holds, row_inside, rule_holds, rules_hold}
use Rattle.model.specs.Climbing.{container}
use Rattle.model.specs.Finite.{every}
use Rattle.model.proofs.Laws.Booleans.{and_left, and-make, and_right, only_if-make, only_if-use}
use Rattle.model.proofs.Laws.Done.{cap-nested, same-amb}
use Rattle.model.proofs.Laws.Finite.{every-make, every-use}
use Rattle.model.proofs.Laws.WellFormed.{SameBut, alive-in, amb-nested, nested-alive, same-nested}
use Rattle.model.specs.Records.{Capability, at, cap-in, cap-open, cap-out, capability, is_ambient, nested}
use Rattle.model.specs.Tables.{Table, is_high}
use Rattle.model.specs.declared.Rec.{Rec}

-- row x of I lies inside row y, up to the label n
abbrev pub Inside : ℕ → (ℕ → ℕ → Bool) → ℕ → ℕ → Type 0
Inside n I x y = (k : ℕ) → k < n → I x k ≡ true → I y k ≡ true

abbrev pub Sub : (ℕ → ℕ → Bool) → ℕ → ℕ → Type 0
Sub I x y = Inside 128 I x y

-- `infects` and `row_inside` as statements
abbrev pub Infects : Table → ℕ → ℕ → Type 0
Infects T b a = T.S b ≡ true → T.S a ≡ true

abbrev pub RowInside : Table → ℕ → ℕ → Type 0
RowInside T b p = Inside 128 T.I b p

-- the three rules as statements
abbrev pub Rule : Permit → Table → Capability → ℕ → ℕ → Type 0
Rule permit T cap-in t n = (a b p : ℕ) → a < 64 → b < 64 → p < 64 → permit cap-in a b ≡ true →
    T.I a t ≡ true → T.I p a ≡ true → T.I p b ≡ true → T.H b n ≡ true → (T.I b a ≡ true) × Infects T b a
Rule permit T cap-out t n = (a b p : ℕ) → a < 64 → b < 64 → p < 64 → permit cap-out a b ≡ true →
    T.I a t ≡ true → T.I b a ≡ true → T.I p b ≡ true → T.H b n ≡ true → (T.I p a ≡ true) × Infects T b a
Rule permit T cap-open t n = (b p : ℕ) → b < 64 → p < 64 → permit cap-open p b ≡ true →
    T.I p t ≡ true → T.I p b ≡ true → T.H b n ≡ true → RowInside T b p × Infects T b p

-- what is asked of a record that stands in a container c
pub record Fits (permit : Permit) (T : Table) (c : ℕ) (r : Rec) : Type 0 where
  pub nest : nested r ≡ true → T.I c r.label ≡ true
  pub names : is_ambient r ≡ true → T.H r.label r.name ≡ true
  pub rules : (k : Capability) → capability r.kind ≡ Some k → Rule permit T k r.label r.name

pub record Holds (permit : Permit) (policy : List ℕ) (its : List Rec) (T : Table) : Type 0 where
  pub fits : (i : ℕ) → Fits permit T (container its i) (at its i)
  pub high : (k : ℕ) → k < 64 → is_high policy k ≡ true → T.S k ≡ true

module _ (permit : Permit) (T : Table) where
  pub rule-sound : (k : Capability) (t n : ℕ) → rule_holds permit T k t n ≡ true → Rule permit T k t n
  unfolding rule_holds
  rule-sound cap-in t n h = λ a b p la lb lp may ia ipa ipb hb.
      let e₁ = every-use _ _ _ h a la ia in
      let e₂ = every-use _ _ _ e₁ p lp ipa in
      let e₃ = every-use _ _ _ e₂ b lb (and-make ipb (and-make hb may)) in
      (and_left _ _ e₃, only_if-use _ _ (and_right (T.I b a) _ e₃))
  rule-sound cap-out t n h = λ a b p la lb lp may ia iba ipb hb.
      let e₁ = every-use _ _ _ h a la ia in
      let e₂ = every-use _ _ _ e₁ b lb (and-make iba (and-make hb may)) in
      let e₃ = every-use _ _ _ e₂ p lp ipb in
      (and_left _ _ e₃, only_if-use _ _ (and_right (T.I p a) _ e₃))
  rule-sound cap-open t n h = λ b p lb lp may ip ipb hb.
      let e₁ = every-use _ _ _ h p lp ip in
      let e₂ = every-use _ _ _ e₁ b lb (and-make ipb (and-make hb may)) in
      (every-use _ _ _ (and_left _ _ e₂), only_if-use _ _ (and_right (row_inside T b p) _ e₂))

  pub rule-complete : (k : Capability) (t n : ℕ) → Rule permit T k t n → rule_holds permit T k t n ≡ true
  unfolding rule_holds
  rule-complete cap-in t n f =
      every-make _ _ _ (λ a la ia. every-make _ _ _ (λ p lp ipa. every-make _ _ _ (λ b lb q.
      let hb = and_right (T.I p b) _ q in
      let w = f a b p la lb lp (and_right (T.H b n) _ hb) ia ipa (and_left _ _ q) (and_left _ _ hb) in
      and-make w.0 (only_if-make _ _ w.1))))
  rule-complete cap-out t n f =
      every-make _ _ _ (λ a la ia. every-make _ _ _ (λ b lb q. every-make _ _ _ (λ p lp ipb.
      let hb = and_right (T.I b a) _ q in
      let w = f a b p la lb lp (and_right (T.H b n) _ hb) ia (and_left _ _ q) ipb (and_left _ _ hb) in
      and-make w.0 (only_if-make _ _ w.1))))
  rule-complete cap-open t n f =
      every-make _ _ _ (λ p lp ip. every-make _ _ _ (λ b lb r.
      let hb = and_right (T.I p b) _ r in
      let w = f b p lb lp (and_right (T.H b n) _ hb) ip (and_left _ _ r) (and_left _ _ hb) in
      and-make (every-make _ _ _ w.0) (only_if-make _ _ w.1)))

  rules-sound : (o : Option Capability) (r : Rec) → rules_hold permit T o r ≡ true → (k : Capability) → o ≡ Some k → Rule permit T k r.label r.name
  unfolding rules_hold
  rules-sound None r h k e = let u : ◌≡◌ {A = ℕ} 0 1 = cc in absurd (omega arith)
  rules-sound (Some j) r h k e = let u : j ≡ k = cc in subst (λ x. Rule permit T x r.label r.name) u (rule-sound j r.label r.name h)

  rules-complete : (o : Option Capability) (r : Rec) → ((k : Capability) → o ≡ Some k → Rule permit T k r.label r.name) → rules_hold permit T o r ≡ true
  unfolding rules_hold
  rules-complete None r f = refl
  rules-complete (Some j) r f = rule-complete j r.label r.name (f j refl)

  -- one record
  pub fits-sound : (c : ℕ) (r : Rec) → record_holds permit T c r ≡ true → Fits permit T c r
  unfolding record_holds
  fits-sound c r h =
      let w = and_right (T.I c r.label) _ h in
      record {
        nest = λ _. and_left _ _ h;
        names = only_if-use _ _ (and_left _ _ w);
        rules = rules-sound (capability r.kind) r (and_right (only_if (is_ambient r) (T.H r.label r.name)) _ w);
      }

  pub fits-complete : (c : ℕ) (r : Rec) → nested r ≡ true → Fits permit T c r → record_holds permit T c r ≡ true
  unfolding record_holds
  fits-complete c r n f = and-make (f.nest n) (and-make (only_if-make _ _ f.names) (rules-complete (capability r.kind) r f.rules))

-- a record that no table speaks of fits anywhere
pub fits-other : {permit : Permit} {T : Table} {c : ℕ} {r : Rec} → nested r ≡ false → Fits permit T c r
fits-other {r = r} e = record {
  nest = λ h. absurd (true≢false (sym h ∙ e));
  names = λ h. absurd (true≢false (sym (amb-nested r h) ∙ e));
  rules = λ k h. absurd (true≢false (sym (cap-nested r k h) ∙ e));
}

-- what fits a record fits one that differs in the parent alone
pub fits-as : {permit : Permit} {T : Table} {c c' : ℕ} {r r' : Rec} → SameBut r r' → c' ≡ c → Fits permit T c r → Fits permit T c' r'
fits-as s e f = record {
  nest = λ h. rw (e, s.label) (f.nest (sym (same-nested s) ∙ h));
  names = λ h. rw (s.label, s.name) (f.names (sym (same-amb s) ∙ h));
  rules = λ k h. rw (s.label, s.name) (f.rules k (rw s.kind at h));
}

module _ (permit : Permit) (policy : List ℕ) (its : List Rec) (T : Table) where
  -- `holds` says what it says of every record and every label
  pub holds-sound : holds permit policy its T ≡ true → Holds permit policy its T
  unfolding holds
  holds-sound h = record { fits = λ i. go i (nested (at its i)) refl; high = every-use _ _ 64 (and_left _ _ h) }
    where
      go : (i : ℕ) (t : Bool) → nested (at its i) ≡ t → Fits permit T (container its i) (at its i)
      go i false e = fits-other e
      go i true e = fits-sound permit T (container its i) (at its i)
          (every-use (λ j. nested (at its j)) _ (suc (length its)) (and_right (every 64 (is_high policy) T.S) _ h) i (omega (arith, alive-in its i (nested-alive _ e))) e)

  pub holds-complete : Holds permit policy its T → holds permit policy its T ≡ true
  unfolding holds
  holds-complete w = and-make (every-make _ _ 64 w.high) (every-make _ _ (suc (length its)) (λ i _ e. fits-complete permit T (container its i) (at its i) e (w.fits i)))
