-- When a table holds: the bits asked for one by one, and the rules. A record as the loops read it.
use Rattle.std.specs.Prelude.{◌*◌, ◌+◌, ◌-◌, ◌<◌, ◌≤◌, ℕ, length, false, List, ◌≡◌}
use Rattle.std.proofs.Math.Bool.{true}
use Rattle.std.proofs.Common.{◌∙◌, sym, arith}
use Rattle.std.proofs.Math.Path.{ap, ap₂, subst}
use Rattle.model.specs.Analysis.{permit_all}
use Rattle.model.specs.Climbing.{container, nesting, view}
use Rattle.model.proofs.Laws.Bytes.{at-decode, valid-wf}
use Rattle.model.proofs.Laws.Containers.{container-small}
use Rattle.model.proofs.Laws.Holding.{Holds}
use Rattle.model.proofs.Laws.WellFormed.{WellFormed, alive-in, alive-pos, amb-nested, labels, named, nested-alive, small}
use Rattle.model.specs.Records.{at, count, decode, is_ambient, nested, records}
use Rattle.model.specs.Refusals.{pass}
use Rattle.model.specs.Tables.{parts, place_h, place_i}
use Rattle.model.specs.Validity.{validity}
use Rattle.model.specs.declared.Rec.{Rec}
use Rattle.table_partners.specs.Facts.{Facts, Wanted, bearing, name_cell, nesting_cell, standing}
use Rattle.table_partners.specs.Rules.{AllRules}
use Rattle.tables.specs.Grow.{Set}

-- ---- what a table that holds says, and what makes one hold

module _ (policy : List ℕ) (its : List Rec) (u : Set) where
  pub holds-facts : Holds permit_all policy its (parts u) → Facts its policy u
  unfolding Wanted standing nesting_cell bearing name_cell place_h
  holds-facts h = record { nestings = λ x l t. (h.fits (x + 1)).nest t; names = λ x l t. (h.fits (x + 1)).names t; highs = h.high }

  pub holds-rules : Holds permit_all policy its (parts u) → AllRules its u
  holds-rules h j k e = (h.fits j).rules k e

  -- record i, if a table speaks of it, is that of a number below the count and 1
  numbered : (i : ℕ) → nested (at its i) ≡ true → (i ≡ (i - 1) + 1) × (i - 1 < length its)
  numbered i n =
      let l = alive-in its i (nested-alive (at its i) n) in
      let z = alive-pos its i (nested-alive (at its i) n) in
      (omega arith, omega arith)

  pub facts-holds : Facts its policy u → AllRules its u → Holds permit_all policy its (parts u)
  unfolding Wanted standing nesting_cell bearing name_cell place_h
  facts-holds f r = record {
    fits = λ i. record {
      nest = λ n. let w = numbered i n in
          subst (λ (y : ℕ). u (place_i (container its y) (at its y).label) ≡ true) (sym w.0) (f.nestings (i - 1) w.1 (ap (λ (y : ℕ). nested (at its y)) (sym w.0) ∙ n));
      names = λ a. let w = numbered i (amb-nested (at its i) a) in
          subst (λ (y : ℕ). u (8192 + (64 * (at its y).label + (at its y).name)) ≡ true) (sym w.0) (f.names (i - 1) w.1 (ap (λ (y : ℕ). is_ambient (at its y)) (sym w.0) ∙ a));
      rules = λ k e. r i k e;
    };
    high = f.highs;
  }

-- ---- a record as the loops read it

module _ (s : List ℕ) (v : validity s ≡ pass) (i : ℕ) (l : i + 1 ≤ count s) (r : Rec) (e : r ≡ decode s (i + 1)) where
  pub read_at : r ≡ at (records s) (i + 1)
  read_at = e ∙ sym (at-decode s (i + 1) l)

  wf : WellFormed (records s)
  wf = valid-wf s v

  pub record Bears : Type 0 where
    pub label : r.label < 64
    pub name : r.name < 64
    pub test : bearing (records s) i ≡ true
    pub cell : 64 * r.label + r.name ≡ name_cell (records s) i

  pub bears : is_ambient r ≡ true → Bears
  unfolding bearing name_cell
  bears k =
      let a : is_ambient (at (records s) (i + 1)) ≡ true = ap is_ambient (sym read_at) ∙ k in
      record {
        label = rw read_at (small wf (i + 1) a);
        name = rw read_at (named wf (i + 1));
        test = a;
        cell = ap (λ (x : Rec). 64 * x.label + x.name) read_at;
      }

  pub bears-not : is_ambient r ≡ false → bearing (records s) i ≡ false
  unfolding bearing
  bears-not k = ap is_ambient (sym read_at) ∙ k

  -- the container is what the parent shows
  pub contained : (c : ℕ) → c ≡ view nesting (records s) r.parent → c ≡ container (records s) (i + 1)
  contained c p = p ∙ ap (λ (x : Rec). view nesting (records s) x.parent) read_at

  -- c is the record's container: with the record's label it has a place in I, whatever the record is
  pub record Within (c : ℕ) : Type 0 where
    pub label : r.label < 128
    pub above : c < 64

  pub within : (c : ℕ) → c ≡ view nesting (records s) r.parent → Within c
  within c p = record { label = rw read_at (labels wf (i + 1)); above = rw (contained c p) (container-small wf (i + 1)) }

  -- and the record is one that a table speaks of
  pub record Stands (c : ℕ) : Type 0 where
    pub test : standing (records s) i ≡ true
    pub cell : 128 * c + r.label ≡ nesting_cell (records s) i

  pub stands : (c : ℕ) → c ≡ view nesting (records s) r.parent → nested r ≡ true → Stands c
  unfolding standing nesting_cell place_i
  stands c p n = record {
    test = ap nested (sym read_at) ∙ n;
    cell = ap₂ (λ (x : ℕ) (y : Rec). 128 * x + y.label) (contained c p) read_at;
  }

  pub stands-not : nested r ≡ false → standing (records s) i ≡ false
  unfolding standing
  stands-not n = ap nested (sym read_at) ∙ n
