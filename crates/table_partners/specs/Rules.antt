-- The rules of a table, on the set u of its bits: of the capability records, and folded into words of partners.
use Rattle.std.specs.Prelude.{◌+◌, ◌<◌, ℕ, get_or, true, List, ◌≡◌}
use Rattle.std.specs.Prelude.{Some}
use Rattle.model.specs.Analysis.{permit_all}
use Rattle.model.proofs.Laws.Holding.{Rule}
use Rattle.model.specs.Records.{at, capability}
use Rattle.model.specs.Tables.{parts, test_bit}
use Rattle.model.specs.declared.Capability.{Capability}
use Rattle.model.specs.declared.Rec.{Rec}
use Rattle.table_words.specs.Layout.{I, S}
use Rattle.tables.specs.Grow.{Set}

-- the rule of record j
abbrev pub RuleOf : List Rec → Set → Capability → ℕ → Type 0
RuleOf its u k j = Rule permit_all (parts u) k (at its j).label (at its j).name

-- the rules of all capability records
abbrev pub AllRules : List Rec → Set → Type 0
AllRules its u = (j : ℕ) (k : Capability) → capability (at its j).kind ≡ Some k → RuleOf its u k j

-- the rules of in, out and open, where b bears what the capability of label 64 + t targets: words from 0 for in, from 64
-- for out, from 128 for open
pub record RulesClosed (partners : List ℕ) (u : Set) : Type 0 where
  pub ins : (t a b p : ℕ) → t < 64 → a < 64 → b < 64 → p < 64 → I u a (64 + t) → I u p a → I u p b → test_bit (get_or partners t 0) b ≡ true → I u b a × (S u b → S u a)
  pub outs : (t a b p : ℕ) → t < 64 → a < 64 → b < 64 → p < 64 → I u a (64 + t) → I u b a → I u p b → test_bit (get_or partners (64 + t) 0) b ≡ true → I u p a × (S u b → S u a)
  pub opens : (t b p : ℕ) → t < 64 → b < 64 → p < 64 → I u p (64 + t) → I u p b → test_bit (get_or partners (128 + t) 0) b ≡ true → ((k : ℕ) → k < 128 → I u b k → I u p k) × (S u b → S u p)
