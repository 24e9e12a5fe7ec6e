-- Document 01, "When a table holds": the control flow analysis with suspects.
use Rattle.std.specs.Prelude.{suc, ℕ, length, Bool, ◌&&◌, false, true, List}
use Rattle.std.specs.Prelude.{Option, None, Some}
use Rattle.model.specs.Climbing.{container}
use Rattle.model.specs.Finite.{every}
use Rattle.model.specs.Records.{Capability, at, cap-in, cap-open, cap-out, capability, is_ambient, nested}
use Rattle.model.specs.Tables.{Table, is_high}
use Rattle.model.specs.declared.Rec.{Rec}

-- whether a capability held in label a may act on a partner of label b: one test for the steps and for the rules.
-- 01 has no such test
abbrev pub Permit : Type 0
Permit = Capability → ℕ → ℕ → Bool

-- every capability may act on every partner: "A boundary never stops a step."
abbrev pub permit_all : Permit
permit_all k a b = true

-- b where a is true
unfoldable pub only_if : Bool → Bool → Bool
only_if true b = b
only_if false b = true

-- "if b is in S so is a"
abbrev pub infects : Table → ℕ → ℕ → Bool
infects T b a = only_if (T.S b) (T.S a)

-- "row b of I is inside row p"
abbrev pub row_inside : Table → ℕ → ℕ → Bool
row_inside T b p = every 128 (λ k. T.I b k) (λ k. T.I p k)

-- the rule of a capability of label t and name n, "for all labels a, b, p from 0 to 63", which "may be equal"
unfoldable pub rule_holds : Permit → Table → Capability → ℕ → ℕ → Bool
-- "in: if (a, t), (p, a), (p, b) are in I and (b, n) in H, then (b, a) is in I, and if b is in S so is a"
rule_holds permit T cap-in t n =
    every 64 (λ a. T.I a t) λ a. every 64 (λ p. T.I p a) λ p. every 64 (λ b. T.I p b && (T.H b n && permit cap-in a b)) λ b.
    T.I b a && infects T b a
-- "out: if (a, t), (b, a), (p, b) are in I and (b, n) in H, then (p, a) is in I, and if b is in S so is a"
rule_holds permit T cap-out t n =
    every 64 (λ a. T.I a t) λ a. every 64 (λ b. T.I b a && (T.H b n && permit cap-out a b)) λ b. every 64 (λ p. T.I p b) λ p.
    T.I p a && infects T b a
-- "open: if (p, t), (p, b) are in I and (b, n) in H, then row b of I is inside row p, and if b is in S so is p"
rule_holds permit T cap-open t n =
    every 64 (λ p. T.I p t) λ p. every 64 (λ b. T.I p b && (T.H b n && permit cap-open p b)) λ b.
    row_inside T b p && infects T b p

-- the rule of a record, where it is a capability
unfoldable pub rules_hold : Permit → Table → Option Capability → Rec → Bool
rules_hold permit T None r = true
rules_hold permit T (Some k) r = rule_holds permit T k r.label r.name

-- "for each ambient or capability, (container, label) is in I; for each ambient, (label, name) is in H";
-- "for each capability record, standing anywhere" its rule
unfoldable pub record_holds : Permit → Table → ℕ → Rec → Bool
record_holds permit T c r =
    T.I c r.label && (only_if (is_ambient r) (T.H r.label r.name) && rules_hold permit T (capability r.kind) r)

-- 01's "holds"; "every high label is in S"
unfoldable pub holds : Permit → List ℕ → List Rec → Table → Bool
holds permit policy its T =
    every 64 (is_high policy) T.S
    && every (suc (length its)) (λ i. nested (at its i)) (λ i. record_holds permit T (container its i) (at its i))
