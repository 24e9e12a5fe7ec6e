-- The goals of `climbing::ambients`; the argument stands in Invariants.
use mathlib.Core.Path.{◌∙◌, sym}
use native.Mathlib.Omega.{arith}
use Rattle.model.specs.Climbing.{ambients_only}
use Rattle.records.specs.Climbs.{climb-lost}
use Rattle.climbing.specs.Active.{ambient-pos, only-far, only-on, only-stop}
use Rattle.climbing.proofs.+ambients.Goals as goal

pub returns-then-not-is_ambient : goal.returns-then-not-is_ambient
returns-then-not-is_ambient t c = sym (only-stop _ c.requires _ _ c.record_at-r.ensures _ (sym c.is_ambient.ensures ∙ c.if-not-is_ambient.true))

pub returns-then-left-eq0 : goal.returns-then-left-eq0
returns-then-left-eq0 t c = sym (climb-lost ambients_only _ _ _ (ambient-pos _ c.requires _ _ c.record_at-r.ensures (sym c.is_ambient.ensures ∙ c.if-not-is_ambient.false)) c.if-left-eq0.true)

pub ambients-requires : goal.ambients-requires
ambients-requires t c = (omega (arith, c.decreases), c.requires)

pub returns-then-left-lt4 : goal.returns-then-left-lt4
returns-then-left-lt4 t c = c.ambients.ensures ∙ sym (only-on _ c.requires _ _ c.record_at-r.ensures _ c.if-left-eq0.false (sym c.is_ambient.ensures ∙ c.if-not-is_ambient.false))

pub ambients-requires-2 : goal.ambients-requires-2
ambients-requires-2 t c = (omega (arith, c.decreases), c.requires)

pub returns : goal.returns
returns t c =
    c.ambients-2.ensures
    ∙ sym (only-far _ c.requires _ _ _ c.record_at-r.ensures (sym c.is_ambient.ensures ∙ c.if-not-is_ambient.false) (omega arith) _ _ _ c.up.ensures c.up-2.ensures c.up-3.ensures)
