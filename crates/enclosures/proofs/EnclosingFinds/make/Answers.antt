-- `enclosures::Enclosing::make` meets its contract: by the record's kind and its label's class.
use Rattle.std.proofs.Common.{◌≡◌, ◌∙◌, ◌<◌, sym, true}
use Rattle.enclosures.specs.Laws.{made-ambient, made-boundary, made-other}
use Rattle.model.specs.Records.{is_ambient}
use Rattle.records.specs.Climbs.{ambient-kind}
use Rattle.enclosures.proofs.EnclosingFinds.make.Goals as goal
use Rattle.enclosures.proofs.EnclosingFinds.make.Goals.{Else-not-is_ambient}

ambient : (c : Else-not-is_ambient) → is_ambient c.record_in-r.result ≡ true
ambient c = sym c.is_ambient.ensures ∙ c.if-not-is_ambient.false

small : (c : Else-not-is_ambient) → c.record_in-r.result.label < 64
small c = rw c.record_in-r.ensures (c.requires.labelled (rw (← c.record_in-r.ensures) (ambient-kind _ (ambient c))))

pub returns-then-not-is_ambient : goal.returns-then-not-is_ambient
returns-then-not-is_ambient c = rw (← c.record_in-r.ensures) (made-other _ _ _ _ (sym c.is_ambient.ensures ∙ c.if-not-is_ambient.true))

pub bounds-self-label : goal.bounds-self-label
bounds-self-label c = small (goal.at.bounds-self-label c).Else-not-is_ambient

pub returns-then-self-label-eq-BOUNDARY : goal.returns-then-self-label-eq-BOUNDARY
returns-then-self-label-eq-BOUNDARY c = rw (← c.record_in-r.ensures) (made-boundary _ _ _ _ (ambient (goal.at.returns-then-self-label-eq-BOUNDARY c).Else-not-is_ambient) c.if-self-label-eq-BOUNDARY.true)

pub returns : goal.returns
returns c = rw (← c.record_in-r.ensures) (made-ambient _ _ _ _ (ambient (goal.at.returns c).Else-not-is_ambient) c.if-self-label-eq-BOUNDARY.false)
