-- The goals of `observer::hide`; the argument stands in Invariants.
use Rattle.std.proofs.Common.{◌∙◌, ◌≡◌, ◌+◌, refl, sym, arith}
use Rattle.records.specs.Written.{pass-end, pass-length, pass-next, pass-read, pass-whole, written_none}
use Rattle.model.specs.Climbing.{hidden}
use Rattle.model.specs.Observer.{sheet}
use Rattle.model.specs.Records.{count, records}
use Rattle.observer.specs.Labels.{labels, sheet_by}
use Rattle.observer.specs.Laws.{sheet-gone, sheet-stands}
use Rattle.model.proofs.Laws.Bytes.{valid-whole}
use Rattle.observer.proofs.hide.Goals as goal
use Rattle.observer.proofs.hide.Goals.{After-found, then-found, else-found}

-- what is found is whether record i + 1 is hidden
told : (c : After-found) → c.found.result ≡ hidden (records c.args.it.now) (labels c.args.suspects) (c.loop-i.i + 1)
unfolding count
told c = let f = c.found.ensures in (f.noted.noting.told _ _ (omega arith) f.here).is

pub loop-i-init : goal.loop-i-init
loop-i-init c = (c.requires.noting, c.requires.copied ∙ written_none _ _)

pub found-requires-clause-inside : goal.found-requires-clause-inside
unfolding count
found-requires-clause-inside c = omega arith

pub put_record-requires : goal.put_record-requires
unfolding count
put_record-requires c =
    let e = pass-length _ _ _ _ _ c.loop-i.invariant.1 (omega arith) (omega arith) in record { some = omega arith; whole = omega arith }

pub loop-i-preserved : goal.loop-i-preserved
unfolding count
loop-i-preserved c =
    let l = c.loop-i in let h = told (goal.at.loop-i-preserved c).After-found in (
      c.found.ensures.noted.noting,
      elim c.if-found.branch [
        | then-found v ↦ v.sheet-is ∙ v.put_record.ensures ∙ pass-next _ _ _ _ _ l.invariant.1 (omega arith) _ _ refl (c.gone-gone.ensures ∙ sheet-gone _ _ _ _ h v.if-found.true)
        | else-found v ↦ v.sheet-is ∙ sym (pass-whole _ _ _ _ l.invariant.1 (λ j. omega (arith, c.type_inv.it j)) c.requires.valid (omega arith))
            ∙ pass-next _ _ _ _ _ l.invariant.1 (omega arith) _ _ refl (pass-read _ _ _ _ _ l.invariant.1 (omega arith) ∙ sheet-stands _ _ _ _ h v.if-found.false)
      ],
    )

pub returns : goal.returns
unfolding sheet_by sheet count
returns c = pass-end _ _ _ _ _ c.loop-i.invariant.1 (omega arith) (omega (arith, valid-whole _ c.requires.valid))
