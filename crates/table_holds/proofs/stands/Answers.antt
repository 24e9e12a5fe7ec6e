-- `table_holds::stands` meets its contract: a bit for the container, and for an ambient one for its name; both lie in the
-- table, by the form of the record.
use mathlib.Core.Path.{◌∙◌, sym}
use native.Mathlib.Omega.{arith}
use Rattle.table_holds.specs.Laws.{ambient-form, stood-ambient, stood-not, stood-other}
use Rattle.model.specs.Tables.{place_h, place_i}
use Rattle.table_holds.proofs.stands.Goals as goal

pub returns-then-not-bit : goal.returns-then-not-bit
unfolding place_i
returns-then-not-bit c = stood-not _ _ _ (sym c.bit.ensures ∙ c.if-not-bit.true)

pub returns-then-not-is_ambient : goal.returns-then-not-is_ambient
unfolding place_i
returns-then-not-is_ambient c = stood-other _ _ _ (sym c.bit.ensures ∙ c.if-not-bit.false) (sym c.is_ambient.ensures ∙ c.if-not-is_ambient.true)

pub bit-requires-2 : goal.bit-requires-2
bit-requires-2 c = let f = ambient-form c.args.r c.requires.shaped (sym c.is_ambient.ensures ∙ c.if-not-is_ambient.false) in let x = f.0 in let y = f.1 in omega arith

pub returns : goal.returns
unfolding place_i place_h
returns c = c.bit-2.ensures ∙ stood-ambient _ _ _ (sym c.bit.ensures ∙ c.if-not-bit.false) (sym c.is_ambient.ensures ∙ c.if-not-is_ambient.false)
