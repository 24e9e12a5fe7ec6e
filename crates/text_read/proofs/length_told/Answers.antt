-- `text_read::length_told` meets its contract.
use Rattle.std.proofs.Common.{◌≡◌, ◌∙◌, ℕ, Bool, true, false, ap, le-leb, refl, sym}
use Rattle.std.proofs.lemmas.Bool.{lt-leb}
use Rattle.std.specs.Prelude.{Ok}
use Rattle.text_form.specs.Reading.{length_told, longest}
use Rattle.text_read.proofs.length_told.Goals as goal

pub returns-in-Err : goal.returns-in-Err
unfolding length_told
returns-in-Err c = rw (lt-leb _ longest c.if-len-gt1065984.true) (sym (ap (length_told false) c.in-Err.is))

pub returns-in_default : goal.returns-in_default
unfolding length_told
returns-in_default c = rw (le-leb _ longest c.if-len-gt1065984.false) (sym c.in-Err.is)

told : (b : Bool) (n : ℕ) → Ok n ≡ length_told b (Ok n)
unfolding length_told
told true n = refl
told false n = refl

pub returns-in_default-2 : goal.returns-in_default-2
returns-in_default-2 c = c.in_default.is ∙ told _ _ ∙ ap (length_told _) (sym c.in_default.is)
