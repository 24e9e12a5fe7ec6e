-- The goals of `text_put::put_number`; the argument stands in Invariants.
use Prim.Native.Nat.{◌+◌, ◌/◌, ◌%◌}
use lib.ListN.{length, length-append}
use mathlib.Core.List.{[], ◌∷◌}
use mathlib.Core.Path.{ap, sym}
use native.Mathlib.Omega.{arith}
use Rattle.model.specs.Listing.{digits_in}
use Rattle.text_put.specs.Digits.{digits_1, digits-next}
use Rattle.text_put.specs.Laws.{put_as, put_then}
use Rattle.text_put.proofs.+put_number.Goals as goal

pub overflow_cast-n : goal.overflow_cast-n
overflow_cast-n t c = record { fits = omega arith }

pub put_byte-requires : goal.put_byte-requires
put_byte-requires t c = omega (arith, c.requires, ap length (digits_1 c.args.n c.if-n-le9.true))

pub returns-then-n-le9 : goal.returns-then-n-le9
returns-then-n-le9 t c = put_as (sym (digits_1 c.args.n c.if-n-le9.true)) c.put_byte.ensures

pub put_number-last-requires : goal.put_number-last-requires
put_number-last-requires t c =
    let args = c.args in (omega (arith, c.decreases), omega (arith, c.requires, ap length (digits-next args.n c.if-n-le9.false c.ranges.n.fits), length-append (digits_in 5 (args.n / 10)) ((48 + args.n % 10) ∷ [])))

pub overflow_cast-n-2 : goal.overflow_cast-n-2
overflow_cast-n-2 t c = record { fits = omega arith }

pub put_byte-requires-2 : goal.put_byte-requires-2
put_byte-requires-2 t c =
    let args = c.args in let put-number₁ = c.put_number-last in omega (arith, c.requires, put-number₁.ensures.end, put-number₁.auto.text, ap length (digits-next args.n c.if-n-le9.false c.ranges.n.fits), length-append (digits_in 5 (args.n / 10)) ((48 + args.n % 10) ∷ []))

pub returns : goal.returns
returns t c =
    let args = c.args in let fits = c.ranges in let if1 = c.if-n-le9 in let put-number₁ = c.put_number-last in put_as (sym (digits-next args.n if1.false fits.n.fits)) (put_then put-number₁.ensures c.put_byte-2.ensures (omega (arith, put-number₁.ensures.end, c.put_byte-2.ensures.end, c.requires, ap length (digits-next args.n if1.false fits.n.fits), length-append (digits_in 5 (args.n / 10)) ((48 + args.n % 10) ∷ []))))
