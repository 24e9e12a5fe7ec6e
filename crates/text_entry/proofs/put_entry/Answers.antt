-- `text_entry::put_entry` meets its contract.
use Prim.Native.Nat.{◌*◌, ℕ}
use lib.ListN.{length-replicate}
use native.Mathlib.Omega.{arith}
use Rattle.text_form.specs.Laws.Putting.{entry_length, entry-put}
use Rattle.text_form.specs.Parts.{numbered}
use Rattle.text_form.specs.Writing.{mark}
use Rattle.text_entry.proofs.put_entry.Goals as goal

pub put_spaces-first-requires : goal.put_spaces-first-requires
put_spaces-first-requires c = omega (arith, c.requires.fits, entry_length (numbered c.args.number) (mark c.args.hidden) c.args.line, length-replicate {0} {A = ℕ} (2 * c.args.line.depth) 32)

pub put_front-word-requires : goal.put_front-word-requires
put_front-word-requires c =
    let args = c.args in let put-spaces = c.put_spaces-first in omega (arith, c.requires.fits, entry_length (numbered args.number) (mark args.hidden) args.line, length-replicate {0} {A = ℕ} (2 * args.line.depth) 32, put-spaces.ensures.end, put-spaces.auto.text)

pub put_fields-back-requires : goal.put_fields-back-requires
put_fields-back-requires c =
    let args = c.args in let put-spaces = c.put_spaces-first in let put_front = c.put_front-word in let pre = c.requires in omega (arith, pre.fits, entry_length (numbered args.number) (mark args.hidden) args.line, length-replicate {0} {A = ℕ} (2 * args.line.depth) 32, put-spaces.ensures.end, put-spaces.auto.text, put_front.ensures.end, put_front.auto.text)

pub put_mark-end-requires : goal.put_mark-end-requires
put_mark-end-requires c =
    let args = c.args in let put-spaces = c.put_spaces-first in let put_front = c.put_front-word in let put-fields = c.put_fields-back in let pre = c.requires in omega (arith, pre.fits, entry_length (numbered args.number) (mark args.hidden) args.line, length-replicate {0} {A = ℕ} (2 * args.line.depth) 32, put-spaces.ensures.end, put-spaces.auto.text, put_front.ensures.end, put_front.auto.text, put-fields.ensures.end, put-fields.auto.text)

pub put_byte-requires : goal.put_byte-requires
put_byte-requires c =
    let args = c.args in let put-spaces = c.put_spaces-first in let put_front = c.put_front-word in let put-fields = c.put_fields-back in let put-mark = c.put_mark-end in let pre = c.requires in omega (arith, pre.fits, entry_length (numbered args.number) (mark args.hidden) args.line, length-replicate {0} {A = ℕ} (2 * args.line.depth) 32, put-spaces.ensures.end, put-spaces.auto.text, put_front.ensures.end, put_front.auto.text, put-fields.ensures.end, put-fields.auto.text, put-mark.ensures.end, put-mark.auto.text)

pub returns : goal.returns
returns c =
    let pre = c.requires in let put-spaces = c.put_spaces-first in let put_front = c.put_front-word in let put-fields = c.put_fields-back in entry-put _ _ _ pre.fits put-spaces.ensures put_front.ensures put-fields.ensures c.put_mark-end.ensures c.put_byte.ensures
