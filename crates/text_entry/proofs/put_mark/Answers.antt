-- `text_entry::put_mark` meets its contract.
use lib.ListN.{length}
use mathlib.Core.Path.{ap, sym}
use native.Mathlib.Omega.{arith}
use Rattle.text_put.specs.Laws.{put_as, put-nil}
use Rattle.text_form.specs.Laws.Putting.{mark-is, mark-not}
use Rattle.text_form.specs.Lines.{hidden_word}
use Rattle.text_entry.proofs.put_mark.Goals as goal

pub put-requires : goal.put-requires
unfolding hidden_word
put-requires c = omega (arith, c.requires, ap length (mark-is c.args.hidden c.if-hidden.true))

pub returns-then-hidden : goal.returns-then-hidden
unfolding hidden_word
returns-then-hidden c = put_as (sym (mark-is _ c.if-hidden.true)) c.put.ensures

pub returns : goal.returns
returns c = put_as (sym (mark-not _ c.if-hidden.false)) (put-nil _ _)
