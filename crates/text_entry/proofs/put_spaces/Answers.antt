-- `text_entry::put_spaces` meets its contract: the part that is filled is as long as the spaces.
use Rattle.std.proofs.Common.{◌≡◌, ◌∙◌, ◌+◌, ◌-◌, ap, arith, drop, length, length-drop, length-take-le, replicate, sym, take}
use Rattle.std.proofs.lemmas.List.{length-replicate}
use Rattle.text_put.specs.Laws.{put-part}
use Rattle.text_entry.proofs.put_spaces.Goals as goal

pub returns : goal.returns
returns c =
    let at = c.args.at in
    let n = c.args.n in
    let k : length (take (at + n - at) (drop at c.args.text.now)) ≡ n = length-take-le _ _ (omega (arith, length-drop at c.args.text.now)) ∙ omega arith in
    put-part _ _ _ (sym (length-replicate _ _)) (c.fill.ensures.after (λ y e. e) ∙ ap (λ m. replicate m 32) k)
