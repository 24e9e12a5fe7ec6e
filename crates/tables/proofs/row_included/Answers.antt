-- `tables::row_included` meets its contract: what the fold gathers of the pairs of bytes is 0 just where x has no bit more than y.
use Rattle.std.proofs.Common.{◌∙◌, ap, eqb, rules}
use Rattle.std.proofs.lemmas.Iterator.{YieldsList-from_slice, YieldsList-from_zip}
use Rattle.std.proofs.lemmas.Iterator.Consumers.{YieldsList-at, fold_from_yields_List}
use Rattle.tables.specs.Loops.{gathered, with_extra}
use Rattle.tables.proofs.row_included.Goals as goal

pub returns : goal.returns
returns c =
    let x = c.args.x.now in let y = c.args.y.now in
    let chain = YieldsList-from_zip (YieldsList-at c.zip.ensures.first (YieldsList-from_slice x c.iter.ensures.rest)) (YieldsList-from_slice y cc) in
    ap (λ e. eqb e 0) (fold_from_yields_List _ with_extra 0 c.fold.result c.fold.ensures.ran chain (λ a p b q k. search rules)) ∙ gathered x y c.told-x c.told-y c.fits-x c.fits-y
