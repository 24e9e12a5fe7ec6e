-- `table_least::count_ones` meets its contract: the sum is that of the bytes' one bits, at most 12,352.
use Rattle.std.proofs.Common.{◌<◌, ◌∙◌, arith, rules}
use Rattle.std.proofs.lemmas.Iterator.{YieldsList-from_map, YieldsList-from_slice}
use Rattle.std.proofs.lemmas.Iterator.Consumers.{YieldsList-at, fits_by_from_yields_list, sum_by_from_yields_List}
use Rattle.std.specs.Int.Count.{ones}
use Rattle.std.specs.List.{sum_by}
use Rattle.table_words.specs.Sums.{total-le, total-sum}
use Rattle.table_least.proofs.count_ones.Goals as goal

pub returns : goal.returns
returns c =
    let t = c.args.table.now in
    sum_by_from_yields_List ones t c.map.result _ c.sum.ensures.ran (YieldsList-from_map _ ones (YieldsList-at c.map.ensures.source (YieldsList-from_slice t c.iter.ensures.rest)) c.map.ensures.closure (λ x r q k. search rules)) ∙ total-sum t

pub sum-requires-clause-fits : goal.sum-requires-clause-fits
sum-requires-clause-fits c =
    let t = c.args.table.now in
    let few : sum_by ones t < 65536 = omega (arith, total-sum t, total-le 8 t c.fits-table, c.told-table) in
    fits_by_from_yields_list ones t c.map.result _ (YieldsList-from_map _ ones (YieldsList-at c.map.ensures.source (YieldsList-from_slice t c.iter.ensures.rest)) c.map.ensures.closure (λ x r q k. search rules)) few
