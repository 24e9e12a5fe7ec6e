-- `table_closure::count_capabilities` meets its contract: the sum over the labels is at most 64 for each.
use Rattle.std.proofs.Common.{◌*◌, ◌+◌, ◌<◌, ◌^◌, ℕ, ◌∙◌, arith, get_or, refl, rules}
use Rattle.std.proofs.lemmas.Iterator.{YieldsList-from_map, YieldsList-from_range}
use Rattle.std.proofs.lemmas.Iterator.Consumers.{YieldsList-at, fits_by_from_yields_list, sum_by_from_yields_List}
use Rattle.std.specs.Int.Count.{ones}
use Rattle.std.specs.List.{range_with_len, sum_by}
use Rattle.table_closure.specs.Capabilities.{capabilities-le, capabilities-sum}
use Rattle.table_closure.proofs.count_capabilities.Goals as goal

pub returns : goal.returns
returns c =
    let w = c.args.w.now in let h = λ (i : ℕ). ones (get_or w (1 + 2 * i) 0) in
    sum_by_from_yields_List h (range_with_len 0 64) c.map.result _ c.sum.ensures.ran (YieldsList-from_map _ h (YieldsList-at c.map.ensures.source (YieldsList-from_range 0 64 64 refl refl)) c.map.ensures.closure (λ x r q k. search rules)) ∙ capabilities-sum w

pub sum-requires-clause-fits : goal.sum-requires-clause-fits
sum-requires-clause-fits c =
    let w = c.args.w.now in let h = λ (i : ℕ). ones (get_or w (1 + 2 * i) 0) in
    let few : sum_by h (range_with_len 0 64) < 2 ^ 32 = omega (arith, capabilities-sum w, capabilities-le w 64 c.fits-w) in
    fits_by_from_yields_list h (range_with_len 0 64) c.map.result _ (YieldsList-from_map _ h (YieldsList-at c.map.ensures.source (YieldsList-from_range 0 64 64 refl refl)) c.map.ensures.closure (λ x r q k. search rules)) few
