-- `table_holds::highs_hold` meets its contract: each label with its class, by the first that is high and not suspect.
use Rattle.std.proofs.Common.{rules, tests}
use Rattle.std.proofs.lemmas.Iterator.{YieldsList-from_slice, cases_from_all}
use Rattle.std.proofs.lemmas.Iterator.Consumers.{YieldsList-at, YieldsList-from_enumerate}
use Rattle.model.specs.Tables.{place_s, suspects}
use Rattle.table_holds.specs.Laws.{HighHeld, HighLeft, highs}
use Rattle.table_holds.proofs.highs_hold.Goals as goal

pub returns : goal.returns
unfolding place_s
returns c =
    let S = suspects c.args.table.now in
    highs c.args.policy.now S c.all.result c.told-policy
    (cases_from_all _ _ _ (HighHeld S) (HighLeft S) c.all.ensures.ran (YieldsList-from_enumerate (YieldsList-at c.enumerate.ensures.source (YieldsList-from_slice c.args.policy.now c.iter.ensures.rest)) c.enumerate.ensures.count) (λ x q k. search (rules, tests)) (λ x q k. search (rules, tests)))
