-- `screens::screen_with` meets its contract: the table is made, judged and not kept, and then the script is run.
use Rattle.model.proofs.Laws.Checks.{passes}
use Rattle.model.specs.Calls.{entry, screening}
use Rattle.screens.specs.Laws.{run-sized, screen-done}
use Rattle.screens.proofs.screen_with.Goals as goal

pub invariant_of-write_least : goal.invariant_of-write_least
unfolding screening entry
invariant_of-write_least c = let e = c.requires in search passes depth 20

pub run-counts-requires : goal.run-counts-requires
unfolding screening entry
run-counts-requires c =
    let e = c.requires in record { valid = search passes depth 20; right = search passes depth 20 }

pub not_gone-requires : goal.not_gone-requires
unfolding screening entry
not_gone-requires c =
    let e = c.requires in let w = run-sized _ _ _ (search passes depth 20) c.run-counts.ensures.itinerary in record { whole = w.0; few = w.1 }

pub returns : goal.returns
returns c =
    let r = c.run-counts.ensures in
    let w = screen-done _ _ _ _ c.requires _ c.write_least-ones.new.table _ _
    c.write_least-ones.ensures.made c.write_least-ones.ensures.counted c.verdict_of-verdict.ensures (r.counts, r.itinerary, r.answers) c.not_gone.ensures in
    record { answer = w.0; itinerary = w.1; answers = w.2 }
