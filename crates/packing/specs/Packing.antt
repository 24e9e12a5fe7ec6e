-- How an answer becomes a call's result for callers in other languages: number 0, record 0 and the values where it is done;
-- the refusal's number and record, and values 0, where it is refused.
use Rattle.std.specs.Prelude.{ℕ, length, Bool, List}
use Rattle.packing.specs.declared.climb.HubClimbResult.{HubClimbResult}
use Rattle.packing.specs.declared.copy.HubCopyResult.{HubCopyResult}
use Rattle.packing.specs.declared.counts.HubCounts.{HubCounts}
use Rattle.packing.specs.declared.exposed.HubExposedResult.{HubExposedResult}
use Rattle.packing.specs.declared.found.HubFound.{HubFound}
use Rattle.packing.specs.declared.make.HubMakeResult.{HubMakeResult}
use Rattle.packing.specs.declared.moves.HubMovesResult.{HubMovesResult}
use Rattle.packing.specs.declared.row.HubRowResult.{HubRowResult}
use Rattle.packing.specs.declared.run.HubRunResult.{HubRunResult}
use Rattle.packing.specs.declared.screen.HubScreenResult.{HubScreenResult}
use Rattle.packing.specs.declared.status.HubStatus.{HubStatus}
use Rattle.packing.specs.declared.validate.HubValidateResult.{HubValidateResult}
use Rattle.packing.specs.declared.verdict.HubVerdictResult.{HubVerdictResult}
use Rattle.model.specs.Finite.{one_if}
use Rattle.model.specs.Calls.{row_of, row_start}
use Rattle.model.specs.Numbers.{label_of, verdict_code}
use Rattle.model.specs.Refusals.{Answer, done, refused}
use Rattle.model.specs.declared.Above.{Above}
use Rattle.model.specs.declared.Counts.{Counts}
use Rattle.model.specs.declared.Screen.{Screen}
use Rattle.model.specs.declared.Tally.{Tally}
use Rattle.model.specs.declared.Verdict.{Verdict}

-- the interface's version, major * 65,536 + minor * 256 + patch: 4.0.0
unfoldable pub version : ℕ
version = 262144

-- "number, record", which each result begins with
unfoldable pub status : ℕ → ℕ → HubStatus
status n i = record { number = n; «record» = i }

-- a verdict: which, and its label, 0 if sealed
unfoldable pub found : Verdict → HubFound
found v = record { verdict = verdict_code v; label = label_of v }

-- no verdict
unfoldable pub unfound : HubFound
unfound = record { verdict = 0; label = 0 }

-- ins, outs and opens done
unfoldable pub counts : Counts → HubCounts
counts c = record { ins = c.ins; outs = c.outs; opens = c.opens }

-- none done
unfoldable pub uncounted : HubCounts
uncounted = record { ins = 0; outs = 0; opens = 0 }

-- sheet, step, check and join: nothing but that it was done
unfoldable pub done_result : Answer (Unit {0}) → HubStatus
done_result (done u) = status 0 0
done_result (refused n i) = status n i

-- validate: the number of records
unfoldable pub validate_result : Answer ℕ → HubValidateResult
validate_result (done n) = record { status = status 0 0; records = n }
validate_result (refused n i) = record { status = status n i; records = 0 }

-- climb: the container's label, and the boundary's number
unfoldable pub climb_result : Answer Above → HubClimbResult
climb_result (done a) = record { status = status 0 0; label = a.label; boundary = a.boundary }
climb_result (refused n i) = record { status = status n i; label = 0; boundary = 0 }

-- run: ins, outs and opens done
unfoldable pub run_result : Answer Counts → HubRunResult
run_result (done c) = record { status = status 0 0; counts = counts c }
run_result (refused n i) = record { status = status n i; counts = uncounted }

-- copy: how many records were copied
unfoldable pub copy_result : Answer ℕ → HubCopyResult
copy_result (done n) = record { status = status 0 0; copied = n }
copy_result (refused n i) = record { status = status n i; copied = 0 }

-- moves: how many pairs would answer 0, 10, 11 and 12
unfoldable pub moves_result : Answer Tally → HubMovesResult
moves_result (done t) = record {
  status = status 0 0;
  done = t.done;
  no_capability = t.no_capability;
  inactive = t.inactive;
  unfit = t.unfit;
}
moves_result (refused n i) = record { status = status n i; done = 0; no_capability = 0; inactive = 0; unfit = 0 }

-- make: how many bits are one
unfoldable pub make_result : Answer ℕ → HubMakeResult
make_result (done n) = record { status = status 0 0; bits = n }
make_result (refused n i) = record { status = status n i; bits = 0 }

-- verdict: which, and its label, 0 if sealed
unfoldable pub verdict_result : Answer Verdict → HubVerdictResult
verdict_result (done v) = record { status = status 0 0; found = found v }
verdict_result (refused n i) = record { status = status n i; found = unfound }

-- exposed: 1 for yes, 0 for no
unfoldable pub exposed_result : Answer Bool → HubExposedResult
exposed_result (done b) = record { status = status 0 0; exposed = one_if b }
exposed_result (refused n i) = record { status = status n i; exposed = 0 }

-- a part of the table: its offset and its length
unfoldable pub part_result : ℕ → ℕ → HubRowResult
part_result offset len = record { status = status 0 0; offset = offset; length = len }

-- row: where it starts in the table and how long it is, both 0 for the empty part
unfoldable pub row_result : List ℕ → ℕ → HubRowResult
row_result table label = part_result (row_start table label) (length (row_of table label))

-- screen: the verdict and its label, the table's bits set, ins, outs and opens done, records not gone
unfoldable pub screen_result : Answer Screen → HubScreenResult
screen_result (done x) = record { status = status 0 0; found = found x.verdict; bits = x.ones; counts = counts x.counts; records = x.records }
screen_result (refused n i) = record { status = status n i; found = unfound; bits = 0; counts = uncounted; records = 0 }
