-- The answers of the code, each a Result: 01's number, record and values for each of its cases.
use Rattle.std.specs.Prelude.{ℕ, Result, Ok, Err}
use Rattle.model.specs.Refusals.{Check, pass, refuse, Answer, done, refused}
use Rattle.model.specs.Steps.{Outcome, done-by, refused-with}
use Rattle.model.specs.declared.Capability.{Capability}
use Rattle.model.specs.declared.Cause.{Cause}
use Rattle.model.specs.declared.Cause.TheVariants as cause
use Rattle.model.specs.declared.Refusal.{Refusal}
use Rattle.model.specs.declared.Verdict.{Verdict}
use Rattle.model.specs.declared.Verdict.TheVariants as verdict

-- 01's "Refusal table": the number of each cause
unfoldable pub number_of : Cause → ℕ
number_of cause.Length = 1
number_of cause.Form = 2
number_of cause.Label = 3
number_of cause.Name = 4
number_of cause.Parent = 5
number_of cause.Climb = 6
number_of cause.Policy = 7
number_of cause.Table = 8
number_of cause.Holds = 9
number_of cause.Actor = 10
number_of cause.Active = 11
number_of cause.Partner = 12
number_of cause.Script = 13
number_of cause.Sheet = 14
number_of cause.List = 15
number_of cause.Set = 16
number_of cause.Replication = 17
number_of cause.Room = 18

-- the refusal of a cause that is no record's: "record 0"
unfoldable pub unplaced : Cause → Refusal
unplaced c = record { cause = c; «record» = 0 }

-- "number, record"
unfoldable pub refusal : {A : Type 0} → Refusal → Answer A
refusal r = refused (number_of r.cause) r.«record»

-- what the checks of a call found: they pass, or the first of them that refuses
unfoldable pub check_as : {A : Type 0} → Result A Refusal → Check
check_as (Ok x) = pass
check_as (Err r) = refuse (number_of r.cause) r.«record»

-- the answer of a call: what it returns, or its refusal
unfoldable pub answer_as : {A : Type 0} → Result A Refusal → Answer A
answer_as (Ok x) = done x
answer_as (Err r) = refusal r

-- what becomes of a step: done, by which capability, or refused, with its number
unfoldable pub outcome_as : Result Capability Cause → Outcome
outcome_as (Ok k) = done-by k
outcome_as (Err c) = refused-with (number_of c)

-- which verdict it is: 01's "exposed", "hinted", "sealed" as the numbers 1, 2, 3 of the C interface
unfoldable pub verdict_code : Verdict → ℕ
verdict_code (verdict.Exposed k) = 1
verdict_code (verdict.Hinted k) = 2
verdict_code verdict.Sealed = 3

-- "its label (0 if sealed)"
unfoldable pub label_of : Verdict → ℕ
label_of (verdict.Exposed k) = k
label_of (verdict.Hinted k) = k
label_of verdict.Sealed = 0
