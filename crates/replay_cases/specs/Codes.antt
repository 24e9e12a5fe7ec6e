-- The codes of the calls in a file of cases. (The format is in simulator/README.md.)
use Rattle.std.specs.Prelude.{◌<◌, ℕ, ◌≡◌, ◌⊎◌, Result, Ok, Err}
use Rattle.replay_cases.specs.declared.Call.{Call}
use Rattle.replay_cases.specs.declared.Call.TheVariants as call
use Rattle.replay_cases.specs.declared.Fault.{Fault}

-- "16 to 29": the byte of each call
unfoldable pub code_of : Call → ℕ
code_of call.Validate = 16
code_of call.Climb = 17
code_of call.Sheet = 18
code_of call.Step = 19
code_of call.Run = 20
code_of call.Check = 21
code_of call.Make = 22
code_of call.Verdict = 23
code_of call.Row = 24
code_of call.Screen = 25
code_of call.Exposed = 26
code_of call.Moves = 27
code_of call.Join = 28
code_of call.Copy = 29

-- a call by its code, and a fault where it is no call's
unfoldable pub Reads : ℕ → Result Call Fault → Type 0
Reads code (Ok c) = code_of c ≡ code
Reads code (Err e) = (code < 16) ⊎ (29 < code)
