-- Document 01, "The program `hubscreen`": what it writes, from what its three files hold.
use Rattle.std.specs.Prelude.{◌%◌, ◌+◌, ◌/◌, suc, zero, ℕ, leb, length, replicate, false, true, List, [], ◌++◌, ◌∷◌}
use Rattle.std.specs.Prelude.{Option, None, Some}
use Rattle.model.specs.Calls.{screen_answer, screen_answers}
use Rattle.model.specs.Refusals.{Answer, done, refused}
use Rattle.model.specs.Scripts.{Step, steps_in}
use Rattle.model.specs.Numbers.{label_of}
use Rattle.model.specs.declared.Screen.{Screen}
use Rattle.model.specs.declared.Verdict.{Verdict}
use Rattle.model.specs.declared.Verdict.TheVariants.{Exposed, Hinted, Sealed}

-- "A file that can't be opened counts as empty"
unfoldable pub content_of : Option (List ℕ) → List ℕ
content_of None = []
content_of (Some bytes) = bytes

-- the digits of a number below 10 ^ k, as ASCII
unfoldable pub digits_in : ℕ → ℕ → List ℕ
digits_in zero n = []
digits_in (suc k) n = elim (leb n 9) [ true ↦ (48 + n) ∷ [] | false ↦ digits_in k (n / 10) ++ ((48 + n % 10) ∷ []) ]

-- a field that is a number, before the rest of its line: "Fields stand one space apart"
unfoldable pub field : ℕ → List ℕ → List ℕ
field n rest = digits_in 5 n ++ (32 ∷ rest)

-- the last field of a line: "each line ends with byte 10"
unfoldable pub last_field : ℕ → List ℕ → List ℕ
last_field n rest = digits_in 5 n ++ (10 ∷ rest)

-- "exposed", "hinted", "sealed", each with the space after it
unfoldable pub verdict_word : Verdict → List ℕ
verdict_word (Exposed k) = 101 ∷ 120 ∷ 112 ∷ 111 ∷ 115 ∷ 101 ∷ 100 ∷ 32 ∷ []
verdict_word (Hinted k) = 104 ∷ 105 ∷ 110 ∷ 116 ∷ 101 ∷ 100 ∷ 32 ∷ []
verdict_word Sealed = 115 ∷ 101 ∷ 97 ∷ 108 ∷ 101 ∷ 100 ∷ 32 ∷ []

-- "end", with the space after it
unfoldable pub end_word : List ℕ
end_word = 101 ∷ 110 ∷ 100 ∷ 32 ∷ []

-- "refused", with the space after it
unfoldable pub refused_word : List ℕ
refused_word = 114 ∷ 101 ∷ 102 ∷ 117 ∷ 115 ∷ 101 ∷ 100 ∷ 32 ∷ []

-- "Then actor, partner, answer.": a line for each step
unfoldable pub step_lines : List Step → List ℕ → List ℕ → List ℕ
step_lines [] answers rest = rest
step_lines (m ∷ ms) [] rest = rest
step_lines (m ∷ ms) (a ∷ answers) rest = field m.actor (field m.partner (last_field a (step_lines ms answers rest)))

-- "Last: ins, outs, opens done, records not gone."
unfoldable pub end_line : Screen → List ℕ
end_line x = end_word ++ field x.counts.ins (field x.counts.outs (field x.counts.opens (last_field x.records [])))

-- "Line one: verdict, its label (0 if sealed), bits set." "A refusal writes only one line": "number, record"
unfoldable pub listing : Answer Screen → List Step → List ℕ → List ℕ
listing (done x) ms answers = verdict_word x.verdict ++ field (label_of x.verdict) (last_field x.ones (step_lines ms answers (end_line x)))
listing (refused n r) ms answers = refused_word ++ field n (last_field r [])

-- with one answer for each step of the script; "one that is too long gets the refusal for its length"
unfoldable pub written : List ℕ → List ℕ → List ℕ → List ℕ
written s policy script =
    let answers : List ℕ = replicate (length script / 4) 0 in
    listing (screen_answer s policy script answers) (steps_in script) (screen_answers s policy script answers)

-- what hubscreen writes
unfoldable pub hubscreen : Option (List ℕ) → Option (List ℕ) → Option (List ℕ) → List ℕ
hubscreen itinerary policy script = written (content_of itinerary) (content_of policy) (content_of script)
