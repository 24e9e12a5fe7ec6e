-- What document 02's Job 6 promises of joining. A join is taken apart member by member, each with the others behind it.
use Rattle.std.specs.Prelude.{◌*◌, ◌+◌, ◌/◌, ◌<◌, suc, zero, ℕ, length, map, Bool, ◌&&◌, true, List, [], ◌++◌, ◌∷◌, ◌≡◌}
use Rattle.std.proofs.Common.{◌∙◌, ap, ap₂, sym, arith}
use mathlib.Core.List.{append-nil}
use Rattle.joins.specs.Behind.{behind-none, both, both-length, join-next, join-none}
use Rattle.joins.specs.Forests.{both-wf, none-wf}
use Rattle.joins.specs.Sheets.{both-sheet}
use Rattle.joins.specs.Tables.{both-holds}
use Rattle.model.specs.Analysis.{Permit, holds, permit_all}
use Rattle.model.specs.Calls.{check_answer, checking, join_after, join_answer, joining}
use Rattle.model.specs.Finite.{Each, tabulate}
use Rattle.model.specs.Joins.{four, join, join_bytes}
use Rattle.model.specs.Observer.{sheet, sheet_of}
use Rattle.model.specs.Records.{byte, count, encode, records, update_from}
use Rattle.model.specs.Refusals.{done, pass}
use Rattle.model.specs.Requests.{JoinAccepted, JoinAlone, JoinHolds, JoinSecrecy, JoinSheet, JoinSheetsEqual, JoinValid, Valid}
use Rattle.model.specs.Tables.{Table, bits, parts, suspects}
use Rattle.model.specs.Validity.{validity}
use Rattle.model.specs.declared.Rec.{Rec}
use Rattle.model.proofs.Laws.Booleans.{and_left, and-make, and_right}
use Rattle.model.proofs.Laws.Bytes.{encode-records, length-encode, length-records, records-encode, valid-passed, valid-wf, wf-valid}
use Rattle.model.proofs.Laws.Checks.{answer-done, answer-pass, content-new, then-right}
use Rattle.model.proofs.Laws.Holding.{holds-complete, holds-sound}
use Rattle.model.proofs.Laws.Secrecy.{accept, accepted, noninterference, sheet-records}
use Rattle.model.proofs.Laws.WellFormed.{WellFormed}

-- the join of valid members, and of one alone
pub join-wf : (members : List (List ℕ)) → Valid members → WellFormed (join members)
join-wf [] v = rw join-none none-wf
join-wf (s ∷ ss) v = rw (join-next s ss) (both-wf (valid-wf s v.0) (join-wf ss v.1))

both-none : (its : List Rec) → both its [] ≡ its
unfolding both
both-none its = append-nil its

pub join-one : (s : List ℕ) → join (s ∷ []) ≡ records s
join-one s = join-next s [] ∙ ap (both (records s)) join-none ∙ both-none (records s)

-- one table for all
module _ (permit : Permit) (policy : List ℕ) (T : Table) where
  abbrev held : List Rec → Bool
  held its = holds permit policy its T

  holds-next : (s : List ℕ) (ss : List (List ℕ)) → validity s ≡ pass → Valid ss → held (join (s ∷ ss)) ≡ (held (records s) && held (join ss))
  holds-next s ss v vs = ap held (join-next s ss) ∙ both-holds (valid-wf s v) (join-wf ss vs) permit policy T

pub join-holds : JoinHolds
join-holds permit policy T a b c d v =
    let h : List Rec → Bool = λ its. holds permit policy its T in
    let next = holds-next permit policy T in
    next a (b ∷ c ∷ d ∷ []) v.0 v.1
    ∙ ap (λ t. h (records a) && t)
    (next b (c ∷ d ∷ []) v.1.0 v.1.1
    ∙ ap (λ t. h (records b) && t) (next c (d ∷ []) v.1.1.0 v.1.1.1 ∙ ap (λ its. h (records c) && h its) (join-one d)))

-- the joined bytes
pub join-records : (members : List (List ℕ)) → records (join_bytes members) ≡ join members
unfolding join_bytes
join-records members = records-encode (join members)

pub join-valid : JoinValid
unfolding join_bytes
join-valid members v l = (wf-valid (join-wf members v) l, join-records members)

-- the table is accepted for the join exactly when it is accepted for each
pub join-accepted : JoinAccepted
join-accepted policy table a b c d v l = (each, whole)
  where
    joined : List ℕ
    joined = join_bytes (four a b c d)

    held : List ℕ → Bool
    held s = holds permit_all policy (records s) (parts (bits table))

    accepts : List ℕ → Type 0
    accepts s = check_answer s policy table ≡ done tt

    held-by : (s : List ℕ) → accepts s → held s ≡ true
    held-by s h = holds-complete permit_all policy (records s) (parts (bits table)) (accepted s policy table h).holding

    -- 7 and 8 say the same of the policy and the table, whatever itinerary they passed for
    by-held : (x : List ℕ) → accepts x → (s : List ℕ) → validity s ≡ pass → held s ≡ true → accepts s
    by-held x h s u e =
        let w = accepted x policy table h in
        accept s policy table
        (record { valid = u; policy-right = w.policy-right; table-right = w.table-right; holding = holds-sound permit_all policy (records s) (parts (bits table)) e })

    same : held joined ≡ (held a && (held b && (held c && held d)))
    same = ap (λ its. holds permit_all policy its (parts (bits table))) (join-records (four a b c d)) ∙ join-holds permit_all policy (parts (bits table)) a b c d v

    each : accepts joined → Each accepts (four a b c d)
    each h =
        let one = by-held joined h in
        let e = sym same ∙ held-by joined h in
        let f = and_right (held a) _ e in
        let g = and_right (held b) _ f in
        (one a v.0 (and_left _ _ e), (one b v.1.0 (and_left _ _ f), (one c v.1.1.0 (and_left _ _ g), (one d v.1.1.1.0 (and_right (held c) _ g), tt))))

    whole : Each accepts (four a b c d) → accepts joined
    whole h = by-held a h.0 joined (join-valid (four a b c d) v l).0
        (same ∙ and-make (held-by a h.0) (and-make (held-by b h.1.0) (and-make (held-by c h.1.1.0) (held-by d h.1.1.1.0))))

-- unused places
join-unused : (ss : List (List ℕ)) → join ([] ∷ ss) ≡ join ss
unfolding both records count tabulate
join-unused ss = join-next [] ss ∙ behind-none (join ss)

unused-behind : (ss : List (List ℕ)) → Each (λ u. u ≡ []) ss → join ss ≡ []
unused-behind [] e = join-none
unused-behind (u ∷ us) e = ap (λ x. join (x ∷ us)) e.0 ∙ join-unused us ∙ unused-behind us e.1

byte-small : (s : List ℕ) → Each (λ x. x < 256) s → (j : ℕ) → byte s j < 256
byte-small [] e j = omega arith
byte-small (x ∷ s) e zero = e.0
byte-small (x ∷ s) e (suc j) = byte-small s e.1 j

pub join-alone : JoinAlone
unfolding join_bytes
join-alone [] after s e f v small =
    ap encode (join-next s after ∙ ap (both (records s)) (unused-behind after f) ∙ both-none (records s))
    ∙ encode-records s (byte-small s small) (valid-passed s v)
join-alone (u ∷ us) after s e f v small = ap (λ x. join_bytes (x ∷ us ++ s ∷ after)) e.0 ∙ ap encode (join-unused (us ++ s ∷ after)) ∙ join-alone us after s e.1 f v small

-- sheets
sheets-join : (members : List (List ℕ)) (table : List ℕ) → Valid members → sheet (join members) (suspects table) ≡ join (map (λ s. sheet_of s table) members)
unfolding sheet update_from
sheets-join [] table v = ap (λ its. sheet its (suspects table)) join-none ∙ sym join-none
sheets-join (s ∷ ss) table v =
    ap (λ its. sheet its (suspects table)) (join-next s ss)
    ∙ both-sheet (valid-wf s v.0) (join-wf ss v.1) (suspects table)
    ∙ ap₂ both (sym (sheet-records s table)) (sheets-join ss table v.1)
    ∙ sym (join-next (sheet_of s table) (map (λ x. sheet_of x table) ss))

pub join-sheet : JoinSheet
unfolding join_bytes sheet_of
join-sheet members table v l = ap encode (ap (λ its. sheet its (suspects table)) (join-records members) ∙ sheets-join members table v)

-- how many records are joined, and the same by the lengths of the members
pub join-count : (s : List ℕ) (ss : List (List ℕ)) → length (join (s ∷ ss)) ≡ count s + length (join ss)
join-count s ss = ap length (join-next s ss) ∙ both-length (records s) (join ss) ∙ ap (λ n. n + length (join ss)) (length-records s)

eighths : List ℕ → ℕ
eighths [] = 0
eighths (n ∷ ns) = n / 8 + eighths ns

join-length : (members : List (List ℕ)) → length (join members) ≡ eighths (map length members)
unfolding eighths count
join-length [] = ap length join-none
join-length (s ∷ ss) = join-count s ss ∙ ap (λ n. count s + n) (join-length ss)

pub join-sheets-equal : JoinSheetsEqual
unfolding join_bytes
join-sheets-equal xs ys table vx vy l e f =
    let same : length (join xs) ≡ length (join ys) = join-length xs ∙ ap eighths e ∙ sym (join-length ys) in (
      length-encode (join xs) ∙ ap (λ n. 8 * n) same ∙ sym (length-encode (join ys)),
      join-sheet xs table vx l ∙ ap join_bytes f ∙ sym (join-sheet ys table vy (omega (arith, same, l))),
    )

-- secrecy, of what the call let through and wrote
module _ (members : List (List ℕ)) (policy table buffer : List ℕ) (h : join_answer members policy table buffer ≡ done tt) where
  joined-pass : joining members policy table buffer ≡ pass
  unfolding join_answer
  joined-pass = answer-done (joining members policy table buffer) tt tt h

  pub joined-bytes : join_after members policy table buffer ≡ join_bytes members
  unfolding join_after
  joined-bytes = sym (content-new (join_bytes members) buffer joined-pass)

  pub joined-accepted : check_answer (join_after members policy table buffer) policy table ≡ done tt
  unfolding check_answer joining
  joined-accepted = ap (λ s. check_answer s policy table) joined-bytes ∙ answer-pass tt (then-right _ (checking (join_bytes members) policy table) joined-pass)

pub join-secrecy : JoinSecrecy
join-secrecy policy table xs ys bx by e hx hy sealed same es =
    noninterference policy table _ _ e (joined-accepted xs policy table bx hx) (joined-accepted ys policy table by hy) sealed same es
