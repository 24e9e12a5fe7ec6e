-- `records::put_record` meets its contract.
use lib.ListN.{length-set}
use native.Mathlib.Omega.{arith}
use Rattle.std.proofs.Common.{◌%◌, ◌/◌, ◌∙◌, ◌≡◌, ap, get_or}
use Rattle.records.specs.Written.{stores}
use Rattle.records.proofs.put_record.Goals as goal

pub bounds-it-at-2 : goal.bounds-it-at-2
bounds-it-at-2 c = simp length-set (omega arith)

pub bounds-it-at-3 : goal.bounds-it-at-3
bounds-it-at-3 c = simp length-set (omega arith)

pub bounds-it-at-4 : goal.bounds-it-at-4
bounds-it-at-4 c = simp length-set (omega arith)

pub bounds-it-at-5 : goal.bounds-it-at-5
bounds-it-at-5 c = simp length-set (omega arith)

pub bounds-it-at-6 : goal.bounds-it-at-6
bounds-it-at-6 c = simp length-set (omega arith)

pub bounds-it-at-7 : goal.bounds-it-at-7
bounds-it-at-7 c = simp length-set (omega arith)

pub bounds-it-at-8 : goal.bounds-it-at-8
bounds-it-at-8 c = simp length-set (omega arith)

pub returns : goal.returns
returns c =
    let low : get_or c.to_le_bytes.result 0 0 ≡ c.args.r.parent % 256 = ap (λ bs. get_or bs 0 0) c.to_le_bytes.ensures ∙ omega arith in
    let high : get_or c.to_le_bytes.result 1 0 ≡ c.args.r.parent / 256 = ap (λ bs. get_or bs 1 0) c.to_le_bytes.ensures ∙ omega arith in
    let near : get_or c.to_le_bytes-2.result 0 0 ≡ c.args.r.client % 256 = ap (λ bs. get_or bs 0 0) c.to_le_bytes-2.ensures ∙ omega arith in
    let far : get_or c.to_le_bytes-2.result 1 0 ≡ c.args.r.client / 256 = ap (λ bs. get_or bs 1 0) c.to_le_bytes-2.ensures ∙ omega arith in
    rw (low, high, near, far) (stores _ _ _ c.requires.some c.requires.whole)
