-- `records::put_parent` meets its contract.
use native.Mathlib.Omega.{arith}
use Rattle.std.proofs.Common.{◌%◌, ◌/◌, ◌∙◌, ◌≡◌, ap, get_or}
use Rattle.records.specs.Written.{parent-stores}
use Rattle.records.proofs.put_parent.Goals as goal

pub returns : goal.returns
returns c =
    let low : get_or c.to_le_bytes.result 0 0 ≡ c.args.q % 256 = ap (λ bs. get_or bs 0 0) c.to_le_bytes.ensures ∙ omega arith in
    let high : get_or c.to_le_bytes.result 1 0 ≡ c.args.q / 256 = ap (λ bs. get_or bs 1 0) c.to_le_bytes.ensures ∙ omega arith in
    rw (low, high) (parent-stores _ _ _ _ c.requires.some c.requires.inside c.requires.whole)
