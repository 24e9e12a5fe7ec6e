-- `tables::clear_bits` meets its contract: the bits are looked at one by one, and the first that is one decides.
use Rattle.std.proofs.Common.{◌≡◌, ℕ, ◌*◌, ◌+◌, ◌≤◌, ◌<◌, arith, false, not, rules, true, mul-le-mul_left, refl, tests}
use Rattle.std.proofs.lemmas.Iterator.{YieldsList-from_range, cases_from_all, serves_from_Range}
use Rattle.model.specs.Tables.{bits}
use Rattle.tables.specs.Loops.{ranged}
use Rattle.tables.proofs.clear_bits.Goals as goal

pub all-requires-clause-callable : goal.all-requires-clause-callable
all-requires-clause-callable c = serves_from_Range (λ x q k. search rules) (λ x a b. let m = below x b in search (rules, arith))
  where
    below : (x : ℕ) → x < 64 → c.args.step * x ≤ c.args.step * 63
    below x l = mul-le-mul_left c.args.step (omega arith)

pub returns : goal.returns
returns c =
    let f = λ (k : ℕ). not (bits c.args.table.now (c.args.first + c.args.step * k)) in
    ranged 64 f c.all.result (cases_from_all _ _ _ (λ k. f k ≡ true) (λ k. f k ≡ false) c.all.ensures.ran (YieldsList-from_range 0 64 64 refl refl) (λ x q k. search (rules, tests)) (λ x q k. search (rules, tests)))
