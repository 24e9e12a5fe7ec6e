-- How many records are not gone, one after the other.
use Rattle.std.specs.Prelude.{◌%◌, ◌+◌, ◌/◌, suc, ℕ, length, List, ◌≡◌, refl}
use Rattle.std.proofs.Common.{◌∙◌, ap, sym, add-one, arith}
use Rattle.model.specs.Finite.{one_if, tally, unequal}
use Rattle.model.proofs.Laws.Bytes.{at-whole, length-records}
use Rattle.model.specs.Records.{at, count, decode, records}
use Rattle.model.specs.Scripts.{not_gone}
use Rattle.model.specs.declared.Rec.{Rec}

-- how many of the records up to i are not gone
unfoldable pub not_gone_to : List ℕ → ℕ → ℕ
not_gone_to s i = tally (λ j. unequal (at (records s) j).kind 0) i

pub none_yet : (s : List ℕ) → 0 ≡ not_gone_to s 0
unfolding not_gone_to tally
none_yet s = refl

-- one record more
pub one_more : (s : List ℕ) → length s % 8 ≡ 0 → (i sum k : ℕ) (r : Rec) → sum ≡ not_gone_to s i → r ≡ decode s (i + 1) → k ≡ one_if (unequal r.kind 0) → sum + k ≡ not_gone_to s (i + 1)
unfolding not_gone_to tally
one_more s w i sum k r e f g =
    let h : at (records s) (suc i) ≡ r = at-whole s w (suc i) ∙ sym (f ∙ ap (decode s) (add-one i)) in
    let a : one_if (unequal (at (records s) (suc i)).kind 0) ≡ k = ap (λ x. one_if (unequal x.kind 0)) h ∙ sym g in
    rw (add-one i) (omega arith)

pub all_seen : (s : List ℕ) (i sum : ℕ) → i ≡ length s / 8 → sum ≡ not_gone_to s i → sum ≡ not_gone (records s)
unfolding not_gone_to not_gone count
all_seen s i sum e f = f ∙ ap (tally (λ j. unequal (at (records s) j).kind 0)) (e ∙ sym (length-records s))
