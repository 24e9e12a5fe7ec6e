-- What the contracts cite: refusal 2 of one record, and records in order.
use Rattle.std.specs.Prelude.{◌+◌, ℕ, leb, Bool, ◌&&◌, true, List}
use Rattle.model.specs.Finite.{every}
use Rattle.model.specs.Records.{decode}
use Rattle.model.specs.Validity.{client_right, gone_right, kind_right, spare_right}
use Rattle.model.specs.declared.Rec.{Rec}

-- refusal 2 does not apply to record i, which is r
unfoldable pub form_right : List ℕ → ℕ → Rec → Bool
form_right s i r = kind_right r && (spare_right s i && (client_right r && gone_right r))

-- none of the first n records has a parent with a higher number
unfoldable pub in_order : List ℕ → ℕ → Bool
in_order s n = every n (λ k. true) (λ k. leb (decode s (k + 1)).parent k)
