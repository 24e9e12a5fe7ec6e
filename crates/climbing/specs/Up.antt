-- What the contracts cite: a climb past an ambient.
use Rattle.std.specs.Prelude.{ℕ, false, true, List}
use Rattle.model.specs.Records.{decode, is_ambient}

-- the number above an ambient, and i itself where it is none
unfoldable pub up_from : List ℕ → ℕ → ℕ
up_from s i = elim (is_ambient (decode s i)) [ true ↦ (decode s i).parent | false ↦ i ]
