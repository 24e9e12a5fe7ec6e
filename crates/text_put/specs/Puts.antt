-- Bytes put at a place of a lent text.
use Rattle.std.specs.Prelude.{◌+◌, ◌≤◌, ℕ, drop, length, take, List, [], ◌++◌, ◌∷◌, ◌≡◌}
use Rattle.model.specs.Listing.{digits_in}
-- the first bytes of a text written, the rest as it was
unfoldable pub use Rattle.model.specs.Finite.{over}

-- a field that is a number, and the byte that ends it
unfoldable pub field_by : ℕ → ℕ → List ℕ
field_by n end = digits_in 5 n ++ (end ∷ [])

-- the bytes t with w put at a place
unfoldable pub splice : ℕ → List ℕ → List ℕ → List ℕ
splice at w t = take at t ++ (w ++ drop (at + length w) t)

-- t' is t with w put at place p, and e is the place after it
pub record Put (t : List ℕ) (p : ℕ) (w t' : List ℕ) (e : ℕ) : Type 0 where
  pub end : e ≡ p + length w
  pub bytes : t' ≡ splice p w t

-- a text t in which all of w stands at place p of t₀ once its rest is put at place q
pub record Putting (t₀ : List ℕ) (p : ℕ) (w t : List ℕ) (q : ℕ) (rest : List ℕ) : Type 0 where
  pub end : q + length rest ≡ p + length w
  pub room : q + length rest ≤ length t
  pub sized : length t ≡ length t₀
  pub bytes : splice q rest t ≡ splice p w t₀
