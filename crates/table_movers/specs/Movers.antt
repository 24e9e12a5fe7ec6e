-- Movers, of a table whose set of bits is u: word 64 * kind + b has the labels in which some capability of this kind may
-- stand that targets a name of b. Kinds are 0 in, 1 out, 2 open.
use Rattle.std.specs.Prelude.{◌%◌, ◌*◌, ◌+◌, ◌/◌, ◌<◌, ℕ, get_or, true, List, ◌≡◌}
use Rattle.std.proofs.Common.{true≢false, ◌∙◌, ap, sym}
use Rattle.model.proofs.Laws.Bit.{zero_bit}
use Rattle.model.proofs.Laws.Booleans.{bool_iff}
use Rattle.model.specs.Tables.{test_bit}
use Rattle.tables.specs.Grow.{Inside, Set}
use Rattle.table_words.specs.Layout.{I}

-- a is in word j, by the capability of label 64 + t
pub record Mover (partners : List ℕ) (u : Set) (j a : ℕ) : Type 0 where
  pub word : j < 192
  pub label : a < 64
  pub t : ℕ
  pub below : t < 64
  pub stands : I u a (64 + t)
  pub targets : test_bit (get_or partners (64 * (j / 64) + t) 0) (j % 64) ≡ true

-- the words m have no other movers than those of u; they have all of them
unfoldable pub OnlyMovers : List ℕ → Set → List ℕ → Type 0
OnlyMovers partners u m = (j a : ℕ) → test_bit (get_or m j 0) a ≡ true → Mover partners u j a

unfoldable pub AllMovers : List ℕ → Set → List ℕ → Type 0
AllMovers partners u m = (j a : ℕ) → Mover partners u j a → test_bit (get_or m j 0) a ≡ true

-- m has the movers of u, and no others
pub record Movers (partners : List ℕ) (u : Set) (m : List ℕ) : Type 0 where
  pub only : OnlyMovers partners u m
  pub all : AllMovers partners u m

-- a contract that says Movers fixes every bit
pub movers-same : {partners : List ℕ} {u : Set} {m m' : List ℕ} → Movers partners u m → Movers partners u m' → (j a : ℕ) → test_bit (get_or m j 0) a ≡ test_bit (get_or m' j 0) a
unfolding OnlyMovers AllMovers
movers-same x y j a = bool_iff _ _ (λ t. y.all j a (x.only j a t)) (λ t. x.all j a (y.only j a t))

-- clear words have no others
pub clear-only : (partners : List ℕ) (u : Set) (m : List ℕ) → ((i : ℕ) → get_or m i 0 ≡ 0) → OnlyMovers partners u m
unfolding OnlyMovers
clear-only partners u m z j x t = absurd (true≢false (sym t ∙ ap (λ (y : ℕ). test_bit y x) (z j) ∙ zero_bit x))

-- a set around u has no fewer movers
pub only-on : (partners : List ℕ) (u : Set) (m : List ℕ) (u' : Set) → Inside u u' → OnlyMovers partners u m → OnlyMovers partners u' m
unfolding OnlyMovers
only-on partners u m u' i f j a t = let v = f j a t in record { word = v.word; label = v.label; t = v.t; below = v.below; stands = i (128 * a + (64 + v.t)) v.stands; targets = v.targets }

-- a set with no other capabilities in I has no other movers
pub all-on : (partners m : List ℕ) (u u' : Set) → ((a t : ℕ) → a < 64 → t < 64 → I u' a (64 + t) → I u a (64 + t)) → AllMovers partners u m → AllMovers partners u' m
unfolding AllMovers
all-on partners m u u' f c j a v =
    c j a (record { word = v.word; label = v.label; t = v.t; below = v.below; stands = f a v.t v.label v.below v.stands; targets = v.targets })
