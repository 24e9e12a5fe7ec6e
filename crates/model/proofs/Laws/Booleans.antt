-- The laws of truth values.
use Rattle.std.specs.Prelude.{Bool, ◌&&◌, ◌||◌, false, true, ◌≡◌, refl}
use Rattle.std.specs.Bool.{beq}
use Rattle.std.proofs.Common.{true≢false, ◌∙◌, sym}
use Rattle.model.specs.Analysis.{only_if}

pub and_left : (a b : Bool) → (a && b) ≡ true → a ≡ true
and_left true b h = refl
and_left false b h = h

pub and_right : (a b : Bool) → (a && b) ≡ true → b ≡ true
and_right true b h = h
and_right false b h = absurd (true≢false (sym h))

pub and-make : {a b : Bool} → a ≡ true → b ≡ true → (a && b) ≡ true
and-make p q = rw (p, q)

pub or_right : (a b : Bool) → b ≡ true → (a || b) ≡ true
or_right true b h = refl
or_right false b h = h

pub or_cases : {C : Type 0} (a b : Bool) → (a || b) ≡ true → (a ≡ true → C) → (b ≡ true → C) → C
or_cases true b h f g = f refl
or_cases false b h f g = g h

pub only_if-use : (a b : Bool) → only_if a b ≡ true → a ≡ true → b ≡ true
unfolding only_if
only_if-use true b h e = h
only_if-use false b h e = absurd (true≢false (sym e))

pub only_if-make : (a b : Bool) → (a ≡ true → b ≡ true) → only_if a b ≡ true
unfolding only_if
only_if-make true b f = f refl
only_if-make false b f = refl

-- truth values are equal when each follows from the other
pub bool_iff : (a b : Bool) → (a ≡ true → b ≡ true) → (b ≡ true → a ≡ true) → a ≡ b
bool_iff true b f g = sym (f refl)
bool_iff false true f g = g refl
bool_iff false false f g = refl

pub beq-eq : (a b : Bool) → beq a b ≡ true → a ≡ b
beq-eq true true h = refl
beq-eq true false h = absurd (true≢false (sym h))
beq-eq false true h = absurd (true≢false (sym h))
beq-eq false false h = refl

pub or_left : (a b : Bool) → a ≡ true → (a || b) ≡ true
or_left true b h = refl
or_left false b h = absurd (true≢false (sym h))

pub is_false : (a : Bool) → (a ≡ true → ⊥) → a ≡ false
is_false true f = absurd (f refl)
is_false false f = refl

pub never : {C : Type 0} (b : Bool) → b ≡ true → b ≡ false → C
never b t f = absurd (true≢false (sym t ∙ f))
