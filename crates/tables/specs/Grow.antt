-- Sets of numbers, and what a step that adds to a set owes towards the least set with a property.
use Rattle.std.specs.Prelude.{◌+◌, ◌<◌, ℕ, Bool, true, ◌≡◌}
use Rattle.std.proofs.Common.{⊎_elim, subst, sym, eq-or-lt_of_le, le_of_suc-le-suc, add-one}
use Rattle.std.proofs.Math.Path.{fun_ext}
use Rattle.model.proofs.Laws.Booleans.{bool_iff}

abbrev pub Set : Type 0
Set = ℕ → Bool

-- s lies inside u
abbrev pub Inside : Set → Set → Type 0
Inside s u = (j : ℕ) → s j ≡ true → u j ≡ true

pub same : {s u : Set} → Inside s u → Inside u s → s ≡ u
same {s} {u} f g = fun_ext (λ j. bool_iff (s j) (u j) (f j) (g j))

-- From s to s': nothing is lost; nothing is added that a set with F around s could lack; and where nothing was added, s has R.
pub record Grown (F R : Set → Type 0) (s s' : Set) : Type 0 where
  pub keeps : Inside s s'
  pub inside : (u : Set) → Inside s u → F u → Inside s' u
  pub done : Inside s' s → R s

pub grown-none : {F R : Set → Type 0} {s : Set} → R s → Grown F R s s
grown-none r = record { keeps = λ j t. t; inside = λ u h f. h; done = λ _. r }

-- one step after another
pub chain : {F F₁ R R₁ R₂ : Set → Type 0} {s s₁ s₂ : Set} → Grown F R s s₁ → Grown F₁ R₁ s₁ s₂ →
    ((u : Set) → Inside s₁ u → F u → F₁ u) → (s₁ ≡ s → R s → R₁ s → R₂ s) → Grown F R₂ s s₂
chain {R₁ = R₁} {s = s} {s₁ = s₁} g h f r = record {
  keeps = λ j t. h.keeps j (g.keeps j t);
  inside = λ u i c. let i₁ : Inside s₁ u = g.inside u i c in h.inside u i₁ (f u i₁ c);
  done = λ b.
      let b₁ : Inside s₁ s = λ j t. b j (h.keeps j t) in
      let e : s₁ ≡ s = same b₁ g.keeps in
      r e (g.done b₁) (subst R₁ e (h.done (λ j t. g.keeps j (b j t))));
}

-- another property at either end
pub recast : {F F₁ R R₁ : Set → Type 0} {s s' : Set} → Grown F R s s' → ((u : Set) → Inside s u → F₁ u → F u) → (R s → R₁ s) → Grown F₁ R₁ s s'
recast g f r = record { keeps = g.keeps; inside = λ u i c. g.inside u i (f u i c); done = λ b. r (g.done b) }

-- ---- a loop that does P at 0, 1, ..

unfoldable pub Below : (ℕ → Set → Type 0) → ℕ → Set → Type 0
Below P n u = (x : ℕ) → x < n → P x u

pub below_step : (P : ℕ → Set → Type 0) (n : ℕ) (u : Set) → Below P n u → P n u → Below P (n + 1) u
unfolding Below
below_step P n u f p x l =
    ⊎_elim (λ e. subst (λ (y : ℕ). P y u) (sym e) p) (λ m. f x m) (eq-or-lt_of_le (le_of_suc-le-suc (subst (λ (y : ℕ). x < y) (add-one n) l)))

-- ---- the least set with F around s

pub record Smallest (F : Set → Type 0) (s s' : Set) : Type 0 where
  pub keeps : Inside s s'
  pub inside : (u : Set) → Inside s u → F u → Inside s' u
  pub closed : F s'

-- there is one such set: a contract that says Smallest fixes every bit
pub smallest-same : {F : Set → Type 0} {s u v : Set} → Smallest F s u → Smallest F s v → u ≡ v
smallest-same x y = same (x.inside _ y.keeps y.closed) (y.inside _ x.keeps x.closed)

unfoldable pub Any : Set → Type 0
Any s = Unit {0}

pub start : {F : Set → Type 0} (s : Set) → Grown F Any s s
unfolding Any
start s = grown-none tt
