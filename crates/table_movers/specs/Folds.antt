-- The movers that a loop over the words of partners adds are those of the table.
use Rattle.std.specs.Prelude.{◌%◌, ◌*◌, ◌+◌, ◌/◌, ◌<◌, ℕ, get_or, List, ◌⊎◌, ◌≡◌}
use Rattle.std.proofs.Common.{inl, inr, ⊎_elim, ◌∙◌, ap, ap₂, subst, sym, arith}
use Rattle.std.proofs.Math.Decide.{ℕ_discrete}
use Rattle.model.specs.Tables.{test_bit}
use Rattle.tables.specs.Grow.{Set}
use Rattle.table_words.specs.BitSets.{Bits, at-word}
use Rattle.table_movers.specs.Movers.{AllMovers, Mover, Movers, OnlyMovers}
use Rattle.table_words.specs.Adds.{Adds, adds-as, adds-next, adds_none}
use Rattle.table_words.specs.Transposes.{Scatter, Transposed, transposed-bit}

-- ---- movers from the partners of the first n words

pub record MoversFolded (holders partners : List ℕ) (n j a : ℕ) : Type 0 where
  pub i : ℕ
  pub word : i < n
  pub scatter : Scatter (64 * (i / 64)) (get_or partners i 0) (get_or holders (i % 64) 0) j a

module _ (holders partners : List ℕ) where
  pub folded-none : {m : List ℕ} → Adds (MoversFolded holders partners 0) (MoversFolded holders partners 192) m m
  folded-none = adds_none (λ j a q. let h = q.word in omega arith)

  pub folded-next : (n : ℕ) {m m₁ m₂ : List ℕ} → n < 192 → Adds (MoversFolded holders partners n) (MoversFolded holders partners 192) m m₁ →
      Adds (Scatter (64 * (n / 64)) (get_or partners n 0) (get_or holders (n % 64) 0)) (Scatter (64 * (n / 64)) (get_or partners n 0) (get_or holders (n % 64) 0)) m₁ m₂ →
      Adds (MoversFolded holders partners (n + 1)) (MoversFolded holders partners 192) m m₂
  folded-next n h a b = adds-next a b (λ j x q. go j x q (ℕ_discrete q.i n)) (λ j x s. record { i = n; word = h; scatter = s })
    where
      go : (j x : ℕ) (q : MoversFolded holders partners (n + 1) j x) → Dec (q.i ≡ n) → MoversFolded holders partners n j x ⊎ Scatter (64 * (n / 64)) (get_or partners n 0) (get_or holders (n % 64) 0) j x
      go j x q (yes e) = inr (subst (λ (y : ℕ). Scatter (64 * (y / 64)) (get_or partners y 0) (get_or holders (y % 64) 0) j x) e q.scatter)
      go j x q (no d) = inl (record { i = q.i; word = (let l = q.word in omega arith); scatter = q.scatter })

  pub folded-end : (n : ℕ) {m m₁ : List ℕ} → n ≡ 192 → Adds (MoversFolded holders partners n) (MoversFolded holders partners 192) m m₁ → Adds (MoversFolded holders partners 192) (MoversFolded holders partners 192) m m₁
  folded-end n {m} {m₁} e a = subst (λ (y : ℕ). Adds (MoversFolded holders partners y) (MoversFolded holders partners 192) m m₁) e a

-- the holders of each capability label, by the odd words of the table
module _ (w z holders partners : List ℕ) (zero : (i : ℕ) → get_or z i 0 ≡ 0) (a : Adds (Transposed w 1 2 64) (Transposed w 1 2 64) z holders) where
  stand : (t x : ℕ) → t < 64 → Bits w (128 * x + (64 + t)) ≡ test_bit (get_or w (1 + 2 * x) 0) t
  stand t x h = at-word w (1 + 2 * x) t (128 * x + (64 + t)) h (omega arith)

  pub folded-movers : {m m₁ : List ℕ} → Adds (MoversFolded holders partners 192) (MoversFolded holders partners 192) m m₁ → Adds (Mover partners (Bits w)) (Mover partners (Bits w)) m m₁
  folded-movers f = adds-as f to from
    where
      to : (j x : ℕ) → Mover partners (Bits w) j x → MoversFolded holders partners 192 j x
      to j x v =
          let ht = v.below in
          let hj = v.word in
          let q : (64 * (j / 64) + v.t) / 64 ≡ j / 64 = omega arith in
          let r : (64 * (j / 64) + v.t) % 64 ≡ v.t = omega arith in
          record {
            i = 64 * (j / 64) + v.t;
            word = omega arith;
            scatter = record {
              k = j % 64;
              below = omega arith;
              bit = v.targets;
              word = (omega arith);
              given = ap (λ (y : ℕ). test_bit (get_or holders y 0) x) r ∙ a.has v.t x (record { label = ht; below = v.label; bit = sym (stand v.t x ht) ∙ v.stands });
            };
          }

      from : (j x : ℕ) → MoversFolded holders partners 192 j x → Mover partners (Bits w) j x
      from j x q =
          let i = q.i in
          let s = q.scatter in
          let hi = q.word in
          let hk = s.below in
          let e = s.word in
          let o = transposed-bit w 1 2 z holders zero a (i % 64) x s.given in
          let d : j / 64 ≡ i / 64 = omega arith in
          let r : j % 64 ≡ s.k = omega arith in
          let g : 64 * (j / 64) + i % 64 ≡ i = omega arith in
          record {
            word = omega arith;
            label = o.below;
            t = i % 64;
            below = o.label;
            stands = stand (i % 64) x o.label ∙ o.bit;
            targets = ap₂ (λ (y z : ℕ). test_bit (get_or partners y 0) z) g r ∙ s.bit;
          }

-- movers added to some of the table's are all of them, and no others
pub movers-added : (partners : List ℕ) (u : Set) (m m₁ : List ℕ) → OnlyMovers partners u m → Adds (Mover partners u) (Mover partners u) m m₁ → Movers partners u m₁
unfolding OnlyMovers AllMovers
movers-added partners u m m₁ f a = record { only = λ j x t. ⊎_elim (λ s. f j x s) (λ s. s) (a.only j x t); all = λ j x v. a.has j x v }
