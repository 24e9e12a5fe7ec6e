-- Rounds: movers are found, and I is closed with them fixed, until no capability is new. Then S.
use Rattle.std.specs.Prelude.{◌%◌, ◌*◌, ◌+◌, ◌/◌, ◌<◌, ◌≤◌, ℕ, get_or, List, ◌≡◌}
use Rattle.std.proofs.Common.{◌∙◌, ap, sym, arith}
use Rattle.table_movers.specs.Rules.{NestingClosed, RowClosed, SuspectsClosed, closed-rows, closed-suspects, movers-closed, pair_same}
use Rattle.model.proofs.Laws.Sets.{Narrow}
use Rattle.model.specs.Tables.{bit_at, test_bit}
use Rattle.tables.specs.Grow.{Grown, Inside, Set, Smallest, Any}
use Rattle.table_words.specs.BitSets.{Bits, at-word}
use Rattle.table_partners.specs.Rules.{RulesClosed}
use Rattle.table_movers.specs.Movers.{Movers, OnlyMovers, all-on, only-on}
use Rattle.table_words.specs.Layout.{I}
use Rattle.table_closure.specs.Capabilities.{capabilities, capabilities-fewer}

-- from s to s' by the rules of I; m has the movers of s'
pub record NestingGrown (partners m : List ℕ) (s s' : Set) : Type 0 where
  pub keeps : Inside s s'
  pub inside : (u : Set) → Inside s u → RulesClosed partners u → Inside s' u
  pub rows : NestingClosed m s'
  pub movers : Movers partners s' m

-- one round: m has the movers of w, and I is closed with them
module _ (partners m w w' : List ℕ) {s : Set} (g : Grown (RulesClosed partners) Any s (Bits w)) (M : Movers partners (Bits w) m) (c : Smallest (NestingClosed m) (Bits w) (Bits w')) where
  pub round-only : OnlyMovers partners (Bits w') m
  round-only = only-on partners (Bits w) m (Bits w') c.keeps M.only

  round-inside : (u : Set) → Inside (Bits w) u → RulesClosed partners u → Inside (Bits w') u
  round-inside u i d = c.inside u i (closed-rows partners u m d (only-on partners (Bits w) m u i M.only))

  pub round-on : Grown (RulesClosed partners) Any s (Bits w')
  unfolding Any
  round-on = record { keeps = λ j t. c.keeps j (g.keeps j t); inside = λ u i d. round-inside u (g.inside u i d) d; done = λ _. tt }

  -- as many capabilities in I as before: the same ones
  pub round-end : Narrow 64 w → Narrow 64 w' → capabilities w' 64 ≤ capabilities w 64 → NestingGrown partners m s (Bits w')
  round-end h h' n = record {
    keeps = round-on.keeps;
    inside = round-on.inside;
    rows = c.closed;
    movers = record { only = round-only; all = all-on partners m (Bits w) (Bits w') same M.all };
  }
    where
      stand : (v : List ℕ) (x t : ℕ) → t < 64 → Bits v (128 * x + (64 + t)) ≡ test_bit (get_or v (1 + 2 * x) 0) t
      stand v x t l = at-word v (1 + 2 * x) t (128 * x + (64 + t)) l (omega arith)

      same : (x t : ℕ) → x < 64 → t < 64 → I (Bits w') x (64 + t) → I (Bits w) x (64 + t)
      same x t hx ht q = stand w x t ht ∙ ap (λ (y : ℕ). test_bit y t) ((capabilities-fewer w w' h h' c.keeps 64).all n x hx) ∙ sym (stand w' x t ht) ∙ q

-- S closed after I
pub close-end : (partners m w w' : List ℕ) {s : Set} → NestingGrown partners m s (Bits w) → ((i : ℕ) → i < 192 → get_or w' i 0 ≡ get_or w i 0) → Smallest (SuspectsClosed m) (Bits w) (Bits w') → Smallest (RulesClosed partners) s (Bits w')
unfolding NestingClosed RowClosed bit_at
close-end partners m w w' N e S = record {
  keeps = λ j t. S.keeps j (N.keeps j t);
  inside = λ u i d. let i₁ = N.inside u i d in S.inside u i₁ (closed-suspects partners u m d (only-on partners (Bits w) m u i₁ N.movers.only));
  closed = movers-closed partners (Bits w') m
      (all-on partners m (Bits w) (Bits w') (λ a t ha ht q. back a (64 + t) ha (omega arith) q) N.movers.all)
      (λ p hp b hb pb. pair_same m p b (λ k. at p k hp) (λ k. at b k hb) (N.rows p hp b hb (back p b hp (omega arith) pb)))
      S.closed;
}
  where
    at : (a k : ℕ) → a < 64 → k < 128 → Bits w' (128 * a + k) ≡ Bits w (128 * a + k)
    at a k ha hk = ap (λ (y : ℕ). test_bit y ((128 * a + k) % 64)) (e ((128 * a + k) / 64) (omega arith))

    back : (a k : ℕ) → a < 64 → k < 128 → I (Bits w') a k → I (Bits w) a k
    back a k ha hk t = sym (at a k ha hk) ∙ t
