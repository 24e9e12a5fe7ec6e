-- The seed, closed, is the least table.
use Rattle.std.specs.Prelude.{◌*◌, ◌+◌, ◌<◌, ℕ, leb, length, ◌||◌, true, List, ◌≡◌}
use borrow.Author.Tests.{le-leb, le-ltb, lt-leb, lt-ltb}
use Rattle.std.proofs.Math.Dec.{ltb}
use Rattle.std.proofs.Common.{◌∙◌, subst, subst₂, sym, arith}
use Rattle.table_least.specs.Least.{LeastClosed}
use Rattle.table_seed.specs.Seeds.{Seeded}
use Rattle.model.specs.Analysis.{permit_all}
use Rattle.model.proofs.Laws.Bytes.{length-records, valid-wf}
use Rattle.model.proofs.Laws.Booleans.{or_right}
use Rattle.model.proofs.Laws.Done.{cap-alive}
use Rattle.model.proofs.Laws.Least.{least-table-is}
use Rattle.model.proofs.Laws.Sets.{Narrow}
use Rattle.model.proofs.Laws.WellFormed.{WellFormed, alive-in}
use Rattle.model.specs.Least.{least_table}
use Rattle.model.specs.Records.{count, records}
use Rattle.model.specs.Refusals.{pass}
use Rattle.model.specs.Tables.{bits, parts, place_h}
use Rattle.model.specs.Validity.{validity}
use Rattle.model.specs.declared.Rec.{Rec}
use Rattle.table_partners.specs.Facts.{Facts, Wanted}
use Rattle.table_partners.specs.Partners.{Partners, in_h}
use Rattle.table_partners.specs.Laws.{closed-rule, rules-closed}
use Rattle.table_partners.specs.Standing.{facts-holds, holds-facts, holds-rules}
use Rattle.tables.specs.Grow.{Inside, Set, Smallest}
use Rattle.table_words.specs.BitSets.{Bits}
use Rattle.table_partners.specs.Rules.{RulesClosed}

-- ---- closing

-- s, and all of I and S
unfoldable wide : Set → Set
wide s j = (leb 12288 j || ltb j 8192) || s j

module _ (s : Set) where
  wide-keeps : Inside s (wide s)
  unfolding wide
  wide-keeps j t = or_right (leb 12288 j || ltb j 8192) (s j) t

  wide-I : (a k : ℕ) → a < 64 → k < 128 → wide s (128 * a + k) ≡ true
  unfolding wide
  wide-I a k la lk = rw (lt-leb 12288 (128 * a + k) (omega arith), lt-ltb (128 * a + k) 8192 (omega arith))

  wide-S : (k : ℕ) → wide s (12288 + k) ≡ true
  unfolding wide
  wide-S k = rw (le-leb 12288 (12288 + k) (omega arith))

  wide-H : (b n : ℕ) → b < 64 → n < 64 → wide s (8192 + (64 * b + n)) ≡ s (8192 + (64 * b + n))
  unfolding wide
  wide-H b n lb ln = rw (lt-leb 12288 (8192 + (64 * b + n)) (omega arith), le-ltb (8192 + (64 * b + n)) 8192 (omega arith))

  wide-closed : (p : List ℕ) → RulesClosed p (wide s)
  wide-closed p = record {
    ins = λ t a b q lt la lb lq at pa pb bn. (wide-I b a lb (omega arith), λ _. wide-S a);
    outs = λ t a b q lt la lb lq at ba pb bn. (wide-I q a lq (omega arith), λ _. wide-S a);
    opens = λ t b q lt lb lq pt pb bn. (λ k lk _. wide-I q k lq lk, λ _. wide-S q);
  }

-- the least set closed under the words of partners is the least closed under the rules: H never grows
pub closes : (its : List Rec) → WellFormed its → (s s' : Set) (p : List ℕ) → Partners its (parts s).H (length its) p → Smallest (RulesClosed p) s s' → LeastClosed its s s'
unfolding place_h
closes its wf s s' p F L = record {
  keeps = L.keeps;
  inside = λ u i f. L.inside u i (rules-closed wf (parts s).H (length its) p F u (λ b n lb ln h. i (8192 + (64 * b + n)) h) f);
  closed = λ j k e. closed-rule wf (parts s).H (length its) p F s' back-H L.closed j k (alive-in its j (cap-alive its j k e)) e;
}
  where
    back-H : (b n : ℕ) → b < 64 → n < 64 → s' (8192 + (64 * b + n)) ≡ true → s (8192 + (64 * b + n)) ≡ true
    back-H b n lb ln h = sym (wide-H s b n lb ln) ∙ L.inside (wide s) (wide-keeps s) (wide-closed s p) (8192 + (64 * b + n)) h

facts-up : {its : List Rec} {policy : List ℕ} {s s' : Set} → Inside s s' → Facts its policy s → Facts its policy s'
unfolding Wanted
facts-up i f = record { nestings = λ x l t. i _ (f.nestings x l t); names = λ x l t. i _ (f.names x l t); highs = λ x l t. i _ (f.highs x l t) }

-- the seed, closed, is the least table
pub made : (its : List Rec) → WellFormed its → (policy t t' : List ℕ) → length t' ≡ 1544 → Narrow 8 t' → Seeded its policy (bits t) → LeastClosed its (bits t) (bits t') → t' ≡ least_table permit_all policy its
made its wf policy t t' l n b c =
    least-table-is permit_all policy wf t' l n
    (facts-holds policy its (bits t') (facts-up c.keeps b.has) c.closed)
    (λ u h j _ e. c.inside u (b.inside u (holds-facts policy its u h)) (holds-rules policy its u h) j e)

-- ---- a table in words: w is t's, and t' that of w'

pub close-made : (s t t' w w' p : List ℕ) → validity s ≡ pass → Bits w ≡ bits t → Partners (records s) (in_h w) (count s) p → Smallest (RulesClosed p) (Bits w) (Bits w') → bits t' ≡ Bits w' →
    LeastClosed (records s) (bits t) (bits t')
close-made s t t' w w' p v e F L e' =
    subst₂ (λ (x y : Set). LeastClosed (records s) x y) e (sym e')
    (closes (records s) (valid-wf s v) (Bits w) (Bits w') p (subst (λ (n : ℕ). Partners (records s) (in_h w) n p) (sym (length-records s)) F) L)
