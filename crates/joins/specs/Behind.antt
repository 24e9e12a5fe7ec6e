-- Records behind others. A join is its first member's records with the join of the others behind them, so that what holds of two
-- itineraries one behind the other holds of as many as there are.
use Rattle.std.specs.Prelude.{◌+◌, ◌-◌, ◌≤◌, suc, zero, ℕ, get_or, length, map, List, [], ◌++◌, ◌∷◌, ◌≢◌, ◌≡◌, refl}
use Rattle.std.proofs.Common.{ne_eqb, ◌∙◌, add-suc, ap, ap₂, arith, sym, zero-add}
use Rattle.std.proofs.lemmas.List.{get_or_append_left, get_or-append-add, length-append, length-map, map-append}
use Rattle.std.proofs.Math.ListN.{get_or-map}
use Rattle.std.proofs.Math.Decide.{dec_le}
use Rattle.model.specs.Joins.{behind, join, join_from, shifted}
use Rattle.model.specs.Records.{at, count, gone, parent_of, records}
use Rattle.model.specs.Steps.{to}
use Rattle.model.specs.declared.Rec.{Rec}
use Rattle.model.proofs.Laws.Bytes.{length-records}
use Rattle.model.proofs.Laws.WellFormed.{SameBut, same-to, same_of}

-- the records ys behind those of xs
unfoldable pub both : List Rec → List Rec → List Rec
both xs ys = xs ++ map (behind (length xs)) ys

-- a parent's number behind others: "adds the earlier record count to each parent that isn't 0"
pub shifted-root : (n : ℕ) → shifted n 0 ≡ 0
unfolding shifted
shifted-root n = refl

pub shifted-other : (n p : ℕ) → p ≢ 0 → shifted n p ≡ n + p
unfolding shifted
shifted-other n p h = rw (ne_eqb p 0 h, shifted)

pub shifted-not : (n p : ℕ) → p ≢ 0 → shifted n p ≢ 0
shifted-not n p h e = h (omega (arith, shifted-other n p h))

pub shifted-none : (p : ℕ) → shifted 0 p ≡ p
shifted-none zero = shifted-root 0
shifted-none (suc p) = shifted-other 0 (suc p) (λ u. omega arith) ∙ omega arith

shifted-more : (n m p : ℕ) → shifted n (shifted m p) ≡ shifted (n + m) p
shifted-more n m zero = ap (shifted n) (shifted-root m) ∙ shifted-root n ∙ sym (shifted-root (n + m))
shifted-more n m (suc p) =
    let h : suc p ≢ 0 = λ u. omega arith in
    shifted-other n _ (shifted-not m (suc p) h) ∙ ap (λ q. n + q) (shifted-other m (suc p) h) ∙ omega (arith, shifted-other (n + m) (suc p) h)

-- records behind none, and behind some that stand behind others
pub behind-none : (its : List Rec) → map (behind 0) its ≡ its
unfolding behind
behind-none [] = refl
behind-none (r ∷ rs) = ap₂ (λ p l. to p r ∷ l) (shifted-none r.parent) (behind-none rs)

behind-more : (n m : ℕ) (its : List Rec) → map (behind n) (map (behind m) its) ≡ map (behind (n + m)) its
unfolding behind
behind-more n m [] = refl
behind-more n m (r ∷ rs) = ap₂ (λ p l. to p r ∷ l) (shifted-more n m r.parent) (behind-more n m rs)

-- what is joined behind n records is the join behind them
join-from : (n : ℕ) (ss : List (List ℕ)) → join_from n ss ≡ map (behind n) (join_from 0 ss)
unfolding join_from
join-from n [] = refl
join-from n (s ∷ ss) =
    ap (λ l. map (behind n) (records s) ++ l) (join-from (n + count s) ss ∙ sym (behind-more n (count s) (join_from 0 ss)))
    ∙ sym (map-append (behind n) (records s) _)
    ∙ ap (map (behind n)) (ap₂ ◌++◌ (sym (behind-none (records s))) (sym (rest (join-from (count s) ss))))
  where
    rest : join_from (count s) ss ≡ map (behind (count s)) (join_from 0 ss) → join_from (0 + count s) ss ≡ map (behind (count s)) (join_from 0 ss)
    rest ih = ap (λ m. join_from m ss) (zero-add (count s)) ∙ ih

pub join-none : join [] ≡ []
unfolding join join_from
join-none = refl

pub join-next : (s : List ℕ) (ss : List (List ℕ)) → join (s ∷ ss) ≡ both (records s) (join ss)
unfolding join join_from both
join-next s ss =
    ap₂ ◌++◌ (behind-none (records s)) (join-from (0 + count s) ss ∙ ap (λ n. map (behind n) (join_from 0 ss)) (zero-add (count s) ∙ sym (length-records s)))

-- what is gone is gone behind others
pub gone-behind : (n : ℕ) → behind n gone ≡ gone
unfolding behind
gone-behind n = ap (λ p. to p gone) (shifted-root n)

-- a number stands among the first records, or is one of those behind them
pub data Side (n i : ℕ) : Type 0 where
  first : i ≤ n → Side n i
  second : (k : ℕ) → k ≢ 0 → i ≡ shifted n k → Side n i

pub side : (n i : ℕ) → Side n i
side n i = go (dec_le i n)
  where
    go : Dec (i ≤ n) → Side n i
    go (yes l) = first l
    go (no l) = let z : i - n ≢ 0 = λ u. omega arith in second (i - n) z (omega (arith, shifted-other n (i - n) z))

module _ (xs ys : List Rec) where
  pub both-length : length (both xs ys) ≡ length xs + length ys
  unfolding both
  both-length = length-append xs _ ∙ ap (λ m. length xs + m) (length-map ys _)

  pub at-first : (i : ℕ) → i ≤ length xs → at (both xs ys) i ≡ at xs i
  unfolding at both
  at-first zero l = refl
  at-first (suc i) l = get_or_append_left xs _ gone i l

  -- the record of number i there
  pub at-second : (i : ℕ) → at (both xs ys) (shifted (length xs) i) ≡ behind (length xs) (at ys i)
  unfolding at both
  at-second zero = ap (at (both xs ys)) (shifted-root (length xs)) ∙ sym (gone-behind (length xs))
  at-second (suc i) =
      ap (at (both xs ys)) (shifted-other (length xs) (suc i) (λ u. omega arith) ∙ add-suc (length xs) i)
      ∙ get_or-append-add xs _ i gone
      ∙ ap (get_or (map (behind (length xs)) ys) i) (sym (gone-behind (length xs)))
      ∙ get_or-map (behind (length xs)) ys i gone

  pub same-first : (i : ℕ) → i ≤ length xs → SameBut (at xs i) (at (both xs ys) i)
  same-first i l = same_of (at-first i l)

  pub same-second : (i : ℕ) → SameBut (at ys i) (at (both xs ys) (shifted (length xs) i))
  unfolding behind
  same-second i = same-to _ (at-second i)

  pub parent-first : (i : ℕ) → i ≤ length xs → parent_of (both xs ys) i ≡ parent_of xs i
  parent-first i l = ap (λ r. r.parent) (at-first i l)

  pub parent-second : (i : ℕ) → parent_of (both xs ys) (shifted (length xs) i) ≡ shifted (length xs) (parent_of ys i)
  unfolding behind
  parent-second i = ap (λ r. r.parent) (at-second i)
