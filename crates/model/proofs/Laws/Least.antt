-- The least table: it holds, it is accepted, it lies inside every table that holds, and it is the only one that does both.
use Rattle.std.specs.Prelude.{◌%◌, ◌*◌, ◌+◌, ◌<◌, ◌^◌, ◌≤◌, ℕ, eqb, leb, length, Bool, ◌&&◌, ◌||◌, false, List, ◌≢◌, ◌≡◌, refl}
use borrow.Author.Tests.{eq-eqb, le-leb, lt-leb, ne_eqb}
use Rattle.std.proofs.Math.Bool.{not, true}
use Rattle.std.proofs.Common.{true≢false, ◌∙◌, sym}
use Rattle.std.specs.Prelude.{Some}
use Rattle.std.proofs.Math.Path.{ap}
use native.Mathlib.Omega.{arith}
use Rattle.model.specs.Analysis.{Permit, holds}
use Rattle.model.specs.Climbing.{container}
use Rattle.model.proofs.Laws.Booleans.{and-make, bool_iff}
use Rattle.model.proofs.Laws.Containers.{container-small}
use Rattle.model.proofs.Laws.Finite.{every-make}
use Rattle.model.proofs.Laws.Holding.{Holds, Infects, Inside, Rule, holds-complete, holds-sound}
use Rattle.model.proofs.Laws.Sets.{Narrow, bits-bytes, bytes_bits, bytes_same, least-has, least-inside, length-bytes, numeral-lt, numeral-set}
use Rattle.model.proofs.Laws.WellFormed.{WellFormed, amb-nested, label-pos, labels, named, small}
use Rattle.model.specs.Least.{least, least_table, numeral}
use Rattle.model.specs.Records.{Capability, at, cap-in, cap-open, cap-out, capability}
use Rattle.model.specs.Tables.{bits, parts, place_h, place_i, place_s, table_right, table_sized, test_bit}
use Rattle.model.specs.declared.Rec.{Rec}

-- two sets of bits that agree below 12,352 are the same table to a well-formed itinerary
abbrev pub Agree : (ℕ → Bool) → (ℕ → Bool) → Type 0
Agree u v = (j : ℕ) → j < 12352 → u j ≡ v j

module _ {u v : ℕ → Bool} (same : Agree u v) where
  agree-I : (a k : ℕ) → a < 64 → k < 128 → u (place_i a k) ≡ v (place_i a k)
  unfolding place_i
  agree-I a k la lk = same (128 * a + k) (omega arith)

  agree-H : (a n : ℕ) → a < 64 → n < 64 → u (place_h a n) ≡ v (place_h a n)
  unfolding place_h
  agree-H a n la ln = same (8192 + (64 * a + n)) (omega arith)

  agree-S : (k : ℕ) → k < 64 → u (place_s k) ≡ v (place_s k)
  unfolding place_s
  agree-S k l = same (12288 + k) (omega arith)

  -- what the rules conclude carries over, for any labels below 64
  infects-agree : {b a : ℕ} → b < 64 → a < 64 → Infects (parts u) b a → Infects (parts v) b a
  infects-agree lb la f s = sym (agree-S _ la) ∙ f (agree-S _ lb ∙ s)

  inside-agree : (n : ℕ) → n ≤ 128 → {b p : ℕ} → b < 64 → p < 64 → Inside n (parts u).I b p → Inside n (parts v).I b p
  inside-agree n m lb lp f k lk i = sym (agree-I _ k lp (omega arith)) ∙ f k lk (agree-I _ k lb (omega arith) ∙ i)

  rule-agree : (permit : Permit) (k : Capability) (t n : ℕ) → t < 128 → n < 64 → Rule permit (parts u) k t n → Rule permit (parts v) k t n
  rule-agree permit cap-in t n lt ln f = λ a b p la lb lp may ia ipa ipb hb.
      let w = f a b p la lb lp may (agree-I _ _ la lt ∙ ia) (agree-I _ _ (omega arith) (omega arith) ∙ ipa) (agree-I _ _ (omega arith) (omega arith) ∙ ipb) (agree-H _ _ lb ln ∙ hb) in
      (sym (agree-I _ _ lb (omega arith)) ∙ w.0, infects-agree lb (omega arith) w.1)
  rule-agree permit cap-out t n lt ln f = λ a b p la lb lp may ia iba ipb hb.
      let w = f a b p la lb lp may (agree-I _ _ la lt ∙ ia) (agree-I _ _ lb (omega arith) ∙ iba) (agree-I _ _ (omega arith) (omega arith) ∙ ipb) (agree-H _ _ lb ln ∙ hb) in
      (sym (agree-I _ _ (omega arith) (omega arith)) ∙ w.0, infects-agree lb (omega arith) w.1)
  rule-agree permit cap-open t n lt ln f = λ b p lb lp may ip ipb hb.
      let w = f b p lb lp may (agree-I _ _ (omega arith) lt ∙ ip) (agree-I _ _ (omega arith) (omega arith) ∙ ipb) (agree-H _ _ lb ln ∙ hb) in
      (inside-agree _ (omega arith) lb (omega arith) w.0, infects-agree lb (omega arith) w.1)

  pub holds_agree : (permit : Permit) (policy : List ℕ) {its : List Rec} → WellFormed its → Holds permit policy its (parts u) → Holds permit policy its (parts v)
  holds_agree permit policy {its} wf h = record {
    fits = λ i. record {
      nest = λ n. sym (agree-I (container its i) (at its i).label (container-small wf i) (labels wf i)) ∙ (h.fits i).nest n;
      names = λ e. sym (agree-H (at its i).label (at its i).name (small wf i e) (named wf i)) ∙ (h.fits i).names e;
      rules = λ k e. rule-agree permit k (at its i).label (at its i).name (labels wf i) (named wf i) ((h.fits i).rules k e);
    };
    high = λ k l e. sym (agree-S k l) ∙ h.high k l e;
  }

module _ (permit : Permit) (policy : List ℕ) (its : List Rec) where
  -- the set of bits of the least table
  abbrev pub least_set : ℕ → Bool
  least_set = least 12352 (λ u. holds permit policy its (parts u))

  -- a bit of the least table, in each number whose bits hold
  of-least : (c : ℕ) → c < 2 ^ 12352 → holds permit policy its (parts (test_bit c)) ≡ true → (j : ℕ) → least_set j ≡ true → test_bit c j ≡ true
  of-least = least-inside 12352 (λ u. holds permit policy its (parts u))

  from-least : (j : ℕ) → ((c : ℕ) → c < 2 ^ 12352 → holds permit policy its (parts (test_bit c)) ≡ true → test_bit c j ≡ true) → least_set j ≡ true
  from-least = least-has 12352 (λ u. holds permit policy its (parts u))

  fits_in : (c : ℕ) → holds permit policy its (parts (test_bit c)) ≡ true → Holds permit policy its (parts (test_bit c))
  fits_in c h = holds-sound permit policy its (parts (test_bit c)) h

  -- what all tables that hold conclude, the least set concludes
  infects-least : (b a : ℕ) → ((c : ℕ) → c < 2 ^ 12352 → holds permit policy its (parts (test_bit c)) ≡ true → Infects (parts (test_bit c)) b a) → Infects (parts least_set) b a
  infects-least b a f s = from-least _ (λ c l h. f c l h (of-least c l h _ s))

  inside-least : (n b p : ℕ) → ((c : ℕ) → c < 2 ^ 12352 → holds permit policy its (parts (test_bit c)) ≡ true → Inside n (parts (test_bit c)).I b p) → Inside n (parts least_set).I b p
  inside-least n b p f k lk i = from-least _ (λ c l h. f c l h k lk (of-least c l h _ i))

  rule-least : (i : ℕ) (k : Capability) → capability (at its i).kind ≡ Some k → Rule permit (parts least_set) k (at its i).label (at its i).name
  rule-least i cap-in e = λ a b p la lb lp may ia ipa ipb hb. (
    from-least _ (λ c l h. (((fits_in c h).fits i).rules cap-in e a b p la lb lp may (of-least c l h _ ia) (of-least c l h _ ipa) (of-least c l h _ ipb) (of-least c l h _ hb)).0),
    infects-least _ _ (λ c l h. (((fits_in c h).fits i).rules cap-in e a b p la lb lp may (of-least c l h _ ia) (of-least c l h _ ipa) (of-least c l h _ ipb) (of-least c l h _ hb)).1),
  )
  rule-least i cap-out e = λ a b p la lb lp may ia iba ipb hb. (
    from-least _ (λ c l h. (((fits_in c h).fits i).rules cap-out e a b p la lb lp may (of-least c l h _ ia) (of-least c l h _ iba) (of-least c l h _ ipb) (of-least c l h _ hb)).0),
    infects-least _ _ (λ c l h. (((fits_in c h).fits i).rules cap-out e a b p la lb lp may (of-least c l h _ ia) (of-least c l h _ iba) (of-least c l h _ ipb) (of-least c l h _ hb)).1),
  )
  rule-least i cap-open e = λ b p lb lp may ip ipb hb. (
    inside-least _ _ _ (λ c l h. (((fits_in c h).fits i).rules cap-open e b p lb lp may (of-least c l h _ ip) (of-least c l h _ ipb) (of-least c l h _ hb)).0),
    infects-least _ _ (λ c l h. (((fits_in c h).fits i).rules cap-open e b p lb lp may (of-least c l h _ ip) (of-least c l h _ ipb) (of-least c l h _ hb)).1),
  )

  -- the rules have one conclusion each, so what all tables that hold have in common holds too
  pub least-holds : Holds permit policy its (parts least_set)
  least-holds = record {
    fits = λ i. record {
      nest = λ n. from-least _ (λ c _ h. ((fits_in c h).fits i).nest n);
      names = λ e. from-least _ (λ c _ h. ((fits_in c h).fits i).names e);
      rules = rule-least i;
    };
    high = λ k l e. from-least _ (λ c _ h. (fits_in c h).high k l e);
  }

module _ (permit : Permit) (policy : List ℕ) {its : List Rec} (wf : WellFormed its) where
  -- it lies inside every set that holds
  pub least-below : (u : ℕ → Bool) → Holds permit policy its (parts u) → (j : ℕ) → j < 12352 → least_set permit policy its j ≡ true → u j ≡ true
  least-below u h j l e =
      let c = numeral u 0 12352 in
      let same : Agree u (test_bit (numeral u 0 12352)) = λ i m. sym (numeral-set u 12352 i m) in
      same j l ∙ of-least permit policy its (numeral u 0 12352) (numeral-lt u 0 12352) (holds-complete permit policy its _ (holds_agree same permit policy wf h)) j e

  pub least-bits : Agree (bits (least_table permit policy its)) (least_set permit policy its)
  unfolding least_table
  least-bits j l = bits-bytes (least_set permit policy its) 1544 j (omega arith)

  -- the least table's bytes hold
  pub least-table-holds : Holds permit policy its (parts (bits (least_table permit policy its)))
  least-table-holds = holds_agree (λ j l. sym (least-bits j l)) permit policy wf (least-holds permit policy its)

  -- and lie inside every table that holds
  pub least-table-below : (u : ℕ → Bool) → Holds permit policy its (parts u) → (j : ℕ) → j < 12352 → bits (least_table permit policy its) j ≡ true → u j ≡ true
  least-table-below u h j l e = least-below u h j l (sym (least-bits j l) ∙ e)

  -- a table that holds and lies inside every set that holds is the least table
  pub least-table-is : (t : List ℕ) → length t ≡ 1544 → Narrow 8 t → Holds permit policy its (parts (bits t)) →
      ((u : ℕ → Bool) → Holds permit policy its (parts u) → (j : ℕ) → j < 12352 → bits t j ≡ true → u j ≡ true) → t ≡ least_table permit policy its
  unfolding least_table
  least-table-is t e small h f = bytes_bits 1544 t e small ∙ bytes_same 1544 (bits t) (least_set permit policy its) (λ j l. bool_iff _ _ (up j (omega arith)) (least-below (bits t) h j (omega arith)))
    where
      up : (j : ℕ) → j < 12352 → bits t j ≡ true → least_set permit policy its j ≡ true
      up j l b = from-least permit policy its j (λ c _ g. f (test_bit c) (fits_in permit policy its c g) j l b)

-- ---- the largest table of the right form holds, so the least table has the right form
unfoldable pub widest : ℕ → Bool
widest j = leb 8256 j || (leb j 8191 && not (eqb (j % 128) 0))

module _ where
  wide-I : (a k : ℕ) → a < 64 → k < 128 → widest (place_i a k) ≡ not (eqb k 0)
  unfolding widest place_i
  wide-I a k la lk =
      let m : (128 * a + k) % 128 ≡ k = omega arith in
      rw (lt-leb 8256 (128 * a + k) (omega arith), le-leb (128 * a + k) 8191 (omega arith), m)

  wide-H : (a n : ℕ) → a ≢ 0 → widest (place_h a n) ≡ true
  unfolding widest place_h
  wide-H a n z = rw (le-leb 8256 (8192 + (64 * a + n)) (omega arith))

  wide-H-none : (n : ℕ) → n < 64 → widest (place_h 0 n) ≡ false
  unfolding widest place_h
  wide-H-none n l = rw (lt-leb 8256 (8192 + (64 * 0 + n)) (omega arith), lt-leb (8192 + (64 * 0 + n)) 8191 (omega arith))

  wide-S : (k : ℕ) → widest (place_s k) ≡ true
  unfolding widest place_s
  wide-S k = rw (le-leb 8256 (12288 + k) (omega arith))

  wide-in : (a k : ℕ) → a < 64 → k < 128 → k ≢ 0 → widest (place_i a k) ≡ true
  wide-in a k la lk z = wide-I a k la lk ∙ ap not (ne_eqb k 0 z)

  wide-pos : (a k : ℕ) → a < 64 → k < 128 → widest (place_i a k) ≡ true → k ≢ 0
  wide-pos a k la lk h z = true≢false (sym h ∙ wide-I a k la lk ∙ ap not (eq-eqb k 0 z))

  wide-infects : (b a : ℕ) → Infects (parts widest) b a
  wide-infects b a s = wide-S a

  wide-inside : (n : ℕ) → n ≤ 128 → (b p : ℕ) → b < 64 → p < 64 → Inside n (parts widest).I b p
  wide-inside n m b p lb lp k lk i = wide-in p k lp (omega arith) (wide-pos b k lb (omega arith) i)

  wide-rule : (permit : Permit) (k : Capability) (t n : ℕ) → Rule permit (parts widest) k t n
  wide-rule permit cap-in t n = λ a b p la lb lp may ia ipa ipb hb. (wide-in _ _ lb (omega arith) (wide-pos _ _ (omega arith) (omega arith) ipa), wide-infects _ _)
  wide-rule permit cap-out t n = λ a b p la lb lp may ia iba ipb hb. (wide-in _ _ (omega arith) (omega arith) (wide-pos _ _ lb (omega arith) iba), wide-infects _ _)
  wide-rule permit cap-open t n = λ b p lb lp may ip ipb hb. (wide-inside _ (omega arith) _ _ lb (omega arith), wide-infects _ _)

module _ (permit : Permit) (policy : List ℕ) {its : List Rec} (wf : WellFormed its) where
  pub widest-holds : Holds permit policy its (parts widest)
  widest-holds = record {
    fits = λ i. record {
      nest = λ n. wide-in (container its i) (at its i).label (container-small wf i) (labels wf i) (label-pos wf i n);
      names = λ e. wide-H (at its i).label (at its i).name (label-pos wf i (amb-nested _ e));
      rules = λ k e. wide-rule permit k (at its i).label (at its i).name;
    };
    high = λ k l e. wide-S k;
  }

  off : (j : ℕ) → j < 12352 → widest j ≡ false → bits (least_table permit policy its) j ≡ false
  off j l e = go (bits (least_table permit policy its) j) refl
    where
      go : (t : Bool) → bits (least_table permit policy its) j ≡ t → t ≡ false
      go false q = refl
      go true q = sym (least-table-below permit policy wf widest widest-holds j l q) ∙ e

  pub least-table-length : length (least_table permit policy its) ≡ 1544
  unfolding least_table
  least-table-length = length-bytes (least_set permit policy its) 1544

  pub least-table-right : table_right (least_table permit policy its) ≡ true
  unfolding table_right table_sized place_i place_h
  least-table-right = and-make (eq-eqb _ _ least-table-length)
      (and-make (every-make _ _ 64 (λ a l _. ap not (off (place_i a 0) (below-I a l) (wide-I a 0 l (omega arith)))))
      (every-make _ _ 64 (λ n l _. ap not (off (place_h 0 n) (below-H n l) (wide-H-none n l)))))
    where
      below-I : (a : ℕ) → a < 64 → place_i a 0 < 12352
      below-I a l = omega arith

      below-H : (n : ℕ) → n < 64 → place_h 0 n < 12352
      below-H n l = omega arith
