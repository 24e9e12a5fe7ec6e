-- The list of moves and its tally. Each pair's answer is one of 0, 10, 11 and 12, so the four counts add up to all pairs; a pair
-- stands in the list where its answer is 0, so the list is as long as that count says. Both are said of one actor first and then
-- of all. A pair is found in the list by its actor and its partner, and before it stand those of lower actors, and of lower
-- partners of the same actor. An actor that has a move is a capability and its partner an ambient, so that the moves are at most
-- the product of how many there are of each, and four times that is at most the square of their sum.
use Rattle.std.specs.Prelude.{◌%◌, ◌*◌, ◌+◌, ◌-◌, ◌/◌, ◌<◌, ◌≤◌, suc, zero, ℕ, eqb, length, Bool, false, true, List, [], ◌++◌, ◌∷◌, ◌≡◌, refl, Option, None, Some}
use Rattle.std.proofs.Common.{true≢false, ap₂, length-append, append_assoc, append-nil, add-zero, slice_index_or, subst, ◌∙◌, ap, sym, arith, inl, inr, le-leb, ⊎_elim}
use Rattle.std.proofs.lemmas.Bool.{ne_eqb}
use Rattle.std.proofs.Math.Decide.{ℕ_discrete, dec_le}
use Rattle.std.proofs.Math.Nat.{mul_comm}
use Rattle.std.proofs.lemmas.Nat.{mul-le}
use Rattle.std.proofs.lemmas.List.{get_or-append-add}
use Rattle.model.specs.Analysis.{Permit, permit_all}
use Rattle.model.specs.Finite.{Each, joined, one_if, summed, tabulate, tally}
use Rattle.model.specs.MoveList.{answering, answering_of, list_bytes, listed, moves, moves_of, tally_by, tally_of}
use Rattle.model.specs.Records.{at, byte, capability, is_ambient, word, count, records, Capability}
use Rattle.model.specs.Scripts.{Step, step_in, steps_in}
use Rattle.model.specs.Steps.{Outcome, answer_of, done-by, outcome, refused-with}
use Rattle.model.specs.declared.Rec.{Rec}
use Rattle.model.proofs.Laws.Done.{amb-alive, cap-alive, cap-not-amb, outcome-done, refused-number}
use Rattle.model.proofs.Laws.WellFormed.{alive-in, alive-pos}
use Rattle.model.specs.Calls.{moves_answer, moving}
use Rattle.model.specs.Requests.{Before, ListAsTally, ListFits, ListIsScript, MovesAreSteps, MovesRise, Rising, TallyAddsUp, TallyOfSteps}
use Rattle.model.proofs.Laws.Bytes.{length-records, valid-few}
use Rattle.model.specs.Refusals.{pass, and_then, need}
use Rattle.model.specs.Validity.{validity}
use Rattle.model.proofs.Laws.Adequacy.{call-done, done-call}
use Rattle.model.proofs.Laws.Checks.{answer-value}
use Rattle.std.specs.List.{Contains}
use Rattle.std.proofs.lemmas.List.Elements.{Contains-append_left, Contains-append_right}
use Rattle.model.proofs.Laws.Forest.{tally-le, tally-same}
use Rattle.model.proofs.Laws.Lists.{step-number}

-- lists one after another: one more at the end
pub joined-next : {A : Type 0} (i n : ℕ) (f : ℕ → List A) → joined i (suc n) f ≡ joined i n f ++ f (i + n)
unfolding joined
joined-next i zero f = rw (add-zero i) (append-nil (f i))
joined-next i (suc n) f = ap (λ l. f i ++ l) (joined-next (suc i) n f) ∙ sym (append_assoc (f i) (joined (suc i) n f) (f (suc i + n))) ∙ ap (λ k. (f i ++ joined (suc i) n f) ++ f k) (let e : suc i + n ≡ i + suc n = omega arith in e)

-- how long they are together
pub length-joined : {A : Type 0} (n : ℕ) (f : ℕ → List A) → length (joined 1 n f) ≡ summed (λ i. length (f i)) n
unfolding joined summed
length-joined zero f = refl
length-joined (suc n) f = let e : length (f (1 + n)) ≡ length (f (suc n)) = ap (λ k. length (f k)) (omega arith) in
    ap length (joined-next 1 n f) ∙ length-append (joined 1 n f) (f (1 + n)) ∙ omega (arith, e, length-joined n f)

-- sums, entry by entry
pub summed-same : (f g : ℕ → ℕ) (n : ℕ) → ((i : ℕ) → f i ≡ g i) → summed f n ≡ summed g n
unfolding summed
summed-same f g zero h = refl
summed-same f g (suc n) h = omega (arith, h (suc n), summed-same f g n h)

pub summed-le : (f : ℕ → ℕ) (k n : ℕ) → ((i : ℕ) → f i ≤ k) → summed f n ≤ n * k
unfolding summed
summed-le f k zero h = omega arith
summed-le f k (suc n) h = omega (arith, h (suc n), summed-le f k n h)

pub tally-summed : (t : ℕ → Bool) (n : ℕ) → summed (λ i. one_if (t i)) n ≡ tally t n
unfolding summed tally
tally-summed t zero = refl
tally-summed t (suc n) = omega (arith, tally-summed t n)

-- the bytes of lists one after the other, and how many there are
pub bytes-append : (ms ns : List Step) → list_bytes (ms ++ ns) ≡ list_bytes ms ++ list_bytes ns
unfolding list_bytes
bytes-append [] ns = refl
bytes-append (m ∷ ms) ns = ap (λ l. m.actor % 256 ∷ m.actor / 256 ∷ m.partner % 256 ∷ m.partner / 256 ∷ l) (bytes-append ms ns)

pub length-bytes : (ms : List Step) → length (list_bytes ms) ≡ 4 * length ms
unfolding list_bytes
length-bytes [] = refl
length-bytes (m ∷ ms) = omega (arith, length-bytes ms)

-- what holds of each of two lists holds of both, as what follows from it; and it holds of what a list has
each-append : {A : Type 0} (P : A → Type 0) (xs ys : List A) → Each P xs → Each P ys → Each P (xs ++ ys)
each-append P [] ys h g = g
each-append P (x ∷ xs) ys h g = (h.0, each-append P xs ys h.1 g)

each-map : {A : Type 0} {P Q : A → Type 0} (xs : List A) → ((x : A) → P x → Q x) → Each P xs → Each Q xs
each-map [] f h = tt
each-map (x ∷ xs) f h = (f x h.0, each-map xs f h.1)

each-all : {A : Type 0} (i : ℕ) (P : ℕ → A → Type 0) (xs : List A) → ((y : ℕ) → i < y → Each (P y) xs) → Each (λ x. (y : ℕ) → i < y → P y x) xs
each-all i P [] f = tt
each-all i P (x ∷ xs) f = (λ y l. (f y l).0, each-all i P xs (λ y l. (f y l).1))

each-at : {A : Type 0} (P : A → Type 0) (xs : List A) (x : A) → Each P xs → (k : ℕ) → k < length xs → slice_index_or xs k x ≡ x → P x
each-at P [] x h k l e = absurd (omega arith)
each-at P (y ∷ ys) x h zero l e = subst P e h.0
each-at P (y ∷ ys) x h (suc k) l e = each-at P ys x h.1 k (omega arith) e

each-has : {A : Type 0} (P : A → Type 0) (xs : List A) (x : A) → Each P xs → Contains xs x → P x
each-has P xs x h c = each-at P xs x h c.0 c.1 c.2

-- what holds of each list holds of all, and what one has all have
pub joined-all : {A : Type 0} (P : A → Type 0) (i n : ℕ) (f : ℕ → List A) → ((x : ℕ) → i ≤ x → Each P (f x)) → Each P (joined i n f)
unfolding joined
joined-all P i zero f h = tt
joined-all P i (suc n) f h = each-append P (f i) (joined (suc i) n f) (h i (omega arith)) (joined-all P (suc i) n f (λ x l. h x (omega arith)))

pub joined-has : {A : Type 0} (i n : ℕ) (f : ℕ → List A) (x : ℕ) → i ≤ x → x < i + n → (a : A) → Contains (f x) a → Contains (joined i n f) a
unfolding joined
joined-has i zero f x l h a c = absurd (omega arith)
joined-has i (suc n) f x l h a c = go (ℕ_discrete i x) (λ m. joined-has (suc i) n f x m (omega arith) a c)
  where
    go : Dec (i ≡ x) → (suc i ≤ x → Contains (joined (suc i) n f) a) → Contains (joined i (suc n) f) a
    go (yes e) ih = Contains-append_left (f i) (joined (suc i) n f) a (rw e c)
    go (no e) ih = Contains-append_right (f i) (joined (suc i) n f) a (ih (omega arith))

-- lists that rise, each before the next, rise together
rising-append : (xs ys : List Step) → Rising xs → Rising ys → Each (λ m. Each (Before m) ys) xs → Rising (xs ++ ys)
unfolding Rising
rising-append [] ys r s h = s
rising-append (x ∷ xs) ys r s h = (each-append (Before x) xs ys r.0 h.0, rising-append xs ys r.1 s h.1)

module _ (f : ℕ → List Step) (own : (x : ℕ) → Rising (f x)) (apart : (x y : ℕ) → x < y → Each (λ m. Each (Before m) (f y)) (f x)) where
  pub joined-rising : (i n : ℕ) → Rising (joined i n f)
  unfolding joined Rising
  joined-rising i zero = tt
  joined-rising i (suc n) = rising-append (f i) (joined (suc i) n f) (own i) (joined-rising (suc i) n)
      (each-map (f i) (λ m h. joined-all (Before m) (suc i) n f h) (each-all i (λ y m. Each (Before m) (f y)) (f i) (apart i)))

-- four times a product is at most the square of the sum
four-apart : (x d n : ℕ) → x + (x + d) ≤ n → 4 * (x * (x + d)) ≤ n * n
four-apart x d n h = omega (arith, mul-le (x + (x + d)) (x + (x + d)) n n h h)

four-times : (x y n : ℕ) → x + y ≤ n → 4 * (x * y) ≤ n * n
four-times x y n h = go (dec_le x y)
  where
    go : Dec (x ≤ y) → 4 * (x * y) ≤ n * n
    go (yes l) = let e : y ≡ x + (y - x) = omega arith in rw e (four-apart x (y - x) n (omega arith))
    go (no l) = let e : x ≡ y + (x - y) = omega arith in rw (mul_comm x y, e) (four-apart y (x - y) n (omega arith))

module _ (permit : Permit) (its : List Rec) where
  answer_at : ℕ → ℕ → ℕ
  answer_at c b = answer_of (outcome permit its c b)

  -- a pair that is listed is a step that is done
  IsMove : Step → Type 0
  IsMove m = (k : Capability) × (outcome permit its m.actor m.partner ≡ done-by k)

  listed-all : (P : Step → Type 0) (c b : ℕ) → ((k : Capability) → outcome permit its c b ≡ done-by k → P (record { actor = c; partner = b })) → Each P (listed (outcome permit its c b) c b)
  unfolding listed
  listed-all P c b f = go (outcome permit its c b) refl
    where
      go : (o : Outcome) → outcome permit its c b ≡ o → Each P (listed o c b)
      go (done-by k) e = (f k e, tt)
      go (refused-with n) e = tt

  -- the pairs of an actor are its own
  of-actor : (c : ℕ) → Each (λ m. m.actor ≡ c) (moves_of permit its c)
  unfolding moves_of
  of-actor c = joined-all _ 1 (length its) _ (λ b _. listed-all _ c b (λ k e. refl))

  -- and all are moves
  moves-all : Each IsMove (moves permit its)
  unfolding moves moves_of IsMove
  moves-all = joined-all IsMove 1 (length its) _ (λ c _. joined-all IsMove 1 (length its) _ (λ b _. listed-all IsMove c b (λ k e. (k, e))))

  pub move-done : (m : Step) → Contains (moves permit its) m → (k : Capability) × (outcome permit its m.actor m.partner ≡ done-by k)
  unfolding IsMove
  move-done m h = each-has IsMove (moves permit its) m moves-all h

  -- and the other way round, whatever the numbers
  pub done-move : (c b : ℕ) (k : Capability) → outcome permit its c b ≡ done-by k → Contains (moves permit its) (record { actor = c; partner = b })
  unfolding moves moves_of listed
  done-move c b k e =
      let d = outcome-done k e in
      let x = cap-alive its c k d.cap in
      let y = amb-alive its b d.amb in
      joined-has 1 (length its) _ c (omega (arith, alive-pos its c x)) (omega (arith, alive-in its c x)) _
      (joined-has 1 (length its) _ b (omega (arith, alive-pos its b y)) (omega (arith, alive-in its b y)) _ (rw e (0, omega arith, refl)))

  -- by actor and then partner
  listed-rising : (c b : ℕ) → Rising (listed (outcome permit its c b) c b)
  unfolding listed Rising
  listed-rising c b = go (outcome permit its c b)
    where
      go : (o : Outcome) → Rising (listed o c b)
      go (done-by k) = (tt, tt)
      go (refused-with n) = tt

  actor-rising : (c : ℕ) → Rising (moves_of permit its c)
  unfolding moves_of
  actor-rising c = joined-rising _ (λ b. listed-rising c b)
      (λ b b' l. listed-all _ c b (λ k e. listed-all _ c b' (λ k' e'. inr (refl, l)))) 1 (length its)

  pub moves-rising : Rising (moves permit its)
  unfolding moves
  moves-rising = joined-rising _ actor-rising
      (λ c c' l. each-map (moves_of permit its c) (λ m e. each-map (moves_of permit its c') (λ m' e'. inl (omega arith)) (of-actor c')) (of-actor c)) 1 (length its)

  -- every answer is one of the four
  one-of : (c b : ℕ) → one_if (eqb (answer_at c b) 0) + one_if (eqb (answer_at c b) 10) + one_if (eqb (answer_at c b) 11) + one_if (eqb (answer_at c b) 12) ≡ 1
  unfolding answer_at answer_of one_if
  one-of c b = go (outcome permit its c b) refl
    where
      four : ℕ → ℕ
      four x = one_if (eqb x 0) + one_if (eqb x 10) + one_if (eqb x 11) + one_if (eqb x 12)

      at-number : (n : ℕ) → 10 ≤ n → n ≤ 12 → four n ≡ 1
      at-number n l h = pick (ℕ_discrete n 10) (ℕ_discrete n 11)
        where
          pick : Dec (n ≡ 10) → Dec (n ≡ 11) → four n ≡ 1
          pick (yes e) d = rw e
          pick (no e) (yes f) = rw f
          pick (no e) (no f) = let q : n ≡ 12 = omega arith in rw q

      go : (o : Outcome) → outcome permit its c b ≡ o → four (answer_of (outcome permit its c b)) ≡ 1
      go (done-by k) e = rw e
      go (refused-with n) e = let w = refused-number permit its c b n e in rw e (at-number n w.0 w.1)

  -- a pair is listed where its answer is 0
  listed-length : (c b : ℕ) → length (listed (outcome permit its c b) c b) ≡ one_if (eqb (answer_at c b) 0)
  unfolding answer_at answer_of one_if listed
  listed-length c b = go (outcome permit its c b) refl
    where
      go : (o : Outcome) → outcome permit its c b ≡ o → length (listed (outcome permit its c b) c b) ≡ one_if (eqb (answer_of (outcome permit its c b)) 0)
      go (done-by k) e = rw e
      go (refused-with n) e = let w = refused-number permit its c b n e in let q : eqb n 0 ≡ false = ne_eqb n 0 (λ z. absurd (omega arith)) in rw (e, q)

  -- the pairs of an actor: each count is no more than all, the four are all, and the list is as long as the count of 0 says
  pub actor-le : (x c : ℕ) → answering_of permit its x c ≤ length its
  unfolding answering_of
  actor-le x c = tally-le _ (length its)

  abbrev counted : ℕ → ℕ → ℕ → ℕ
  counted x c n = tally (λ b. eqb (answer_at c b) x) n

  four-to : (c n : ℕ) → counted 0 c n + counted 10 c n + counted 11 c n + counted 12 c n ≡ n
  unfolding tally
  four-to c zero = refl
  four-to c (suc n) = omega (arith, one-of c (suc n), four-to c n)

  actor-four : (c : ℕ) → answering_of permit its 0 c + answering_of permit its 10 c + answering_of permit its 11 c + answering_of permit its 12 c ≡ length its
  unfolding answering_of answer_at
  actor-four c = four-to c (length its)

  actor-length : (c : ℕ) → length (moves_of permit its c) ≡ answering_of permit its 0 c
  unfolding moves_of answering_of answer_at
  actor-length c =
      length-joined (length its) (λ b. listed (outcome permit its c b) c b)
      ∙ summed-same _ _ (length its) (λ b. listed-length c b)
      ∙ tally-summed (λ b. eqb (answer_at c b) 0) (length its)

  -- the pairs of all actors
  four-all : (n : ℕ) → summed (answering_of permit its 0) n + summed (answering_of permit its 10) n + summed (answering_of permit its 11) n + summed (answering_of permit its 12) n ≡ n * length its
  unfolding summed
  four-all zero = omega arith
  four-all (suc n) = omega (arith, actor-four (suc n), four-all n)

  -- "The four counts add up to the record count times itself."
  pub adds-up : answering permit its 0 + answering permit its 10 + answering permit its 11 + answering permit its 12 ≡ length its * length its
  unfolding answering
  adds-up = four-all (length its)

  -- the list is as long as the tally says
  pub moves-length : length (moves permit its) ≡ answering permit its 0
  unfolding moves answering
  moves-length = length-joined (length its) (moves_of permit its) ∙ summed-same _ _ (length its) actor-length

  pub list-length : length (list_bytes (moves permit its)) ≡ 4 * answering permit its 0
  list-length = length-bytes (moves permit its) ∙ ap (λ n. 4 * n) moves-length

  -- an actor that has a move is a capability, and its partner an ambient; no record is both
  able : ℕ → Bool
  able c = some (capability (at its c).kind)
    where
      some : Option Capability → Bool
      some None = false
      some (Some k) = true

  able-some : (c : ℕ) (k : Capability) → capability (at its c).kind ≡ Some k → able c ≡ true
  unfolding able
  able-some c k e = rw e

  borne : ℕ → Bool
  borne b = is_ambient (at its b)

  one-kind : (i : ℕ) → one_if (able i) + one_if (borne i) ≤ 1
  unfolding able borne one_if is_ambient
  one-kind i = go (capability (at its i).kind) refl (is_ambient (at its i)) refl
    where
      go : (o : Option Capability) → capability (at its i).kind ≡ o → (t : Bool) → is_ambient (at its i) ≡ t → one_if (able i) + one_if (borne i) ≤ 1
      go None e true f = rw (e, f) (omega arith)
      go None e false f = rw (e, f) (omega arith)
      go (Some k) e false f = rw (e, f) (omega arith)
      go (Some k) e true f = absurd (true≢false (sym f ∙ cap-not-amb its i k e))

  kinds : (n : ℕ) → tally able n + tally borne n ≤ n
  unfolding tally
  kinds zero = omega arith
  kinds (suc n) = omega (arith, one-kind (suc n), kinds n)

  -- a pair counts for at most one, by a capability and on an ambient
  pair-le : (c b : ℕ) → one_if (eqb (answer_at c b) 0) ≤ one_if (able c) * one_if (borne b)
  unfolding answer_at answer_of one_if borne
  pair-le c b = go (outcome permit its c b) refl
    where
      go : (o : Outcome) → outcome permit its c b ≡ o → one_if (eqb (answer_of (outcome permit its c b)) 0) ≤ one_if (able c) * one_if (is_ambient (at its b))
      go (done-by k) e = let d = outcome-done k e in rw (e, able-some c k d.cap, d.amb) (omega arith)
      go (refused-with n) e = let w = refused-number permit its c b n e in let q : eqb n 0 ≡ false = ne_eqb n 0 (λ z. absurd (omega arith)) in rw (e, q) (omega arith)

  actor-few : (c n : ℕ) → counted 0 c n ≤ one_if (able c) * tally borne n
  unfolding tally
  actor-few c zero = omega arith
  actor-few c (suc n) = omega (arith, pair-le c (suc n), actor-few c n)

  all-few : (n : ℕ) → summed (answering_of permit its 0) n ≤ tally able n * tally borne (length its)
  unfolding summed tally answering_of answer_at
  all-few zero = omega arith
  all-few (suc n) = let h : answering_of permit its 0 (suc n) ≤ one_if (able (suc n)) * tally borne (length its) = actor-few (suc n) (length its) in omega (arith, h, all-few n)

  pub list-fits : length (list_bytes (moves permit its)) ≤ length its * length its
  unfolding answering
  list-fits = rw list-length (let q = four-times (tally able (length its)) (tally borne (length its)) (length its) (kinds (length its)) in omega (arith, all-few (length its), q))

-- numbers below 65,536 are read as they were written
module _ (pre : List ℕ) (m : Step) (rest : List ℕ) (i : ℕ) (e : length pre ≡ 4 * i) (a : m.actor < 65536) (b : m.partner < 65536) where
  here : List ℕ
  here = pre ++ (m.actor % 256 ∷ m.actor / 256 ∷ m.partner % 256 ∷ m.partner / 256 ∷ rest)

  byte-at : (j p : ℕ) → p ≡ length pre + j → byte here p ≡ byte (m.actor % 256 ∷ m.actor / 256 ∷ m.partner % 256 ∷ m.partner / 256 ∷ rest) j
  unfolding here
  byte-at j p q = ap (byte here) q ∙ get_or-append-add pre _ j 0

  read-here : step_in here i ≡ m
  unfolding step_in here
  read-here =
      let c = byte-at 0 (4 * i) (omega (arith, e)) in
      let d = byte-at 1 (4 * i + 1) (omega (arith, e)) in
      let f = byte-at 2 (4 * i + 2) (omega (arith, e)) in
      let g = byte-at 3 (4 * i + 3) (omega (arith, e)) in
      let u : word (m.actor % 256) (m.actor / 256) ≡ m.actor = omega arith in
      let v : word (m.partner % 256) (m.partner / 256) ≡ m.partner = omega arith in
      rw (c, d, f, g, u, v) refl

read-back : (ms : List Step) (pre : List ℕ) (i : ℕ) → length pre ≡ 4 * i → Each (λ m. (m.actor < 65536) × (m.partner < 65536)) ms → tabulate i (length ms) (step_in (pre ++ list_bytes ms)) ≡ ms
unfolding tabulate list_bytes here
read-back [] pre i e h = refl
read-back (m ∷ ms) pre i e h =
    let four = m.actor % 256 ∷ m.actor / 256 ∷ m.partner % 256 ∷ m.partner / 256 ∷ [] in
    let l : length (pre ++ four) ≡ 4 * suc i = omega (arith, length-append pre four) in
    let w = append_assoc pre four (list_bytes ms) in
    ap₂ (λ x xs. x ∷ xs) (read-here pre m (list_bytes ms) i e h.0.0 h.0.1)
    (ap (λ z. tabulate (suc i) (length ms) (step_in z)) (sym w) ∙ read-back ms (pre ++ four) (suc i) l h.1)

-- Job 3's sentences, of the call
pub tally-adds_up : TallyAddsUp
unfolding moves_answer tally_of tally_by
tally-adds_up s list t h =
    let e = answer-value (moving s list) (tally_of permit_all (records s)) t h in
    let l : length (records s) ≡ count s = length-records s in
    rw (← e, ← l) (adds-up permit_all (records s))

pub list-as-tally : ListAsTally
unfolding moves_answer tally_of tally_by
list-as-tally s list t h =
    let e = answer-value (moving s list) (tally_of permit_all (records s)) t h in
    rw (← e) (list-length permit_all (records s))

pub moves-rise : MovesRise
moves-rise s = moves-rising permit_all (records s)

pub list-small : ListFits
unfolding moving and_then need count
list-small s list v h = rw (v, le-leb (length (list_bytes (moves permit_all (records s)))) (length list) (⊎_elim own all h)) refl
  where
    few : length (list_bytes (moves permit_all (records s))) ≤ count s * count s
    few = rw (← length-records s) (list-fits permit_all (records s))

    own : count s * count s ≤ length list → length (list_bytes (moves permit_all (records s))) ≤ length list
    own l = omega (arith, few, l)

    all : 1048576 ≤ length list → length (list_bytes (moves permit_all (records s))) ≤ length list
    all l = let n : count s ≤ 1024 = omega (arith, valid-few s v) in omega (arith, few, l, mul-le (count s) (count s) 1024 1024 n n)

pub tally-of_steps : TallyOfSteps
unfolding answering answering_of
tally-of_steps s v x =
    ap (summed (answering_of permit_all (records s) x)) (length-records s)
    ∙ summed-same _ _ (count s) (λ c. ap (tally _) (length-records s) ∙ tally-same _ _ (count s) (λ b _. ap (λ n. eqb n x) (sym (step-number s v c b))))

pub moves-are-steps : MovesAreSteps
moves-are-steps s c b v = (
  λ h. let w = move-done permit_all (records s) _ h in done-call s v c b w.0 w.1,
  λ h. let w = call-done s v c b h in done-move permit_all (records s) c b w.0 w.1,
)

-- numbers of records are below 65,536
move-small : (s : List ℕ) → validity s ≡ pass → (m : Step) → IsMove permit_all (records s) m → (m.actor < 65536) × (m.partner < 65536)
unfolding IsMove count
move-small s v m x =
    let its = records s in let d = outcome-done x.0 x.1 in
    let a = alive-in its m.actor (cap-alive its m.actor x.0 d.cap) in
    let b = alive-in its m.partner (amb-alive its m.partner d.amb) in
    let n = length-records s in
    (omega (arith, valid-few s v, a, n), omega (arith, valid-few s v, b, n))

pub list-is-script : ListIsScript
unfolding steps_in
list-is-script s v =
    let ms = moves permit_all (records s) in
    let z : length (list_bytes ms) / 4 ≡ length ms = omega (arith, length-bytes ms) in
    ap (λ j. tabulate 0 j (step_in (list_bytes ms))) z ∙ read-back ms [] 0 refl (each-map ms (move-small s v) (moves-all permit_all (records s)))
