-- The tally and the list grow by one partner, and by one actor. An actor's pairs are read in two ways: where 10 or 11 refuse the
-- actor all have that answer, and none is listed; where the actor is ready a partner that fits is done and listed, and every
-- other has 12.
use Rattle.std.specs.Prelude.{◌%◌, ◌+◌, ◌-◌, ◌<◌, ◌≤◌, suc, zero, ℕ, eqb, length, Bool, false, true, List, [], ◌++◌, ◌∷◌, ◌≡◌, refl, Ok, Err, ◌⊎◌}
use Rattle.std.proofs.Common.{add-one, zero-add, ◌∙◌, ap, sym, arith, inl, inr}
use Rattle.model.specs.Analysis.{permit_all}
use Rattle.model.specs.Finite.{joined, one_if, summed, tally}
use Rattle.model.specs.MoveList.{answering, answering_of, list_bytes, listed, moves, moves_of, tally_by, tally_of}
use Rattle.std.proofs.lemmas.Nat.{mul-le}
use mir.Val.{bool_byte}
use lib.ListN.{length-set}
use Rattle.std.specs.Prelude.{set}
use Rattle.text_put.specs.Laws.{put_one, put_then}
use Rattle.text_put.specs.Puts.{Put}
use Rattle.model.specs.Numbers.{number_of}
use Rattle.model.specs.Records.{at, count, decode, records}
use Rattle.model.specs.Scripts.{Step}
use Rattle.model.specs.Steps.{answer_of, decide, outcome, refused-with}
use Rattle.model.specs.declared.Cause.{Cause}
use Rattle.model.specs.declared.Cause.TheVariants as cause
use Rattle.model.specs.declared.Rec.{Rec}
use Rattle.model.specs.declared.Tally.{Tally}
use Rattle.model.proofs.Laws.Bytes.{at-whole, length-records, valid-few, valid-whole}
use Rattle.model.specs.Refusals.{pass}
use Rattle.model.specs.Validity.{validity}
use Rattle.model.proofs.Laws.Forest.{tally-same}
use Rattle.model.proofs.Laws.MoveList.{actor-le, bytes-append, summed-le}
use Rattle.move_list.specs.Pairs.{Roomy, added, all_refused, left, listed_at, pair, actor_tally, rows_to}
use Rattle.steps.specs.Laws.{admitted-cause, as-admitted}
use Rattle.steps.specs.Moves.{Places, admitted, fit_by}
use Rattle.steps.specs.declared.Acting.{Acting}

-- none passes, all pass, and those that pass with those that don't
tally-none : (t : ℕ → Bool) (n : ℕ) → ((i : ℕ) → t i ≡ false) → tally t n ≡ 0
unfolding tally one_if
tally-none t zero h = refl
tally-none t (suc n) h = rw (h (suc n), tally-none t n h)

tally-all : (t : ℕ → Bool) (n : ℕ) → ((i : ℕ) → t i ≡ true) → tally t n ≡ n
unfolding tally one_if
tally-all t zero h = refl
tally-all t (suc n) h = rw (h (suc n), tally-all t n h) (omega arith)

tally-rest : (t u : ℕ → Bool) (n : ℕ) → ((i : ℕ) → one_if (t i) + one_if (u i) ≡ 1) → tally t n + tally u n ≡ n
unfolding tally
tally-rest t u zero h = refl
tally-rest t u (suc n) h = omega (arith, h (suc n), tally-rest t u n h)

tally_is : {a b c d a' b' c' d' : ℕ} → a ≡ a' → b ≡ b' → c ≡ c' → d ≡ d' →
    ◌≡◌ {A = Tally} (record { done = a; no_capability = b; inactive = c; unfit = d }) (record { done = a'; no_capability = b'; inactive = c'; unfit = d' })
tally_is e f g h = rw (e, f, g, h) refl

-- one partner more
pub tally-next : (t : ℕ → Bool) (fits n k : ℕ) → fits ≡ tally t n → k ≡ one_if (t (n + 1)) → fits + k ≡ tally t (n + 1)
unfolding tally
tally-next t fits n k e f = rw (add-one n) (omega (arith, e, f ∙ ap (λ i. one_if (t i)) (add-one n)))

-- the partners that may fit are counted among some of them: none passes before, and none behind
tally-before : (t : ℕ → Bool) (k : ℕ) → ((i : ℕ) → 1 ≤ i → i ≤ k → t i ≡ false) → 0 ≡ tally t k
unfolding tally one_if
tally-before t zero h = refl
tally-before t (suc k) h = rw (h (suc k) (omega arith) (omega arith), ← tally-before t k (λ i a b. h i a (omega arith))) refl

tally-behind : (t : ℕ → Bool) (k d : ℕ) → ((i : ℕ) → k < i → i ≤ k + d → t i ≡ false) → tally t k ≡ tally t (k + d)
unfolding tally one_if
tally-behind t k zero h = ap (tally t) (omega arith)
tally-behind t k (suc d) h =
    let e : k + suc d ≡ suc (k + d) = omega arith in
    rw (e, h (suc (k + d)) (omega arith) (omega arith)) (omega (arith, tally-behind t k d (λ i a b. h i a (omega arith))))

module _ {x : Acting} {n lo hi : ℕ} (p : Places x n lo hi) (r : ℕ → Rec) where
  pub places-start : 0 ≡ tally (λ b. fit_by x (r b) b) lo
  places-start = tally-before (λ b. fit_by x (r b) b) lo (λ b. p.before (r b) b)

  pub places-end : tally (λ b. fit_by x (r b) b) hi ≡ tally (λ b. fit_by x (r b) b) n
  places-end =
      let e : hi + (n - hi) ≡ n = omega (arith, p.inside) in
      tally-behind (λ b. fit_by x (r b) b) hi (n - hi) (λ b a c. p.behind (r b) b a (omega arith)) ∙ ap (tally (λ b. fit_by x (r b) b)) e

joined-none : (i n : ℕ) (f : ℕ → List Step) → ((b : ℕ) → f b ≡ []) → joined i n f ≡ []
unfolding joined
joined-none i zero f h = refl
joined-none i (suc n) f h = rw (h i) (joined-none (suc i) n f h)

-- the row of an actor whose pairs have one answer
module _ (its : List Rec) (c : ℕ) where
  same-answer : (n : ℕ) → ((b : ℕ) → outcome permit_all its c b ≡ refused-with n) → (x : ℕ) (t : Bool) → eqb n x ≡ t → answering_of permit_all its x c ≡ tally (λ b. t) (length its)
  unfolding answering_of answer_of
  same-answer n h x t e = tally-same _ _ (length its) (λ b _. rw (h b) e)

  -- all pairs where the numbers agree, none where they don't
  all-or-none : Bool → ℕ
  all-or-none true = length its
  all-or-none false = 0

  same-tally : (n : ℕ) → ((b : ℕ) → outcome permit_all its c b ≡ refused-with n) → tally_by (λ x. all-or-none (eqb n x)) ≡ actor_tally its c
  unfolding actor_tally tally_by all-or-none
  same-tally n h = tally_is (one 0) (one 10) (one 11) (one 12)
    where
      by : (t : Bool) → all-or-none t ≡ tally (λ b. t) (length its)
      by true = sym (tally-all (λ b. true) (length its) (λ _. refl))
      by false = sym (tally-none (λ b. false) (length its) (λ _. refl))

      one : (x : ℕ) → all-or-none (eqb n x) ≡ answering_of permit_all its x c
      one x = by (eqb n x) ∙ sym (same-answer n h x (eqb n x) refl)

  same-actor : admitted its c ≡ Err cause.Actor → all_refused cause.Actor (length its) ≡ actor_tally its c
  unfolding tally_by number_of all_refused all-or-none
  same-actor e = same-tally 10 (λ b. (as-admitted its c b).0 _ e)

  same-active : admitted its c ≡ Err cause.Active → all_refused cause.Active (length its) ≡ actor_tally its c
  unfolding tally_by number_of all_refused all-or-none
  same-active e = same-tally 11 (λ b. (as-admitted its c b).0 _ e)

  pub refused-tally : (x : Cause) → admitted its c ≡ Err x → all_refused x (length its) ≡ actor_tally its c
  refused-tally x e = go (admitted-cause its c x e)
    where
      go : (x ≡ cause.Actor) ⊎ (x ≡ cause.Active) → all_refused x (length its) ≡ actor_tally its c
      go (inl a) = rw a (same-actor (rw a at e))
      go (inr a) = rw a (same-active (rw a at e))

  -- none of its pairs is listed
  pub none-listed : (x : Cause) → admitted its c ≡ Err x → moves_of permit_all its c ≡ []
  unfolding moves_of listed
  none-listed x e = joined-none 1 (length its) _ (λ b. ap (λ o. listed o c b) ((as-admitted its c b).0 x e))

  -- the row of a ready actor, and which of its pairs are listed
  module _ (x : Acting) (e : admitted its c ≡ Ok x) where
    by-fit : (b : ℕ) (t : Bool) → fit_by x (at its b) b ≡ t → outcome permit_all its c b ≡ decide x.capability true t
    by-fit b t f = (as-admitted its c b).1 x e ∙ ap (decide x.capability true) f

    told : ℕ → ℕ → Bool
    told y b = eqb (answer_of (outcome permit_all its c b)) y

    told-done : (b : ℕ) → told 0 b ≡ fit_by x (at its b) b
    unfolding told answer_of decide
    told-done b = go (fit_by x (at its b) b) refl
      where
        go : (t : Bool) → fit_by x (at its b) b ≡ t → eqb (answer_of (outcome permit_all its c b)) 0 ≡ fit_by x (at its b) b
        go true f = rw (by-fit b true f, f) refl
        go false f = rw (by-fit b false f, f) refl

    told-none : (y b : ℕ) → eqb 0 y ≡ false → eqb 12 y ≡ false → told y b ≡ false
    unfolding told answer_of decide
    told-none y b u w = go (fit_by x (at its b) b) refl
      where
        go : (t : Bool) → fit_by x (at its b) b ≡ t → eqb (answer_of (outcome permit_all its c b)) y ≡ false
        go true f = rw (by-fit b true f) u
        go false f = rw (by-fit b false f) w

    told-rest : (b : ℕ) → one_if (told 0 b) + one_if (told 12 b) ≡ 1
    unfolding told answer_of decide one_if
    told-rest b = go (fit_by x (at its b) b) refl
      where
        go : (t : Bool) → fit_by x (at its b) b ≡ t → one_if (eqb (answer_of (outcome permit_all its c b)) 0) + one_if (eqb (answer_of (outcome permit_all its c b)) 12) ≡ 1
        go true f = rw (by-fit b true f) refl
        go false f = rw (by-fit b false f) refl

    pub ready-tally : (fits : ℕ) → fits ≡ tally (λ b. fit_by x (at its b) b) (length its) →
        record { done = fits; no_capability = 0; inactive = 0; unfit = length its - fits } ≡ actor_tally its c
    unfolding actor_tally tally_by answering_of told
    ready-tally fits f =
        let d : fits ≡ tally (told 0) (length its) = f ∙ sym (tally-same (told 0) _ (length its) (λ b _. told-done b)) in
        let u : length its - fits ≡ tally (told 12) (length its) = omega (arith, d, tally-rest (told 0) (told 12) (length its) told-rest) in
        let v = tally-none (told 10) (length its) (λ b. told-none 10 b refl refl) in
        let w = tally-none (told 11) (length its) (λ b. told-none 11 b refl refl) in
        tally_is d (sym v) (sym w) u

    pub listed-fits : (b : ℕ) → fit_by x (at its b) b ≡ true → listed_at its c b ≡ pair c b
    unfolding listed_at listed pair decide
    listed-fits b f = rw (by-fit b true f) refl

    pub listed-unfit : (b : ℕ) → fit_by x (at its b) b ≡ false → listed_at its c b ≡ []
    unfolding listed_at listed decide
    listed-unfit b f = rw (by-fit b false f) refl

-- how many fit, of the records as they are read
pub fitting-all : (s : List ℕ) → length s % 8 ≡ 0 → (x : Acting) (fits : ℕ) → fits ≡ tally (λ b. fit_by x (decode s b) b) (count s) →
    fits ≡ tally (λ b. fit_by x (at (records s) b) b) (length (records s))
fitting-all s m x fits e = e ∙ ap (tally (λ b. fit_by x (decode s b) b)) (sym (length-records s)) ∙ tally-same _ _ (length (records s)) (λ b _. ap (λ r. fit_by x r b) (sym (at-whole s m b)))

-- the tally, actor by actor
pub rows-none : (its : List Rec) → record { done = 0; no_capability = 0; inactive = 0; unfit = 0 } ≡ rows_to its 0
unfolding rows_to tally_by summed
rows-none its = refl

pub rows-next : (its : List Rec) (m : ℕ) → added (rows_to its m) (actor_tally its (m + 1)) ≡ rows_to its (m + 1)
unfolding rows_to actor_tally tally_by added summed
rows-next its m = rw (add-one m) (tally_is (one-more 0) (one-more 10) (one-more 11) (one-more 12))
  where
    one-more : (x : ℕ) → summed (answering_of permit_all its x) m + answering_of permit_all its x (suc m) ≡ summed (answering_of permit_all its x) (suc m)
    one-more x = omega arith

pub rows-end : (its : List Rec) → rows_to its (length its) ≡ tally_of permit_all its
unfolding rows_to tally_by tally_of answering
rows-end its = refl

pub rows-room : (its : List Rec) (m : ℕ) → length its ≤ 1024 → m ≤ length its → Roomy (rows_to its m) (actor_tally its (m + 1))
unfolding rows_to actor_tally tally_by
rows-room its m l h = record { done = few 0; no_capability = few 10; inactive = few 11; unfit = few 12 }
  where
    few : (x : ℕ) → summed (answering_of permit_all its x) m + answering_of permit_all its x (m + 1) < 4294967296
    few x = omega (arith, summed-le (answering_of permit_all its x) (length its) m (actor-le permit_all its x), actor-le permit_all its x (m + 1), mul-le m (length its) 1024 1024 (omega arith) l)

-- the lists that are left: all at the start, one less behind each number, none at the end
pub left-all : (f : ℕ → List Step) (n : ℕ) → list_bytes (joined 1 n f) ≡ left f n 0
unfolding left
left-all f n = let e : n - 0 ≡ n = omega arith in rw e refl

pub left-next : (f : ℕ → List Step) (n k : ℕ) → k < n → left f n k ≡ list_bytes (f (k + 1)) ++ left f n (k + 1)
unfolding left joined
left-next f n k l =
    let e : n - k ≡ suc (n - (k + 1)) = omega arith in
    ap (λ d. list_bytes (joined (k + 1) d f)) e ∙ bytes-append (f (k + 1)) _ ∙ ap (λ j. list_bytes (f (k + 1)) ++ list_bytes (joined j (n - (k + 1)) f)) (let z : suc (k + 1) ≡ k + 1 + 1 = omega arith in z)

pub left-none : (f : ℕ → List Step) (n : ℕ) → left f n n ≡ []
unfolding left list_bytes joined
left-none f n = let e : n - n ≡ 0 = omega arith in rw e refl

-- nothing is listed between
left-same : (f : ℕ → List Step) (n k d : ℕ) → k + d ≤ n → ((i : ℕ) → k < i → i ≤ k + d → f i ≡ []) → left f n k ≡ left f n (k + d)
unfolding list_bytes
left-same f n k zero l h = ap (left f n) (omega arith)
left-same f n k (suc d) l h =
    let e : k + 1 + d ≡ k + suc d = omega arith in
    left-next f n k (omega arith) ∙ rw (h (k + 1) (omega arith) (omega arith)) (left-same f n (k + 1) d (omega arith) (λ i a b. h i (omega arith) (omega arith)) ∙ ap (left f n) e)

-- a ready actor's pairs are listed among those who may fit
module _ (its : List Rec) (c : ℕ) (x : Acting) (e : admitted its c ≡ Ok x) {n lo hi : ℕ} (p : Places x n lo hi) where
  pub left-before : left (listed_at its c) n 0 ≡ left (listed_at its c) n lo
  left-before = left-same (listed_at its c) n 0 lo (omega (arith, p.ordered, p.inside)) (λ b a l. listed-unfit its c x e b (p.before _ b (omega arith) (omega arith))) ∙ ap (left (listed_at its c) n) (zero-add lo)

  pub left-behind : left (listed_at its c) n hi ≡ []
  left-behind =
      let q : hi + (n - hi) ≡ n = omega (arith, p.inside) in
      left-same (listed_at its c) n hi (n - hi) (omega arith) (λ b a l. listed-unfit its c x e b (p.behind _ b a (omega arith))) ∙ ap (left (listed_at its c) n) q ∙ left-none (listed_at its c) n

-- what is known of an itinerary that is valid: its records are whole and at most 1,024
pub few-records : (s : List ℕ) → validity s ≡ pass → (length (records s) ≡ count s) × (count s ≤ 1024) × (length s % 8 ≡ 0)
unfolding count
few-records s v = (length-records s, omega (arith, valid-few s v), valid-whole s v)

-- a bool as a number
pub byte-fits : (t : Bool) → (bool_byte t ≡ one_if t) × (bool_byte t ≤ 1)
unfolding one_if
byte-fits true = (refl, omega arith)
byte-fits false = (refl, omega arith)

-- four bytes put one after the other
one-put : (t : List ℕ) (p b e : ℕ) → p + 1 ≤ length t → e ≡ p + 1 → Put t p (b ∷ []) (set t p b) e
one-put t p b e h f = record { end = f; bytes = (put_one t p b h).bytes }

pub four-put : (t : List ℕ) (p w x y z : ℕ) → p + 4 ≤ length t →
    Put t p (w ∷ x ∷ y ∷ z ∷ []) (set (set (set (set t p w) (p + 1) x) (p + 2) y) (p + 3) z) (p + 4)
four-put t p w x y z h =
    let a = one-put t p w (p + 1) (omega arith) refl in
    let b = one-put (set t p w) (p + 1) x (p + 2) (simp length-set (omega arith)) (omega arith) in
    let c = one-put (set (set t p w) (p + 1) x) (p + 2) y (p + 3) (simp length-set (omega arith)) (omega arith) in
    let d = one-put (set (set (set t p w) (p + 1) x) (p + 2) y) (p + 3) z (p + 4) (simp length-set (omega arith)) (omega arith) in
    put_then (put_then (put_then a b (omega arith)) c (omega arith)) d h

-- the moves of one actor, and of all, as what is left at the start
pub actor-left : (s : List ℕ) (c : ℕ) → list_bytes (moves_of permit_all (records s) c) ≡ left (listed_at (records s) c) (count s) 0
unfolding moves_of listed_at
actor-left s c = left-all (listed_at (records s) c) (length (records s)) ∙ ap (λ n. left (listed_at (records s) c) n 0) (length-records s)

pub all-left : (s : List ℕ) → list_bytes (moves permit_all (records s)) ≡ left (moves_of permit_all (records s)) (count s) 0
unfolding moves
all-left s = left-all (moves_of permit_all (records s)) (length (records s)) ∙ ap (λ n. left (moves_of permit_all (records s)) n 0) (length-records s)

-- what is left behind a partner that fits, and one that doesn't
module _ (s : List ℕ) (c : ℕ) (x : Acting) (e : admitted (records s) c ≡ Ok x) (k : ℕ) (l : k < count s) (r : Rec) (f : r ≡ decode s (k + 1)) (m : length s % 8 ≡ 0) where
  here : {t : Bool} → t ≡ fit_by x r (k + 1) → fit_by x (at (records s) (k + 1)) (k + 1) ≡ t
  here g = ap (λ a. fit_by x a (k + 1)) (at-whole s m (k + 1) ∙ sym f) ∙ sym g

  pub left-fits : true ≡ fit_by x r (k + 1) → left (listed_at (records s) c) (count s) k ≡ list_bytes (pair c (k + 1)) ++ left (listed_at (records s) c) (count s) (k + 1)
  left-fits g = left-next (listed_at (records s) c) (count s) k l ∙ ap (λ p. list_bytes p ++ left (listed_at (records s) c) (count s) (k + 1)) (listed-fits (records s) c x e (k + 1) (here g))

  pub left-unfit : false ≡ fit_by x r (k + 1) → left (listed_at (records s) c) (count s) k ≡ left (listed_at (records s) c) (count s) (k + 1)
  unfolding list_bytes
  left-unfit g = left-next (listed_at (records s) c) (count s) k l ∙ ap (λ p. list_bytes p ++ left (listed_at (records s) c) (count s) (k + 1)) (listed-unfit (records s) c x e (k + 1) (here g))
