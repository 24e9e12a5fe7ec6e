-- What hubjoin writes passes as an itinerary only where all four files can be read and their members are valid and few enough, and
-- is then their join; whatever goes wrong, every call on an itinerary refuses it with 1. Then the laws of the functions that fill
-- the bytes.
use Rattle.std.specs.Prelude.{◌*◌, ◌<◌, ◌≤◌, ◌≡◌, true, ℕ, drop, take, leb, length, List, ◌++◌, ◌∷◌, [], Option, None, Some, option_map, map, refl}
use Rattle.std.proofs.Common.{Bor, ◌∙◌, ap, arith, eq-eqb, le-leb, leb-true, length-append, length-take-le, sym}
use Rattle.std.proofs.lemmas.Bool.{lt-leb}
use Rattle.joins.specs.Joined.{join-valid}
use Rattle.joins.specs.Sequence.{members-valid}
use Rattle.model.specs.Joins.{four, join, join_bytes, members_check, set_right}
use Rattle.model.specs.Records.{records}
use Rattle.model.specs.Refusals.{Check, pass, refuse}
use Rattle.model.specs.Requests.{Valid}
use Rattle.model.specs.Validity.{validity}
use Rattle.model.proofs.Laws.Booleans.{and-make}
use Rattle.model.proofs.Laws.Bytes.{length-encode}
use Rattle.model.proofs.Laws.Checks.{need-make, need-pass, need-refuse, then-make, then-pass, then-refuse, then_next}
use Rattle.text_form.specs.Laws.Converted.{FilledWith, none-refused}
use Rattle.text_form.specs.Reading.{no_itinerary}
use Rattle.text_form.specs.Writing.{text_or}
use Rattle.text_put.specs.Laws.{put-over}
use Rattle.text_put.specs.Puts.{Put, over}
use Rattle.hubjoin.specs.Joined.{joined_file, joined_set, set_check}

-- a file that can't be read
pub unread-first : (b c d : Option (List ℕ)) → joined_file None b c d ≡ no_itinerary
unfolding joined_file
unread-first b c d = refl

pub unread-second : (a c d : Option (List ℕ)) → joined_file a None c d ≡ no_itinerary
unfolding joined_file
unread-second None c d = refl
unread-second (Some a) c d = refl

pub unread-third : (a b d : Option (List ℕ)) → joined_file a b None d ≡ no_itinerary
unfolding joined_file
unread-third None b d = refl
unread-third (Some a) None d = refl
unread-third (Some a) (Some b) d = refl

pub unread-fourth : (a b c : Option (List ℕ)) → joined_file a b c None ≡ no_itinerary
unfolding joined_file
unread-fourth None b c = refl
unread-fourth (Some a) None c = refl
unread-fourth (Some a) (Some b) None = refl
unread-fourth (Some a) (Some b) (Some c) = refl

-- all of them read
pub all-read : {f g h k : Option (Bor (List ℕ))} {a b c d : Bor (List ℕ)} → f ≡ Some a → g ≡ Some b → h ≡ Some c → k ≡ Some d →
    joined_file (option_map (λ s. s.now) f) (option_map (λ s. s.now) g) (option_map (λ s. s.now) h) (option_map (λ s. s.now) k) ≡ joined_set (four a.now b.now c.now d.now)
unfolding joined_file
all-read p q r t = rw (p, q, r, t)

-- by what the checks say of the members
module _ (members : List (List ℕ)) where
  by-check : {c : Check} → set_check members ≡ c → joined_set members ≡ text_or no_itinerary c (join_bytes members)
  unfolding joined_set
  by-check e = ap (λ c. text_or no_itinerary c (join_bytes members)) e

  set-fails : {n i : ℕ} → set_check members ≡ refuse n i → joined_set members ≡ no_itinerary
  unfolding text_or
  set-fails e = by-check e

  pub set-refused : {n i : ℕ} → members_check members ≡ refuse n i → joined_set members ≡ no_itinerary
  unfolding set_check
  set-refused e = set-fails (then-refuse _ e)

  module _ (v : members_check members ≡ pass) where
    pub set-many : 1024 < length (join members) → joined_set members ≡ no_itinerary
    unfolding set_check
    set-many l = set-fails (then_next _ v ∙ need-refuse 16 0 (lt-leb _ _ l))

    pub set-good : length (join members) ≤ 1024 → joined_set members ≡ join_bytes members
    unfolding set_check text_or
    set-good l = by-check (then-make v (need-make 16 0 (le-leb _ _ l)))

none-passes : {C : Type 0} {w : List ℕ} → w ≡ no_itinerary → validity w ≡ pass → C
none-passes e v = let u : refuse 1 0 ≡ pass = sym none-refused ∙ ap validity (sym e) ∙ v in let x : ◌≡◌ {A = ℕ} 0 1 = cc in absurd (omega arith)

-- what was joined: all files can be read, the members are valid and few enough, and w is their join
pub record GoodJoin (f g h k : Option (List ℕ)) (w : List ℕ) : Type 0 where
  pub members : List (List ℕ)
  pub read : f ∷ g ∷ h ∷ k ∷ [] ≡ map Some members
  pub valid : Valid members
  pub few : length (join members) ≤ 1024
  pub bytes : w ≡ join_bytes members

good : {f g h k : Option (List ℕ)} (members : List (List ℕ)) → f ∷ g ∷ h ∷ k ∷ [] ≡ map Some members → set_check members ≡ pass → GoodJoin f g h k (joined_set members)
unfolding set_check joined_set
good members r e =
    let w = then-pass (members_check members) _ e in
    let l = leb-true _ _ (need-pass (leb (length (join members)) 1024) 16 0 w.1) in
    record { members = members; read = r; valid = members-valid members w.0; few = l; bytes = set-good members w.0 l }

-- it is an itinerary, of the joined records
pub joined-passes : {f g h k : Option (List ℕ)} {w : List ℕ} (j : GoodJoin f g h k w) → (validity w ≡ pass) × (records w ≡ join j.members)
joined-passes j = rw j.bytes (join-valid j.members j.valid j.few)

-- and nothing else that is written is one
pub passes-joined : (f g h k : Option (List ℕ)) → validity (joined_file f g h k) ≡ pass → GoodJoin f g h k (joined_file f g h k)
unfolding joined_file
passes-joined None g h k v = none-passes (unread-first g h k) v
passes-joined (Some a) None h k v = none-passes (unread-second (Some a) h k) v
passes-joined (Some a) (Some b) None k v = none-passes (unread-third (Some a) (Some b) k) v
passes-joined (Some a) (Some b) (Some c) None v = none-passes (unread-fourth (Some a) (Some b) (Some c)) v
passes-joined (Some a) (Some b) (Some c) (Some d) v = go (set_check (four a b c d)) refl
  where
    go : (x : Check) → set_check (four a b c d) ≡ x → GoodJoin (Some a) (Some b) (Some c) (Some d) (joined_set (four a b c d))
    go pass e = good (four a b c d) refl e
    go (refuse n i) e = none-passes (set-fails (four a b c d) e) v

-- what is filled into 8,192 bytes
module _ {w it it' : List ℕ} {r : ℕ} where
  pub filled-none : w ≡ no_itinerary → length it ≡ 8192 → length it' ≡ length it → Put it 0 (0 ∷ []) it' r → FilledWith w it it' r
  unfolding no_itinerary
  filled-none e long kept h = let x = put-over h in rw e (x.0, x.1, omega (arith, x.0))

module _ (members : List (List ℕ)) (it : List ℕ) (long : length it ≡ 8192) {n : ℕ} (e : n ≡ length (join members)) (l : n ≤ 1024) where
  -- the part that is lent has the joined length
  pub set_fits : set_right members (take (8 * n) it) ≡ true
  unfolding set_right
  set_fits =
      let k : length (take (8 * n) it) ≡ 8 * length (join members) = length-take-le (8 * n) it (omega (arith, long)) ∙ ap (λ x. 8 * x) e in
      and-make (le-leb _ _ (omega (arith, e))) (eq-eqb _ _ k)

  pub filled-set : members_check members ≡ pass → {u : List ℕ} → u ≡ join_bytes members → FilledWith (joined_set members) it (u ++ drop (8 * n) it) (8 * n)
  unfolding join_bytes over
  filled-set v {u} f =
      let k : 8 * n ≡ length (join_bytes members) = ap (λ x. 8 * x) e ∙ sym (length-encode (join members)) in
      rw (set-good members v (omega (arith, e)))
      (k, rw (f, k), omega (arith, k, length-append u (drop (8 * n) it), ap length f))
