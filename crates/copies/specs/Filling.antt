-- The copies, put one after the other: what is noted of where they go, and the records with the first of them.
use Rattle.std.specs.Prelude.{◌%◌, ◌+◌, ◌-◌, ◌<◌, ◌≤◌, ◌≢◌, suc, zero, ℕ, eqb, get_or, length, replicate, set, take, Bool, false, true, List, [], ◌++◌, ◌∷◌, ◌≡◌, refl}
use Rattle.std.proofs.Common.{◌∙◌, ap, sym, subst, arith, eq-eqb, le-leb, ne_eqb, get_or-set_same, get_or-set_other, length-take-le, take_all, take-suc}
use Rattle.std.proofs.Math.Decide.{ℕ_discrete}
use Rattle.copies.specs.Listed.{Leading}
use Rattle.model.proofs.Laws.Copying.{Copyable, copyable, beneath-alive, gone-member, gones-distinct, member-beneath}
use Rattle.model.proofs.Laws.Numbers.{Distinct, Member, across-fill, across-more, across-use, member-get, member-split, more, numbers-distinct, numbers-use}
use Rattle.model.proofs.Laws.Bytes.{at-whole, length-encode, records-encode}
use Rattle.model.proofs.Laws.Updates.{at-update, length-update}
use Rattle.model.proofs.Laws.WellFormed.{WellFormed, alive-in}
use Rattle.model.specs.Climbing.{is_beneath}
use Rattle.model.specs.Copies.{active_replication, copy_fits, beneath, copied, copy, copy_here, copy_parent, gones}
use Rattle.model.specs.Finite.{across}
use Rattle.model.specs.Records.{at, decode, encode, parent_of, update, update_from}
use Rattle.records.specs.Written.{record-set, with_record}
use Rattle.model.specs.Steps.{to}
use Rattle.model.specs.declared.Rec.{Rec}

-- the first k of a list, and one more
next-taken : (os : List ℕ) (k : ℕ) → k < length os → take (k + 1) os ≡ take k os ++ (get_or os k 0 ∷ [])
next-taken os k l = let e : k + 1 ≡ suc k = omega arith in ap (λ j. take j os) e ∙ take-suc os k 0 l

-- what comes next stands not among the first
not-taken : (os : List ℕ) → Distinct os → (k : ℕ) → k < length os → Member (get_or os k 0) (take k os) → ⊥
not-taken [] d k l m = absurd (omega arith)
not-taken (o ∷ os) d zero l m = elim m [ ]
not-taken (o ∷ os) (more f d) (suc k) l m = member-split m (λ e. f (subst (λ v. Member v os) e (member-get os k (omega arith)))) (λ n. not-taken os d k (omega arith) n)

-- of no original it is noted where its copy goes, and of one more
none-across : (ys : List ℕ) (q : ℕ) → across [] ys q ≡ 0
unfolding across
none-across ys q = refl

zeros : (n q : ℕ) → ◌≡◌ {A = ℕ} (get_or (replicate n 0) q 0) 0
zeros zero q = refl
zeros (suc n) zero = refl
zeros (suc n) (suc q) = zeros n q

pub leading-none : (xs ys : List ℕ) (n : ℕ) → Leading (take 0 xs) ys (replicate n 0)
leading-none xs ys n q = zeros n q ∙ sym (none-across ys q)

pub leading-next : (xs ys list : List ℕ) (k : ℕ) → Distinct xs → k < length xs → get_or xs k 0 < length list → Leading (take k xs) ys list →
    Leading (take (k + 1) xs) ys (set list (get_or xs k 0) (get_or ys k 0))
leading-next xs ys list k d l h w q = go (ℕ_discrete q (get_or xs k 0))
  where
    many : length (take k xs) ≡ k
    many = length-take-le k xs (omega arith)

    go : Dec (q ≡ get_or xs k 0) → get_or (set list (get_or xs k 0) (get_or ys k 0)) q 0 ≡ across (take (k + 1) xs) ys q
    go (yes e) =
        ap (λ j. get_or (set list (get_or xs k 0) (get_or ys k 0)) j 0) e ∙ get_or-set_same list (get_or xs k 0) (get_or ys k 0) 0 h
        ∙ ap (λ j. get_or ys j 0) (sym many) ∙ sym (across-more (take k xs) ys (get_or xs k 0) (not-taken xs d k l)).0
        ∙ ap (λ x. across x ys (get_or xs k 0)) (sym (next-taken xs k l)) ∙ ap (across (take (k + 1) xs) ys) (sym e)
    go (no n) =
        get_or-set_other list (get_or xs k 0) q (get_or ys k 0) 0 n ∙ w q ∙ sym ((across-more (take k xs) ys (get_or xs k 0) (not-taken xs d k l)).1 q n)
        ∙ ap (λ x. across x ys q) (sym (next-taken xs k l))

-- with c's own parent noted for it the notes give what becomes of a parent
pub leads-set : (its : List Rec) (c : ℕ) (list : List ℕ) (p : ℕ) → Leading (beneath its c) (gones its) list → p ≡ parent_of its c → c < length list →
    (q : ℕ) → get_or (set list c p) q 0 ≡ copy_parent its c q
unfolding copy_parent
leads-set its c list p w e l q = go (ℕ_discrete q c)
  where
    go : Dec (q ≡ c) → get_or (set list c p) q 0 ≡ copy_parent its c q
    go (yes u) = ap (λ j. get_or (set list c p) j 0) u ∙ get_or-set_same list c p 0 l ∙ e ∙ rw (eq-eqb q c u, copy_parent) refl
    go (no n) = get_or-set_other list c q p 0 n ∙ w q ∙ rw (ne_eqb q c n, copy_parent) refl

-- what stands beneath is listed once each, by numbers of records
pub listed-distinct : (its : List Rec) (c : ℕ) → Distinct (beneath its c)
unfolding beneath
listed-distinct its c = numbers-distinct (is_beneath its c) 1 (length its)

pub listed-below : (its : List Rec) (c k : ℕ) → k < length (beneath its c) → get_or (beneath its c) k 0 ≤ length its
unfolding beneath
listed-below its c k l = omega (arith, (numbers-use (is_beneath its c) 1 (length its) (member-get (beneath its c) k l)).1)

-- the records with the copies of the first k originals
unfoldable pub filled_to : List Rec → ℕ → ℕ → List Rec
filled_to its c k = update (λ i r. copy_here its c (across (gones its) (take k (beneath its c)) i) r) its

-- record i where v is put at g
unfoldable pub stored : ℕ → Rec → ℕ → Rec → Rec
stored g v i r = elim (eqb i g) [ true ↦ v | false ↦ r ]

stored-past : (g m : ℕ) (v : Rec) (its : List Rec) → g < m → update_from (stored g v) m its ≡ its
unfolding update_from stored
stored-past g m v [] l = refl
stored-past g m v (r ∷ its) l = rw (ne_eqb m g (λ e. omega arith), stored) (ap (λ x. r ∷ x) (stored-past g (suc m) v its (omega arith)))

stored-set : (n k : ℕ) (v : Rec) (its : List Rec) → update_from (stored (n + k) v) n its ≡ set its k v
unfolding update_from stored
stored-set n k v [] = refl
stored-set n zero v (r ∷ its) = rw (eq-eqb n (n + 0) (omega arith), stored) (ap (λ x. v ∷ x) (stored-past (n + 0) (suc n) v its (omega arith)))
stored-set n (suc k) v (r ∷ its) =
    let e : n + suc k ≡ suc n + k = omega arith in
    rw (ne_eqb n (n + suc k) (λ e. omega arith), stored) (ap (λ x. r ∷ x) (ap (λ g. update_from (stored g v) (suc n) its) e ∙ stored-set (suc n) k v its))

update-same : (f g : ℕ → Rec → Rec) (its : List Rec) → ((i : ℕ) (r : Rec) → f i r ≡ g i r) → update f its ≡ update g its
update-same f g its h = ap (λ (x : ℕ → Rec → Rec). update x its) (λ j i r. h i r j)

update-twice : (f g : ℕ → Rec → Rec) (n : ℕ) (its : List Rec) → update_from g n (update_from f n its) ≡ update_from (λ i r. g i (f i r)) n its
unfolding update_from
update-twice f g n [] = refl
update-twice f g n (r ∷ rs) = ap (λ l. g n (f n r) ∷ l) (update-twice f g (suc n) rs)

update-none : (f : ℕ → Rec → Rec) (n : ℕ) (its : List Rec) → ((i : ℕ) (r : Rec) → f i r ≡ r) → update_from f n its ≡ its
unfolding update_from
update-none f n [] h = refl
update-none f n (r ∷ its) h = ap (λ x. x ∷ update_from f (suc n) its) (h n r) ∙ ap (λ l. r ∷ l) (update-none f (suc n) its h)

pub can-copy : (its : List Rec) (c : ℕ) → active_replication its c ≡ true → length (beneath its c) ≤ length (gones its) → Copyable its c
unfolding copy_fits
can-copy its c a l = copyable its c a (le-leb _ _ l)

module _ {its : List Rec} (wf : WellFormed its) (c : ℕ) (can : Copyable its c) where
  pub filled-none : its ≡ filled_to its c 0
  unfolding filled_to copy_here across
  filled-none = sym (update-none _ 1 its (λ i r. ap (λ o. copy_here its c o r) (nothing (gones its) i)))
    where
      nothing : (gs : List ℕ) (j : ℕ) → across gs [] j ≡ 0
      nothing [] j = refl
      nothing (g ∷ gs) j = refl

  pub filled-all : (k : ℕ) → length (beneath its c) ≤ k → filled_to its c k ≡ copy c its
  unfolding filled_to copy copied
  filled-all k l = ap (λ os. update (λ i r. copy_here its c (across (gones its) os i) r) its) (take_all k (beneath its c) l)

  pub filled-length : (k : ℕ) → length (filled_to its c k) ≡ length its
  unfolding filled_to
  filled-length k = length-update _ its

  here-copied : (o : ℕ) (r : Rec) → o ≢ 0 → copy_here its c o r ≡ to (copy_parent its c (parent_of its o)) (at its o)
  unfolding copy_here
  here-copied zero r h = absurd (h refl)
  here-copied (suc o) r h = refl

  module _ (k : ℕ) (l : k < length (beneath its c)) where
    original : ℕ
    original = get_or (beneath its c) k 0

    place : ℕ
    place = get_or (gones its) k 0

    there-original : Member original (beneath its c)
    unfolding original
    there-original = member-get (beneath its c) k l

    there-place : Member place (gones its)
    unfolding place
    there-place = member-get (gones its) k (omega (arith, can.room))

    pub original-alive : (at its (get_or (beneath its c) k 0)).kind ≢ 0
    unfolding original
    original-alive = beneath-alive wf c can there-original

    -- an original stands within, and a place too
    pub original-in : (get_or (beneath its c) k 0 ≢ 0) × (get_or (beneath its c) k 0 ≤ length its)
    unfolding original
    original-in = ((member-beneath wf c can there-original).0, alive-in its original original-alive)

    pub place-in : (get_or (gones its) k 0 ≢ 0) × (get_or (gones its) k 0 ≤ length its)
    unfolding place
    place-in = let w = gone-member wf c can there-place in (w.1, w.2)

    -- an original stands as before
    pub original-stands : at (filled_to its c k) (get_or (beneath its c) k 0) ≡ at its (get_or (beneath its c) k 0)
    unfolding filled_to copy_here original
    original-stands = at-update _ its original original-in.0 original-in.1 ∙ ap (λ (x : ℕ). copy_here its c x (at its original)) (none (ℕ_discrete (across (gones its) (take k (beneath its c)) original) 0))
      where
        none : Dec (across (gones its) (take k (beneath its c)) original ≡ 0) → across (gones its) (take k (beneath its c)) original ≡ 0
        none (yes e) = e
        none (no n) = absurd (original-alive (gone-member wf c can (across-use (gones its) (take k (beneath its c)) original n).0).0)

    -- one copy more
    copied-one : Rec
    copied-one = to (copy_parent its c (parent_of its original)) (at its original)

    pub filled-next : set (filled_to its c k) (get_or (gones its) k 0 - 1) (to (copy_parent its c (parent_of its (get_or (beneath its c) k 0))) (at its (get_or (beneath its c) k 0))) ≡ filled_to its c (k + 1)
    unfolding filled_to original place copied-one stored
    filled-next =
        let e : 1 + (place - 1) ≡ place = omega (arith, place-in.0) in
        sym (stored-set 1 (place - 1) copied-one (filled_to its c k)) ∙ ap (λ x. update (stored x copied-one) (filled_to its c k)) e
        ∙ update-twice _ (stored place copied-one) 1 its ∙ update-same _ _ its each
      where
        many : length (take k (beneath its c)) ≡ k
        many = length-take-le k (beneath its c) (omega arith)

        filling : (across (gones its) (take k (beneath its c) ++ (original ∷ [])) (get_or (gones its) (length (take k (beneath its c))) 0) ≡ original)
            × ((j : ℕ) → j ≢ get_or (gones its) (length (take k (beneath its c))) 0 → across (gones its) (take k (beneath its c) ++ (original ∷ [])) j ≡ across (gones its) (take k (beneath its c)) j)
        filling = across-fill (gones its) (take k (beneath its c)) original (gones-distinct its) (omega (arith, many, can.room))

        seam : get_or (gones its) (length (take k (beneath its c))) 0 ≡ place
        seam = ap (λ j. get_or (gones its) j 0) many

        grown : take (k + 1) (beneath its c) ≡ take k (beneath its c) ++ (original ∷ [])
        grown = next-taken (beneath its c) k l

        each : (i : ℕ) (r : Rec) → stored place copied-one i (copy_here its c (across (gones its) (take k (beneath its c)) i) r) ≡ copy_here its c (across (gones its) (take (k + 1) (beneath its c)) i) r
        each i r = go (ℕ_discrete i place)
          where
            go : Dec (i ≡ place) → stored place copied-one i (copy_here its c (across (gones its) (take k (beneath its c)) i) r) ≡ copy_here its c (across (gones its) (take (k + 1) (beneath its c)) i) r
            go (yes e) =
                ap (λ (b : Bool). elim b [ true ↦ copied-one | false ↦ copy_here its c (across (gones its) (take k (beneath its c)) i) r ]) (eq-eqb i place e)
                ∙ sym (here-copied original r original-in.0)
                ∙ ap (λ (x : ℕ). copy_here its c x r) (sym (ap (λ os. across (gones its) os i) grown ∙ ap (across (gones its) (take k (beneath its c) ++ (original ∷ []))) (e ∙ sym seam) ∙ filling.0))
            go (no n) =
                ap (λ (b : Bool). elim b [ true ↦ copied-one | false ↦ copy_here its c (across (gones its) (take k (beneath its c)) i) r ]) (ne_eqb i place n)
                ∙ ap (λ (x : ℕ). copy_here its c x r) (sym (ap (λ os. across (gones its) os i) grown ∙ filling.1 i (λ e. n (e ∙ seam))))

    -- the same on bytes
    module _ (t : List ℕ) (e : t ≡ encode (filled_to its c k)) where
      pub original-read : decode t (get_or (beneath its c) k 0) ≡ at its (get_or (beneath its c) k 0)
      original-read =
          let whole : length (encode (filled_to its c k)) % 8 ≡ 0 = omega (arith, length-encode (filled_to its c k)) in
          ap (λ x. decode x (get_or (beneath its c) k 0)) e ∙ sym (at-whole (encode (filled_to its c k)) whole (get_or (beneath its c) k 0))
          ∙ ap (λ x. at x (get_or (beneath its c) k 0)) (records-encode (filled_to its c k)) ∙ original-stands

      pub copy-put : (p : ℕ) (r : Rec) → p ≡ get_or (gones its) k 0 → r ≡ to (copy_parent its c (parent_of its (get_or (beneath its c) k 0))) (at its (get_or (beneath its c) k 0)) →
          with_record t p r ≡ encode (filled_to its c (k + 1))
      copy-put p r f h =
          let q : get_or (gones its) k 0 ≡ get_or (gones its) k 0 - 1 + 1 = omega (arith, place-in.0) in
          ap (λ x. with_record x p r) e ∙ ap (λ x. with_record (encode (filled_to its c k)) x r) (f ∙ q) ∙ ap (with_record (encode (filled_to its c k)) (get_or (gones its) k 0 - 1 + 1)) h
          ∙ record-set (filled_to its c k) (get_or (gones its) k 0 - 1) _ (omega (arith, filled-length k, place-in.0, place-in.1)) ∙ ap encode filled-next
