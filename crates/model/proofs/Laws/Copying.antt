-- A copy keeps an itinerary well-formed and a table holding. Each record of the copy stands for one of before, its origin: a filled
-- record for the one that was copied into it, every other for itself. It says what its origin said, but for its parent, and its
-- parent stands for its origin's parent, or, past the replication c, for c's. So what climbing finds from it is what it found from its
-- origin, where it finds nothing at c itself.
use Rattle.std.specs.Prelude.{◌≤◌, suc, zero, ℕ, length, Bool, false, true, List, ◌≢◌, ◌≡◌, refl}
use Rattle.std.proofs.Common.{eq-eqb, eqb-true, leb-true, ne_eqb, true≢false, ◌∙◌, ap, sym, arith}
use Rattle.std.proofs.Math.Decide.{ℕ_discrete}
use Rattle.model.specs.Analysis.{Permit}
use Rattle.model.specs.Calls.{copy_after, copying}
use Rattle.model.specs.Climbing.{View, ambients, below, container, hidden, hiding, is_beneath, nesting, view}
use Rattle.model.specs.Copies.{active_replication, beneath, copied, copy, copy_fits, copy_here, copy_parent, gones}
use Rattle.model.specs.Finite.{across}
use Rattle.model.specs.Records.{at, count, encode, gone, is_ambient, is_replication, parent_of, records, update}
use Rattle.model.specs.Refusals.{Check, content, pass, refuse}
use Rattle.model.specs.Steps.{to}
use Rattle.model.specs.Tables.{Table}
use Rattle.model.specs.Validity.{validity}
use Rattle.model.specs.declared.Rec.{Rec}
use Rattle.model.proofs.Laws.Booleans.{and_left}
use Rattle.model.proofs.Laws.Bytes.{length-records, records-encode, size-le, valid-passed, valid-wf, wf-valid}
use Rattle.model.proofs.Laws.Checks.{passes}
use Rattle.model.proofs.Laws.Containers.{hides-same, hidden-up, labelled-same, nearest-up, suspect-not-amb}
use Rattle.model.proofs.Laws.Forest.{Follows, depth-along, follows, past}
use Rattle.model.proofs.Laws.Holding.{Holds, fits-as}
use Rattle.model.proofs.Laws.Numbers.{Distinct, Member, across-back, across-use, numbers-distinct, numbers-make, numbers-use}
use Rattle.model.proofs.Laws.Updates.{at-root, at-update, at-update-all, length-update}
use Rattle.model.proofs.Laws.Views.{fold-come, view_laws, view-on, view-top}
use Rattle.model.proofs.Laws.WellFormed.{Alive, SameBut, WellFormed, alive-in, alive-pos, same_of, same_shape, same-to}

-- what a copy by c asks for: c is a replication, and the gone records are enough
pub record Copyable (its : List Rec) (c : ℕ) : Type 0 where
  pub pos : c ≢ 0
  pub other : is_ambient (at its c) ≡ false
  pub room : length (beneath its c) ≤ length (gones its)

pub copyable : (its : List Rec) (c : ℕ) → active_replication its c ≡ true → copy_fits its c ≡ true → Copyable its c
unfolding active_replication copy_fits is_replication is_ambient
copyable its c a f =
    let k : (at its c).kind ≡ 5 = eqb-true (at its c).kind 5 (and_left _ (ambients its (parent_of its c)) a) in
    record { pos = alive-pos its c (λ z. omega (arith, k)); other = rw k; room = leb-true _ _ f }

-- where a record's parent is c, and where it isn't
below-child : (c i : ℕ) (r : Rec) (x : Bool) → r.parent ≡ c → (below c).make i r x ≡ true
below-child c i r x e = rw (eq-eqb r.parent c e, below)

below-other : (c i : ℕ) (r : Rec) (x : Bool) → r.parent ≢ c → (below c).make i r x ≡ x
below-other c i r x e = rw (ne_eqb r.parent c e, below)

module _ {its : List Rec} (wf : WellFormed its) (c : ℕ) where
  pub beneath-root : is_beneath its c 0 ≡ false
  beneath-root = view-top (below c) wf

  pub beneath-child : (i : ℕ) → i ≢ 0 → parent_of its i ≡ c → is_beneath its c i ≡ true
  beneath-child i z e = view-on (below c) wf i z ∙ below-child c i (at its i) _ e

  pub beneath-up : (i : ℕ) → i ≢ 0 → parent_of its i ≢ c → is_beneath its c i ≡ is_beneath its c (parent_of its i)
  beneath-up i z e = view-on (below c) wf i z ∙ below-other c i (at its i) _ e

pub gones-distinct : (its : List Rec) → Distinct (gones its)
unfolding gones
gones-distinct its = numbers-distinct _ 1 (length its)

-- a number, or another where it is 0
unfoldable pub or_else : ℕ → ℕ → ℕ
or_else zero i = i
or_else (suc o) i = suc o

or_else-zero : (o i : ℕ) → o ≡ 0 → or_else o i ≡ i
unfolding or_else
or_else-zero o i e = rw e

or_else-pos : (o i : ℕ) → o ≢ 0 → or_else o i ≡ o
unfolding or_else
or_else-pos zero i h = absurd (h refl)
or_else-pos (suc o) i h = refl

-- the record that i stands for after the copy
unfoldable pub origin : List Rec → ℕ → ℕ → ℕ
origin its c i = or_else (across (gones its) (beneath its c) i) i

module _ (its : List Rec) (c i : ℕ) where
  pub origin-itself : across (gones its) (beneath its c) i ≡ 0 → origin its c i ≡ i
  unfolding origin
  origin-itself e = or_else-zero _ i e

  pub origin-filled : across (gones its) (beneath its c) i ≢ 0 → origin its c i ≡ across (gones its) (beneath its c) i
  unfolding origin
  origin-filled n = or_else-pos _ i n

-- what becomes of record i
pub data Copied (its : List Rec) (c i : ℕ) : Type 0 where
  remains : across (gones its) (beneath its c) i ≡ 0 → origin its c i ≡ i → at (copy c its) i ≡ at its i → Copied its c i
  filled : across (gones its) (beneath its c) i ≢ 0 → (at its i).kind ≡ 0 → Member (origin its c i) (beneath its c) →
      at (copy c its) i ≡ to (copy_parent its c (parent_of its (origin its c i))) (at its (origin its c i)) → Copied its c i

pub copy-length : (its : List Rec) (c : ℕ) → length (copy c its) ≡ length its
unfolding copy
copy-length its c = length-update _ its

module _ {its : List Rec} (wf : WellFormed its) (c : ℕ) (can : Copyable its c) where
  pub member-beneath : {o : ℕ} → Member o (beneath its c) → (o ≢ 0) × (is_beneath its c o ≡ true)
  unfolding beneath
  member-beneath m = let w = numbers-use (is_beneath its c) 1 (length its) m in ((λ e. omega (arith, w.0)), w.2)

  pub beneath-member : (o : ℕ) → Alive its o → is_beneath its c o ≡ true → Member o (beneath its c)
  unfolding beneath
  beneath-member o live e = numbers-make (is_beneath its c) 1 (length its) o (omega (arith, alive-pos its o live)) (omega (arith, alive-in its o live)) e

  -- what is beneath c has a parent, c or one that is beneath it too
  parent-pos : {o : ℕ} → Member o (beneath its c) → parent_of its o ≢ 0
  parent-pos {o} m e =
      let w = member-beneath m in
      let n : parent_of its o ≢ c = λ q. can.pos (sym q ∙ e) in
      true≢false (sym w.1 ∙ beneath-up wf c o w.0 n ∙ ap (is_beneath its c) e ∙ beneath-root wf c)

  pub beneath-alive : {o : ℕ} → Member o (beneath its c) → Alive its o
  beneath-alive {o} m k = parent-pos m (ap (λ r. r.parent) (wf.gones o k))

  pub parent-beneath : {o : ℕ} → Member o (beneath its c) → parent_of its o ≢ c → Member (parent_of its o) (beneath its c)
  parent-beneath {o} m n =
      let w = member-beneath m in
      beneath-member (parent_of its o) (wf.parents o (parent-pos m)) (sym (beneath-up wf c o w.0 n) ∙ w.1)

  pub gone-member : {i : ℕ} → Member i (gones its) → ((at its i).kind ≡ 0) × (i ≢ 0) × (i ≤ length its)
  unfolding gones
  gone-member {i} m = let w = numbers-use _ 1 (length its) m in (eqb-true (at its i).kind 0 w.2, (λ e. omega (arith, w.0)), omega (arith, w.1))

  filled-from : (i : ℕ) → across (gones its) (beneath its c) i ≢ 0 → Member i (gones its) × Member (across (gones its) (beneath its c) i) (beneath its c)
  filled-from i h = across-use (gones its) (beneath its c) i h

  here-zero : (o : ℕ) (r : Rec) → o ≡ 0 → copy_here its c o r ≡ r
  unfolding copy_here
  here-zero o r e = rw e

  here-pos : (o : ℕ) (r : Rec) → o ≢ 0 → copy_here its c o r ≡ to (copy_parent its c (parent_of its o)) (at its o)
  unfolding copy_here
  here-pos zero r h = absurd (h refl)
  here-pos (suc o) r h = refl

  pub copied-at : (i : ℕ) → Copied its c i
  unfolding copy copied
  copied-at i = go (ℕ_discrete (across (gones its) (beneath its c) i) 0)
    where
      keep : across (gones its) (beneath its c) i ≡ 0 → Dec (i ≡ 0) → at (update (copied its c) its) i ≡ at its i
      keep e (yes u) = rw u (at-root _ ∙ sym (at-root its))
      keep e (no u) = at-update-all (copied its c) its i u (here-zero _ gone e) ∙ here-zero _ _ e

      go : Dec (across (gones its) (beneath its c) i ≡ 0) → Copied its c i
      go (yes e) = remains e (origin-itself its c i e) (keep e (ℕ_discrete i 0))
      go (no n) =
          let w = filled-from i n in
          let g = gone-member w.0 in
          filled n g.0 (rw (origin-filled its c i n) w.1) (at-update (copied its c) its i g.1 g.2 ∙ here-pos _ _ n ∙ rw (origin-filled its c i n))

  -- a record that is not gone stands for itself
  pub origin-old : (q : ℕ) → (q ≢ 0 → Alive its q) → origin its c q ≡ q
  origin-old q h = go (ℕ_discrete (across (gones its) (beneath its c) q) 0)
    where
      go : Dec (across (gones its) (beneath its c) q ≡ 0) → origin its c q ≡ q
      go (yes e) = origin-itself its c q e
      go (no e) = let g = gone-member (filled-from q e).0 in absurd (h g.1 g.0)

  -- the copy of q stands for q
  pub origin-copy : (q : ℕ) → Member q (beneath its c) → origin its c (across (beneath its c) (gones its) q) ≡ q
  origin-copy q m =
      let w = across-back (beneath its c) (gones its) (gones-distinct its) can.room q m in
      origin-filled its c _ (rw w.1 (alive-pos its q (beneath-alive m))) ∙ w.1

  pub origin-root : origin its c 0 ≡ 0
  origin-root = origin-old 0 (λ h. absurd (h refl))

  pub origin-pos : (i : ℕ) → i ≢ 0 → origin its c i ≢ 0
  origin-pos i h = go (copied-at i)
    where
      go : Copied its c i → origin its c i ≢ 0
      go (remains _ e q) = rw e h
      go (filled _ k m q) = alive-pos its _ (beneath-alive m)

  pub copy-same : (i : ℕ) → SameBut (at its (origin its c i)) (at (copy c its) i)
  copy-same i = go (copied-at i)
    where
      go : Copied its c i → SameBut (at its (origin its c i)) (at (copy c its) i)
      go (remains _ e q) = rw e (same_of q)
      go (filled _ k m q) = same-to _ q

  pub copy_parent-child : (q : ℕ) → q ≡ c → copy_parent its c q ≡ parent_of its c
  unfolding copy_parent
  copy_parent-child q e = rw (eq-eqb q c e, copy_parent)

  pub copy_parent-other : (q : ℕ) → q ≢ c → copy_parent its c q ≡ across (beneath its c) (gones its) q
  unfolding copy_parent
  copy_parent-other q e = rw (ne_eqb q c e, copy_parent)

  -- parents follow the copies, but past c
  abbrev pub Follow : ℕ → Type 0
  Follow i = Follows (parent_of its) (parent_of (copy c its)) (origin its c) c i

  pub follow : (i : ℕ) → Follow i
  follow i = go (copied-at i)
    where
      new : Member (origin its c i) (beneath its c) → parent_of (copy c its) i ≡ copy_parent its c (parent_of its (origin its c i)) → Dec (parent_of its (origin its c i) ≡ c) → Follow i
      new m q (yes e) = past e (ap (origin its c) (q ∙ copy_parent-child _ e) ∙ origin-old (parent_of its c) (wf.parents c))
      new m q (no e) = follows (ap (origin its c) (q ∙ copy_parent-other _ e) ∙ origin-copy _ (parent-beneath m e))

      go : Copied its c i → Follow i
      go (remains _ e q) = follows (ap (origin its c) (ap (λ r. r.parent) q) ∙ origin-old (parent_of its i) (wf.parents i) ∙ ap (parent_of its) (sym e))
      go (filled _ k m q) = new m (ap (λ r. r.parent) q) (ℕ_discrete _ c)

  copy-alive : (i : ℕ) → Alive its (origin its c i) → Alive (copy c its) i
  copy-alive i h = rw (copy-same i).kind h

  copy-parents : (i : ℕ) → parent_of (copy c its) i ≢ 0 → Alive (copy c its) (parent_of (copy c its) i)
  copy-parents i n = copy-alive _ (go (follow i))
    where
      m : origin its c (parent_of (copy c its) i) ≢ 0
      m = origin-pos _ n

      go : Follow i → Alive its (origin its c (parent_of (copy c its) i))
      go (follows e) = rw e (wf.parents _ (rw e at m))
      go (past u e) = rw e (wf.parents c (rw e at m))

  copy-gones : (i : ℕ) → (at (copy c its) i).kind ≡ 0 → at (copy c its) i ≡ gone
  copy-gones i k = go (copied-at i)
    where
      go : Copied its c i → at (copy c its) i ≡ gone
      go (remains _ e q) = q ∙ wf.gones i (sym (ap (λ r. r.kind) q) ∙ k)
      go (filled _ _ m q) = absurd (beneath-alive m (sym (ap (λ r. r.kind) q) ∙ k))

  pub copy-wf : WellFormed (copy c its)
  copy-wf = record {
    parents = copy-parents;
    gones = copy-gones;
    shaped = λ i. same_shape (copy-same i) ∙ wf.shaped (origin its c i);
    reach = λ i. let w = wf.reach (origin its c i) in depth-along can.pos origin-pos (λ j. Unit {0}) (λ j _. tt) (λ j _. follow j) w.0 (omega arith) tt w.1;
  }

  -- a view that reads no number and no parent, and finds nothing at c
  module _ {A : Type 0} (v : View A) (same : (i j : ℕ) (r r' : Rec) (x : A) → SameBut r r' → v.make j r' x ≡ v.make i r x) (cross : view v its c ≡ view v its (parent_of its c)) where
    copy-above : (i : ℕ) → view v its (parent_of its (origin its c i)) ≡ view v its (origin its c (parent_of (copy c its) i))
    copy-above i = go (follow i)
      where
        go : Follow i → view v its (parent_of its (origin its c i)) ≡ view v its (origin its c (parent_of (copy c its) i))
        go (follows e) = ap (view v its) (sym e)
        go (past u e) = ap (view v its) u ∙ cross ∙ ap (view v its) (sym e)

    pub copy-view : (i : ℕ) → view v its (origin its c i) ≡ view v (copy c its) i
    copy-view i = fold-come ◌≡◌ (origin its c) origin-root refl (view_laws v wf) (view_laws v copy-wf) (λ j. Unit {0}) (λ j _ _. tt)
        (λ j _ z ih. view-on v wf (origin its c j) (origin-pos j z) ∙ ap (v.make (origin its c j) (at its (origin its c j))) (copy-above j ∙ ih) ∙ sym (same (origin its c j) j _ _ _ (copy-same j))) tt (copy-wf.reach i).1

    -- the same of what stands above
    pub copy-over : (i : ℕ) → view v its (parent_of its (origin its c i)) ≡ view v (copy c its) (parent_of (copy c its) i)
    copy-over i = copy-above i ∙ copy-view (parent_of (copy c its) i)

  pub copy-container : (i : ℕ) → container (copy c its) i ≡ container its (origin its c i)
  copy-container i = sym (copy-over nesting (λ i j r r' x s. labelled-same s x) (nearest-up wf c can.pos can.other) i)

  pub copy-hidden : (S : ℕ → Bool) (i : ℕ) → hidden (copy c its) S i ≡ hidden its S (origin its c i)
  copy-hidden S i = sym (copy-view (hiding S) (λ i j r r' x s. hides-same s S x) (hidden-up wf S c can.pos (suspect-not-amb _ S can.other)) i)

  pub copy-holds : {permit : Permit} {policy : List ℕ} {T : Table} → Holds permit policy its T → Holds permit policy (copy c its) T
  copy-holds h = record { fits = λ i. fits-as (copy-same i) (copy-container i) (h.fits (origin its c i)); high = h.high }

-- on bytes: a copy is refused and changes nothing, or its bytes are those of the records copied
pub data CopyBytes (s : List ℕ) (c : ℕ) : Type 0 where
  left : copy_after s c ≡ s → CopyBytes s c
  made : Copyable (records s) c → copy_after s c ≡ encode (copy c (records s)) → CopyBytes s c

pub copying-passes : (s : List ℕ) (c : ℕ) → copying s c ≡ pass → (validity s ≡ pass) × Copyable (records s) c
unfolding copying
copying-passes s c h = (search passes, copyable (records s) c (search passes) (search passes))

pub copy-bytes : (s : List ℕ) (c : ℕ) → CopyBytes s c
unfolding copy_after content
copy-bytes s c = go (copying s c) refl
  where
    go : (k : Check) → copying s c ≡ k → CopyBytes s c
    go pass e = made (copying-passes s c e).1 (rw (e, content))
    go (refuse n r) e = left (rw (e, content))

pub copy-valid : (s : List ℕ) (c : ℕ) → validity s ≡ pass → validity (copy_after s c) ≡ pass
unfolding count
copy-valid s c v = go (copy-bytes s c)
  where
    go : CopyBytes s c → validity (copy_after s c) ≡ pass
    go (left e) = rw e v
    go (made can e) = rw e (wf-valid (copy-wf (valid-wf s v) c can) (omega (arith, copy-length (records s) c, length-records s, size-le s (valid-passed s v).size)))

pub copy-holding : {permit : Permit} {policy : List ℕ} {T : Table} (s : List ℕ) (c : ℕ) → validity s ≡ pass → Holds permit policy (records s) T → Holds permit policy (records (copy_after s c)) T
copy-holding {permit} {policy} {T} s c v h = go (copy-bytes s c)
  where
    go : CopyBytes s c → Holds permit policy (records (copy_after s c)) T
    go (left e) = rw e h
    go (made can e) = rw (e, records-encode (copy c (records s))) (copy-holds (valid-wf s v) c can h)
