-- A copy unfolds a replication once. Where records its are read as P, the records after a copy by c are read as `unfolded c` of
-- that reading: what stays is read as before (`keep`), and what is read beneath c is read once more from the copies, from c's
-- parent on (`copy-read`). Record j is then read as often as before, and as often as the record that was copied into it was read
-- under c (`unfold-read`). What is beneath c is read under c only (`under-times`), so each record that is not gone is read once.
use Rattle.std.specs.Prelude.{◌+◌, ◌≤◌, ℕ, eqb, get_or, length, Bool, false, true, List, ◌≢◌, ◌≡◌}
use Rattle.std.proofs.Common.{eq-eqb, ne_eqb, ◌∙◌, ap, arith, subst, sym}
use Rattle.std.proofs.Math.Decide.{dec_le, ℕ_discrete}
use Rattle.std.proofs.Math.Path.{refl}
use Rattle.model.proofs.Laws.Booleans.{and_left, never}
use Rattle.model.proofs.Laws.Bytes.{records-encode, valid-wf}
use Rattle.model.proofs.Laws.Checks.{answer-done, passes}
use Rattle.model.proofs.Laws.Copying.{Copied, Copyable, beneath-alive, beneath-member, beneath-root, copied-at, copy_parent-child, copy_parent-other, copying-passes, filled, member-beneath, origin-copy, remains}
use Rattle.model.proofs.Laws.Numbers.{Member, across-back, across-kth, across-place, across-use, numbers-distinct}
use Rattle.model.proofs.Laws.Readings.{Counted, keep, one_same, one-other, read-alive, read_same, read-to, says-alive}
use Rattle.model.proofs.Laws.Updates.{at-root}
use Rattle.model.proofs.Laws.Views.{view-on}
use Rattle.model.proofs.Laws.WellFormed.{Alive, WellFormed, alive-pos}
use Rattle.model.specs.Calls.{copy_after, copy_answer, copying}
use Rattle.model.specs.Climbing.{ambients, below, is_beneath}
use Rattle.model.specs.Copies.{active_replication, beneath, copy, copy_parent, gones}
use Rattle.model.specs.Finite.{across}
use Rattle.model.specs.Processes.{Head, Means, Process, Reads, Says, both, end, one, read, replication, says-replication, times, unfolded}
use Rattle.model.specs.Records.{at, parent_of, records}
use Rattle.model.specs.Refusals.{content, done, pass}
use Rattle.model.specs.Steps.{to}
use Rattle.model.specs.declared.Rec.{Rec}

-- number q is c or stands beneath c
unfoldable within : List Rec → ℕ → ℕ → Bool
within its c q = elim (eqb q c) [ true ↦ true | false ↦ is_beneath its c q ]

-- how often record j is read under record c
unfoldable under : {its : List Rec} (c : ℕ) {q : ℕ} {P : Process} → Reads its q P → ℕ → ℕ
under c end j = 0
under c (both r t) j = under c r j + under c t j
under c (read i p s r) j = elim (eqb i c) [ true ↦ times r j | false ↦ under c r j ]

module _ {its : List Rec} (wf : WellFormed its) (c : ℕ) where
  within-self : (q : ℕ) → q ≡ c → within its c q ≡ true
  unfolding within
  within-self q e = rw (eq-eqb q c e, within)

  within-other : (q : ℕ) → q ≢ c → within its c q ≡ is_beneath its c q
  unfolding within
  within-other q n = rw (ne_eqb q c n, within)

  within-beneath : (q : ℕ) → is_beneath its c q ≡ true → within its c q ≡ true
  within-beneath q b = go (ℕ_discrete q c)
    where
      go : Dec (q ≡ c) → within its c q ≡ true
      go (yes e) = within-self q e
      go (no n) = within-other q n ∙ b

  -- a record that is read stands beneath c exactly where its parent is c or does
  read-beneath : (i : ℕ) {q : ℕ} {h : Head} → parent_of its i ≡ q → Says (at its i) h → is_beneath its c i ≡ within its c q
  unfolding within
  read-beneath i p s = view-on (below c) wf i (alive-pos its i (says-alive its i s)) ∙ ap (within its c) p

  -- what is beneath c is read under c only, and so is what isn't read at all
  under-times : {q : ℕ} {P : Process} (r : Reads its q P) → within its c q ≡ false → (j : ℕ) → ((i : ℕ) → Alive its i → is_beneath its c i ≡ false → i ≢ j) → under c r j ≡ times r j
  unfolding times under
  under-times end o j apart = refl
  under-times (both r t) o j apart = omega (arith, under-times r o j apart, under-times t o j apart)
  under-times (read i p s r) o j apart = go (ℕ_discrete i c) (λ u. under-times r u j apart)
    where
      out : is_beneath its c i ≡ false
      out = read-beneath i p s ∙ o

      ij : one i j ≡ 0
      ij = one-other i j (apart i (says-alive its i s) out)

      go : Dec (i ≡ c) → (within its c i ≡ false → under c r j ≡ times r j) → under c (read i p s r) j ≡ times (read i p s r) j
      go (yes e) f = rw (eq-eqb i c e, under) (omega (arith, ij))
      go (no n) f = rw (ne_eqb i c n, under) (omega (arith, ij, f (within-other i n ∙ out)))

  module _ (can : Copyable its c) where
    -- where the copy of record i goes, and which record is copied into record j
    abbrev place : ℕ → ℕ
    place i = across (beneath its c) (gones its) i

    abbrev copied-from : ℕ → ℕ
    copied-from j = across (gones its) (beneath its c) j

    place-back : (j : ℕ) → copied-from j ≢ 0 → place (copied-from j) ≡ j
    unfolding gones beneath
    place-back j n =
        let w = across-place (gones its) (beneath its c) j n in
        let u : copied-from j ≡ get_or (beneath its c) w.0 0 = ap copied-from (sym w.3) ∙ across-kth (gones its) (beneath its c) (numbers-distinct _ 1 (length its)) w.0 w.1 w.2 in
        ap place u ∙ across-kth (beneath its c) (gones its) (numbers-distinct _ 1 (length its)) w.0 w.2 w.1 ∙ w.3

    -- a record i that is beneath c is copied to place i, and to no other
    module _ (i : ℕ) (l : Alive its i) (b : is_beneath its c i ≡ true) where
      m : Member i (beneath its c)
      m = beneath-member wf c can i l b

      back : copied-from (place i) ≡ i
      unfolding gones
      back = (across-back (beneath its c) (gones its) (numbers-distinct _ 1 (length its)) can.room i m).1

      at-place : at (copy c its) (place i) ≡ to (copy_parent its c (parent_of its i)) (at its i)
      at-place = go (copied-at wf c can (place i))
        where
          go : Copied its c (place i) → at (copy c its) (place i) ≡ to (copy_parent its c (parent_of its i)) (at its i)
          go (remains e _ _) = absurd (alive-pos its i l (sym back ∙ e))
          go (filled _ _ _ q) = q ∙ ap (λ x. to (copy_parent its c (parent_of its x)) (at its x)) (origin-copy wf c can i m)

      alone : (j : ℕ) → one (place i) j ≡ one i (copied-from j)
      alone j = go (ℕ_discrete (place i) j)
        where
          go : Dec (place i ≡ j) → one (place i) j ≡ one i (copied-from j)
          go (yes e) = one_same (place i) j e ∙ sym (one_same i (copied-from j) (sym back ∙ ap copied-from e))
          go (no n) = one-other (place i) j n ∙ sym (one-other i (copied-from j) (λ e. n (ap place e ∙ place-back j (λ z. alive-pos its i l (e ∙ z)))))

    -- a record that is not gone stays
    stays : (i : ℕ) → Alive its i → at (copy c its) i ≡ at its i
    stays i l = go (copied-at wf c can i)
      where
        go : Copied its c i → at (copy c its) i ≡ at its i
        go (remains _ _ q) = q
        go (filled _ k _ _) = absurd (l k)

    -- what is read beneath c, read from the copies
    copy-read : is_beneath its c c ≡ false → {q : ℕ} {P : Process} (r : Reads its q P) → within its c q ≡ true →
        Counted (copy c its) (copy_parent its c q) P (λ j. times r (copied-from j))
    unfolding times
    copy-read o end u = record { reads = end; counts = λ j. refl }
    copy-read o (both r t) u =
        let v = copy-read o r u in
        let w = copy-read o t u in
        record { reads = both v.reads w.reads; counts = λ j. omega (arith, v.counts j, w.counts j) }
    copy-read o {q} (read {P = P} i p s r) u =
        let b = read-beneath i p s ∙ u in
        let l = says-alive its i s in
        let n = copy_parent-other wf c can i (λ e. never (is_beneath its c i) b (ap (is_beneath its c) e ∙ o)) in
        let w = subst (λ x. Counted (copy c its) x P (λ j. times r (copied-from j))) n (copy-read o r (within-beneath i b)) in
        record {
          reads = read-to (place i) (copy_parent its c q) s (at-place i l b ∙ ap (λ x. to (copy_parent its c x) (at its i)) p) w.reads;
          counts = λ j. omega (arith, w.counts j, alone i l b j);
        }

    unfold-read : {q : ℕ} {P : Process} (r : Reads its q P) → within its c q ≡ false → Counted (copy c its) q (unfolded c r) (λ j. times r j + under c r (copied-from j))
    unfolding times under unfolded
    unfold-read end o = record { reads = end; counts = λ j. refl }
    unfold-read (both r t) o =
        let v = unfold-read r o in
        let w = unfold-read t o in
        record { reads = both v.reads w.reads; counts = λ j. omega (arith, v.counts j, w.counts j) }
    unfold-read {q} (read {P = P} i p s r) o = go (ℕ_discrete i c) (unfold-read r)
      where
        out : is_beneath its c i ≡ false
        out = read-beneath i p s ∙ o

        still : at (copy c its) i ≡ at its i
        still = stays i (says-alive its i s)

        go : Dec (i ≡ c) → (within its c i ≡ false → Counted (copy c its) i (unfolded c r) (λ j. times r j + under c r (copied-from j))) →
            Counted (copy c its) q (unfolded c (read i p s r)) (λ j. times (read i p s r) j + under c (read i p s r) (copied-from j))
        go (yes e) f =
            let n : copy_parent its c i ≡ q = copy_parent-child wf c can i e ∙ ap (parent_of its) (sym e) ∙ p in
            let v = subst (λ x. Counted (copy c its) x P (λ j. times r (copied-from j))) n (copy-read (ap (is_beneath its c) (sym e) ∙ out) r (within-self i e)) in
            let w = keep r (λ j l. stays j (read-alive r j l)) in
            rw (eq-eqb i c e, unfolded, under) (record { reads = both v.reads (read_same i s p still w.reads); counts = λ j. omega (arith, v.counts j, w.counts j) })
        go (no n) f =
            let w = f (within-other i n ∙ out) in
            rw (ne_eqb i c n, unfolded, under) (record { reads = read_same i s p still w.reads; counts = λ j. omega (arith, w.counts j) })

    pub copy-means : {P : Process} (m : Means its P) → Means (copy c its) (unfolded c m.reading)
    copy-means m = record { reading = w.reads; once = λ j l. w.counts j ∙ once j l (copied-at wf c can j) }
      where
        top : within its c 0 ≡ false
        top = within-other 0 (λ e. can.pos (sym e)) ∙ beneath-root wf c

        w : Counted (copy c its) 0 (unfolded c m.reading) (λ j. times m.reading j + under c m.reading (copied-from j))
        w = unfold-read m.reading top

        unread : (j : ℕ) → (at its j).kind ≡ 0 → times m.reading j ≡ 0
        unread j k = go (dec_le 1 (times m.reading j))
          where
            go : Dec (1 ≤ times m.reading j) → times m.reading j ≡ 0
            go (yes n) = absurd (read-alive m.reading j n k)
            go (no n) = omega arith

        once : (j : ℕ) → Alive (copy c its) j → Copied its c j → times m.reading j + under c m.reading (copied-from j) ≡ 1
        once j l (remains e _ q) =
            let u = under-times m.reading top 0 (λ i a _. alive-pos its i a) in
            omega (arith, ap (under c m.reading) e, u, unread 0 (ap (λ r. r.kind) (at-root its)), m.once j (λ k. l (ap (λ r. r.kind) q ∙ k)))
        once j l (filled n k _ _) =
            let o = copied-from j in
            let b = (across-use (gones its) (beneath its c) j n).1 in
            let u = under-times m.reading top o (λ i _ f e. never (is_beneath its c o) (member-beneath wf c can b).1 (ap (is_beneath its c) (sym e) ∙ f)) in
            omega (arith, unread j k, u, m.once o (beneath-alive wf c can b))

-- the call
pub call-copied : (s : List ℕ) {P : Process} (m : Means (records s) P) (c n : ℕ) → copy_answer s c ≡ done n →
    Says (at (records s) c) replication × Means (records (copy_after s c)) (unfolded c m.reading)
unfolding copy_answer copy_after copying content active_replication
call-copied s m c n a =
    let e : copying s c ≡ pass = answer-done (copying s c) _ n a in
    let w = copying-passes s c e in
    let f : records (copy_after s c) ≡ copy c (records s) = rw (e, content) (records-encode (copy c (records s))) in
    (says-replication (and_left _ (ambients (records s) (parent_of (records s) c)) (search passes)), rw f (copy-means (valid-wf s w.0) c w.1 m))
