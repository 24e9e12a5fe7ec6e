-- The three axioms of reduction, each on its own part of the records. `After` is the frame of a step: what it leaves of a
-- part that was read, no change outside of that part, and each record that is left as often as before. It goes up through
-- an ambient (`after-within`), a parallel process (`after-beside`) and congruence (`after-alike`); at the bottom stand in,
-- out and open, where the records that the move touches are known one by one.
use Rattle.std.specs.Prelude.{◌+◌, ◌≤◌, ℕ, List, ◌≢◌, ◌≡◌}
use Rattle.std.proofs.Common.{◌∙◌, subst, sym}
use Rattle.std.proofs.Math.Path.{ap}
use native.Mathlib.Omega.{arith}
use Rattle.model.proofs.Laws.Readings.{Counted, Once, climbs, conform, differ, keep, off, one-other, one_same, one-self, read_same, read-to, rehang, says-alive}
use Rattle.model.proofs.Laws.Updates.{dissolve-moved, dissolve-self, dissolve-stays, place_other, place-self}
use Rattle.model.proofs.Laws.WellFormed.{Alive, Out, alive-in, alive-pos, itself, moved, out, stays}
use Rattle.model.specs.Processes.{Congruent, Head, Process, Reads, Says, ◌·◌, ◌‖◌, both, one, read, times}
use Rattle.model.specs.Records.{at, parent_of}
use Rattle.model.specs.Steps.{dissolve, place, to}
use Rattle.model.specs.declared.Rec.{Rec}

-- what a step leaves of a part that was read with the counts N: a reading of Q; no change of records outside that part;
-- each record that is left as often as before
pub record After (its its' : List Rec) (q : ℕ) (N : ℕ → ℕ) (Q : Process) : Type 0 where
  pub after : Reads its' q Q
  pub frame : (i : ℕ) → N i ≡ 0 → N (parent_of its i) ≡ 0 → at its' i ≡ at its i
  pub keeps : (i : ℕ) → Alive its' i → times after i ≡ N i

pub after_same : {its its' its'' : List Rec} {q : ℕ} {N : ℕ → ℕ} {Q : Process} → its' ≡ its'' → After its its' q N Q → After its its'' q N Q
after_same {its} {q = q} {N} {Q} e a = subst (λ x. After its x q N Q) e a

module _ {its its' : List Rec} where
  pub after-alike : {q : ℕ} {M N : ℕ → ℕ} {P Q : Process} → ((j : ℕ) → M j ≡ N j) → After its its' q M P → Congruent P Q → After its its' q N Q
  after-alike {q} m a e =
      let w = (conform e).0 q a.after in
      record {
        after = w.reads;
        frame = λ i z y. a.frame i (m i ∙ z) (m _ ∙ y);
        keeps = λ i l. w.counts i ∙ a.keeps i l ∙ m i;
      }

  pub after-within : {q j : ℕ} {h : Head} {P Q : Process} (p : parent_of its j ≡ q) (s : Says (at its j) h) (r : Reads its j P) →
      Once q (times (read j p s r)) → After its its' j (times r) Q → After its its' q (times (read j p s r)) (h · Q)
  unfolding times
  after-within {q} {j} p s r o a =
      record {
        after = read_same j s p (a.frame j (omega (arith, o j, one-self j)) (ap (times r) p ∙ omega (arith, o q, one-self q))) a.after;
        frame = λ i z y. a.frame i (omega arith) (omega arith);
        keeps = λ i l. omega (arith, a.keeps i l);
      }

  pub after-beside : {q : ℕ} {P Q R : Process} (r : Reads its q P) (t : Reads its q R) → Once q (times (both r t)) →
      After its its' q (times r) Q → After its its' q (times (both r t)) (Q ‖ R)
  unfolding times
  after-beside r t o a =
      let v = keep {its' = its'} t (λ j l. a.frame j (omega (arith, o j)) (omega (arith, o (parent_of its j), climbs t j l))) in
      record {
        after = both a.after v.reads;
        frame = λ i z y. a.frame i (omega arith) (omega arith);
        keeps = λ i l. omega (arith, v.counts i, a.keeps i l);
      }

unlike : (N : ℕ → ℕ) {i j : ℕ} → 1 ≤ N i → N j ≡ 0 → i ≢ j
unlike N l z e = omega (arith, ap N e)

-- who is left where c is taken out
pub dissolve-before : (its : List Rec) (c i : ℕ) → c ≢ 0 → Alive (dissolve c its) i → Alive its i
dissolve-before its c i z l e = go (out its c z i)
  where
    go : Out its c i → ⊥
    go (itself u q) = l (ap (λ r. r.kind) q)
    go (moved u v q) = l (ap (λ r. r.kind) q ∙ e)
    go (stays u v q) = l (ap (λ r. r.kind) q ∙ e)

dissolve-left : (its : List Rec) (c i : ℕ) → c ≢ 0 → Alive (dissolve c its) i → one c i ≡ 0
dissolve-left its c i z l = one-other c i (λ e. l (ap (λ r. r.kind) (ap (λ j. at (dissolve c its) j) (sym e) ∙ dissolve-self c its z)))

-- in and out: a, the parent of c, goes to t, and c's children to a
abbrev pub turned : List Rec → ℕ → ℕ → ℕ → List Rec
turned its a c t = dissolve c (place a t its)

module _ (its : List Rec) (a c t : ℕ) (la : Alive its a) (lc : Alive its c) (pc : parent_of its c ≡ a) (ac : a ≢ c) (tc : t ≢ c) where
  turn-stays : (i : ℕ) → i ≢ a → i ≢ c → parent_of its i ≢ c → at (turned its a c t) i ≡ at its i
  turn-stays i x y z =
      let e = place_other a t its i x in
      dissolve-stays c (place a t its) (alive-pos its c lc) i y (λ u. z (sym (ap (λ r. r.parent) e) ∙ u)) ∙ e

  turn-hung : (i : ℕ) → i ≢ a → i ≢ c → parent_of its i ≡ c → at (turned its a c t) i ≡ to a (at its i)
  turn-hung i x y z =
      let e = place_other a t its i x in
      let f : parent_of (place a t its) c ≡ a = ap (λ r. r.parent) (place_other a t its c (λ u. ac (sym u))) ∙ pc in
      dissolve-moved c (place a t its) (alive-pos its c lc) i y (ap (λ r. r.parent) e ∙ z) ∙ ap (to (parent_of (place a t its) c)) e ∙ ap (λ q. to q (at its i)) f

  turn_moved : at (turned its a c t) a ≡ to t (at its a)
  turn_moved =
      let e = place-self a t its (alive-pos its a la) (alive-in its a la) in
      dissolve-stays c (place a t its) (alive-pos its c lc) a ac (λ u. tc (sym (ap (λ r. r.parent) e) ∙ u)) ∙ e

  module _ {P Q R : Process} (b : ℕ) (rP : Reads its c P) (rQ : Reads its a Q) (rR : Reads its b R) (za : times rP a + (times rQ a + times rR a) ≡ 0)
      (zc : one a c + (one b c + (times rP c + (times rQ c + times rR c))) ≡ 0) where
    -- what c held goes to a, beside what a held
    turn-held : Counted (turned its a c t) a (P ‖ Q) (λ j. times rP j + times rQ j)
    unfolding times
    turn-held =
        let x : times rP a ≡ 0 = omega arith in
        let y : times rP c ≡ 0 = omega arith in
        let u = rehang {its' = turned its a c t} a rP y (λ j l. turn-hung j (unlike (times rP) l x) (unlike (times rP) l y))
        (λ j l. turn-stays j (unlike (times rP) l x) (unlike (times rP) l y)) in
        let v = keep {its' = turned its a c t} rQ (λ j l. turn-stays j (unlike (times rQ) {j = a} l (omega arith)) (unlike (times rQ) {j = c} l (omega arith)) (off rQ (omega arith) (omega arith) j l)) in
        record { reads = both u.reads v.reads; counts = λ j. omega (arith, u.counts j, v.counts j) }

    turn-rest : Counted (turned its a c t) b R (times rR)
    turn-rest = keep {its' = turned its a c t} rR (λ j l. turn-stays j (unlike (times rR) {j = a} l (omega arith)) (unlike (times rR) {j = c} l (omega arith)) (off rR (omega arith) (omega arith) j l))

module _ {its : List Rec} {q : ℕ} {P Q R : Process} {hₐ hᵦ h : Head} (a b c : ℕ) (sa : Says (at its a) hₐ) (sb : Says (at its b) hᵦ) (sc : Says (at its c) h)
    (pc : parent_of its c ≡ a) (rP : Reads its c P) (rQ : Reads its a Q) (rR : Reads its b R) where
  -- n[in m.P | Q] | m[R] → m[n[P | Q] | R]
  pub enters-after : (pa : parent_of its a ≡ q) (pb : parent_of its b ≡ q) → Once q (times (both (read a pa sa (both (read c pc sc rP) rQ)) (read b pb sb rR))) →
      After its (turned its a c b) q (times (both (read a pa sa (both (read c pc sc rP) rQ)) (read b pb sb rR))) (hᵦ · (hₐ · (P ‖ Q) ‖ R))
  unfolding times
  enters-after pa pb o =
      let la = says-alive its a sa in
      let lc = says-alive its c sc in
      let ac : a ≢ c = differ a c (omega (arith, o c, one-self c)) in
      let bc : b ≢ c = differ b c (omega (arith, o c, one-self c)) in
      let still = turn-stays its a c b la lc pc ac bc in
      let v = turn-held its a c b la lc pc ac bc b rP rQ rR (omega (arith, o a, one-self a)) (omega (arith, o c, one-self c)) in
      let w = turn-rest its a c b la lc pc ac bc b rP rQ rR (omega (arith, o a, one-self a)) (omega (arith, o c, one-self c)) in
      let eb = still b (differ b a (omega (arith, o a, one-self a))) bc (λ e. omega (arith, one_same q c (sym pb ∙ e), o c, one-self c)) in
      record {
        after = read_same b sb pb eb (both (read-to a b sa (turn_moved its a c b la lc pc ac bc) v.reads) w.reads);
        frame = λ i z y. still i (λ e. differ a i (omega arith) (sym e)) (λ e. differ c i (omega arith) (sym e)) (λ e. differ c (parent_of its i) (omega arith) (sym e));
        keeps = λ i l. omega (arith, v.counts i, w.counts i, dissolve-left (place a b its) c i (alive-pos its c lc) l);
      }

  -- m[n[out m.P | Q] | R] → n[P | Q] | m[R]
  pub leaves_after : (pa : parent_of its a ≡ b) (pb : parent_of its b ≡ q) → Once q (times (read b pb sb (both (read a pa sa (both (read c pc sc rP) rQ)) rR))) →
      After its (turned its a c (parent_of its b)) q (times (read b pb sb (both (read a pa sa (both (read c pc sc rP) rQ)) rR))) (hₐ · (P ‖ Q) ‖ hᵦ · R)
  unfolding times
  leaves_after pa pb o =
      let la = says-alive its a sa in
      let lc = says-alive its c sc in
      let t = parent_of its b in
      let ac : a ≢ c = differ a c (omega (arith, o c, one-self c)) in
      let bc : b ≢ c = differ b c (omega (arith, o c, one-self c)) in
      let tc : t ≢ c = λ e. omega (arith, one_same q c (sym pb ∙ e), o c, one-self c) in
      let still = turn-stays its a c t la lc pc ac tc in
      let v = turn-held its a c t la lc pc ac tc b rP rQ rR (omega (arith, o a, one-self a)) (omega (arith, o c, one-self c)) in
      let w = turn-rest its a c t la lc pc ac tc b rP rQ rR (omega (arith, o a, one-self a)) (omega (arith, o c, one-self c)) in
      let eb = still b (differ b a (omega (arith, o a, one-self a))) bc tc in
      record {
        after = both (read-to a q sa (turn_moved its a c t la lc pc ac tc ∙ ap (λ x. to x (at its a)) pb) v.reads) (read_same b sb pb eb w.reads);
        frame = λ i z y. still i (λ e. differ a i (omega arith) (sym e)) (λ e. differ c i (omega arith) (sym e)) (λ e. differ c (parent_of its i) (omega arith) (sym e));
        keeps = λ i l. omega (arith, v.counts i, w.counts i, dissolve-left (place a t its) c i (alive-pos its c lc) l);
      }

-- open: the children of b and of c go to the parent q of both
module _ (its : List Rec) (b c q : ℕ) (bz : b ≢ 0) (cz : c ≢ 0) (pb : parent_of its b ≡ q) (pc : parent_of its c ≡ q) (bc : b ≢ c) (qb : q ≢ b) (qc : q ≢ c) where
  both-stays : (i : ℕ) → i ≢ b → i ≢ c → parent_of its i ≢ b → parent_of its i ≢ c → at (dissolve c (dissolve b its)) i ≡ at its i
  both-stays i x y u v =
      let e = dissolve-stays b its bz i x u in
      dissolve-stays c (dissolve b its) cz i y (λ w. v (sym (ap (λ r. r.parent) e) ∙ w)) ∙ e

  both-from-b : (i : ℕ) → i ≢ b → i ≢ c → parent_of its i ≡ b → at (dissolve c (dissolve b its)) i ≡ to q (at its i)
  both-from-b i x y u =
      let e : at (dissolve b its) i ≡ to q (at its i) = dissolve-moved b its bz i x u ∙ ap (λ p. to p (at its i)) pb in
      dissolve-stays c (dissolve b its) cz i y (λ w. qc (sym (ap (λ r. r.parent) e) ∙ w)) ∙ e

  both-from-c : (i : ℕ) → i ≢ b → i ≢ c → parent_of its i ≡ c → at (dissolve c (dissolve b its)) i ≡ to q (at its i)
  both-from-c i x y u =
      let e = dissolve-stays b its bz i x (λ w. bc (sym w ∙ u)) in
      let f : parent_of (dissolve b its) c ≡ q = ap (λ r. r.parent) (dissolve-stays b its bz c (λ w. bc (sym w)) (λ w. qb (sym pc ∙ w))) ∙ pc in
      dissolve-moved c (dissolve b its) cz i y (ap (λ r. r.parent) e ∙ u) ∙ ap (to (parent_of (dissolve b its) c)) e ∙ ap (λ p. to p (at its i)) f

-- open m.P | m[Q] → P | Q
pub opens-after : {its : List Rec} {q : ℕ} {P Q : Process} {hᵦ h : Head} (b c : ℕ) (sb : Says (at its b) hᵦ) (sc : Says (at its c) h) (rP : Reads its c P) (rQ : Reads its b Q)
    (pc : parent_of its c ≡ q) (pb : parent_of its b ≡ q) → Once q (times (both (read c pc sc rP) (read b pb sb rQ))) →
    After its (dissolve c (dissolve b its)) q (times (both (read c pc sc rP) (read b pb sb rQ))) (P ‖ Q)
unfolding times
opens-after {its} {q} b c sb sc rP rQ pc pb o =
    let bz = alive-pos its b (says-alive its b sb) in
    let cz = alive-pos its c (says-alive its c sc) in
    let bc : b ≢ c = differ b c (omega (arith, o c, one-self c)) in
    let qb : q ≢ b = differ q b (omega (arith, o b, one-self b)) in
    let qc : q ≢ c = differ q c (omega (arith, o c, one-self c)) in
    let Pb : times rP b ≡ 0 = omega (arith, o b, one-self b) in
    let Pc : times rP c ≡ 0 = omega (arith, o c, one-self c) in
    let Qb : times rQ b ≡ 0 = omega (arith, o b, one-self b) in
    let Qc : times rQ c ≡ 0 = omega (arith, o c, one-self c) in
    let still = both-stays its b c q bz cz pb pc bc qb qc in
    let u = rehang {its' = dissolve c (dissolve b its)} q rP Pc (λ j l. both-from-c its b c q bz cz pb pc bc qb qc j (unlike (times rP) l Pb) (unlike (times rP) l Pc))
    (λ j l. still j (unlike (times rP) l Pb) (unlike (times rP) l Pc) (off rP (one-other c b (λ e. bc (sym e))) Pb j l)) in
    let v = rehang {its' = dissolve c (dissolve b its)} q rQ Qb (λ j l. both-from-b its b c q bz cz pb pc bc qb qc j (unlike (times rQ) l Qb) (unlike (times rQ) l Qc))
    (λ j l n. still j (unlike (times rQ) l Qb) (unlike (times rQ) l Qc) n (off rQ (one-other b c bc) Qc j l)) in
    record {
      after = both u.reads v.reads;
      frame = λ i z y. still i (λ e. differ b i (omega arith) (sym e)) (λ e. differ c i (omega arith) (sym e)) (λ e. differ b (parent_of its i) (omega arith) (sym e)) (λ e. differ c (parent_of its i) (omega arith) (sym e));
      keeps = λ i l. omega (arith, u.counts i, v.counts i, dissolve-left (dissolve b its) c i cz l, dissolve-left its b i bz (dissolve-before (dissolve b its) c i cz l));
    }
