-- What a record makes of what stands above it, and the notes once all numbers have theirs.
use Rattle.std.specs.Prelude.{◌+◌, ◌<◌, ◌≤◌, suc, zero, ℕ, leb, get_or, length, set, replicate, false, true, List, Option, None, Some, IsSome, ◌≢◌, ◌≡◌, refl}
use Rattle.std.proofs.Common.{eq-eqb, ne_eqb, le-leb, ◌∙◌, ap, sym, zero-add, arith}
use Rattle.std.proofs.lemmas.Bool.{lt-leb}
use Rattle.std.proofs.lemmas.List.{get_or_default}
use Rattle.std.proofs.Math.Seq.{ext_get_or}
use Rattle.std.proofs.Math.Decide.{dec_le, ℕ_discrete}
use Rattle.enclosures.specs.Notes.{Nearests, all_notes, enclosed_by}
use Rattle.model.specs.Climbing.{bounded, enclosing, enclosure, is_bound, labelled, nearest}
use Rattle.model.proofs.Laws.Bytes.{at-whole, valid-wf, valid-whole}
use Rattle.model.proofs.Laws.Enclosure.{enclosed-label}
use Rattle.model.proofs.Laws.Views.{view-top}
use Rattle.model.proofs.Laws.Finite.{get_d_tabulate, length-tabulate}
use Rattle.model.specs.Records.{count, decode, is_ambient, parent_of, records}
use Rattle.model.specs.Refusals.{pass}
use Rattle.model.specs.Tables.{is_boundary}
use Rattle.model.specs.Validity.{validity}
use Rattle.model.specs.declared.Above.{Above}
use Rattle.model.specs.declared.Rec.{Rec}
use Rattle.ways.specs.Laws.{noted-none, noted-then, noting-root}
use Rattle.ways.specs.Valid.{valid-viewable}
use Rattle.ways.specs.Ways.{Noted, Noting}

-- ---- what a record makes

module _ (policy : List ℕ) (number : ℕ) (r : Rec) (x : Above) where
  pub made-other : is_ambient r ≡ false → x ≡ (enclosing policy).make number r x
  unfolding bounded is_bound labelled
  made-other a = rw (a, bounded, is_bound, labelled)

  pub made-boundary : is_ambient r ≡ true → get_or policy r.label 0 ≡ 2 → record { label = r.label; boundary = number } ≡ (enclosing policy).make number r x
  unfolding bounded is_bound labelled is_boundary
  made-boundary a e = let b = eq-eqb (get_or policy r.label 0) 2 e in rw (a, b, bounded, is_bound, labelled)

  pub made-ambient : is_ambient r ≡ true → get_or policy r.label 0 ≢ 2 → record { label = r.label; boundary = x.boundary } ≡ (enclosing policy).make number r x
  unfolding bounded is_bound labelled is_boundary
  made-ambient a e = let b = ne_eqb (get_or policy r.label 0) 2 e in rw (a, b, bounded, is_bound, labelled)

-- ---- all numbers

-- the numbers up to i are noted
pub record Passed (s policy : List ℕ) (notes₀ notes : List (Option Above)) (i : ℕ) : Type 0 where
  pub long : length notes ≡ length notes₀
  pub noted : Noted (enclosing policy) s notes₀ notes
  pub all : (j : ℕ) → j ≤ i → get_or notes j None ≢ None

module _ {s policy : List ℕ} {notes₀ : List (Option Above)} where
  pub passed_start : Noting (enclosing policy) s notes₀ → Passed s policy notes₀ notes₀ 0
  passed_start n = record { long = refl; noted = noted-none n; all = λ j h. root j h }
    where
      root : (j : ℕ) → j ≤ 0 → get_or notes₀ j None ≢ None
      root zero h = n.passable.root
      root (suc j) h = absurd (omega arith)

  -- climbing from a record finds something, which is noted
  pub passed-next : {notes notes' : List (Option Above)} {i : ℕ} → validity s ≡ pass → i + 1 ≤ count s → Passed s policy notes₀ notes i → length notes' ≡ length notes → Noted (enclosing policy) s notes notes' →
      {x : Above} → get_or notes' (i + 1) None ≡ Some x → Passed s policy notes₀ notes' (i + 1)
  passed-next {notes' = notes'} {i = i} v m p e n {x} h = record {
    long = e ∙ p.long;
    noted = noted-then p.noted n;
    all = λ j l. go j l (ℕ_discrete j (i + 1));
  }
    where
      go : (j : ℕ) → j ≤ i + 1 → Dec (j ≡ i + 1) → get_or notes' j None ≢ None
      go j l (yes q) = λ u. let w : ◌≡◌ {A = Option Above} (Some x) None = sym h ∙ ap (λ (y : ℕ). get_or notes' y None) (sym q) ∙ u in cc
      go j l (no q) = n.stays j (p.all j (omega (arith, q)))

  -- then the lent notes are those of all
  pub passed-end : {notes : List (Option Above)} → Passed s policy notes₀ notes (count s) → notes ≡ all_notes policy s notes₀
  unfolding all_notes
  passed-end {notes} p =
      ext_get_or None notes _ (p.long ∙ sym (length-tabulate entry 0 (length notes₀)))
      (λ j l. same j (dec_le j (count s)) ∙ sym (get_d_tabulate entry 0 (length notes₀) j None (omega (arith, p.long, l)) ∙ ap entry (zero-add j)))
    where
      entry : ℕ → Option Above
      entry j = elim (leb j (count s)) [ true ↦ Some (enclosed_by policy s j) | false ↦ get_or notes₀ j None ]

      told : (j : ℕ) → j ≤ count s → (o : Option Above) → get_or notes j None ≡ o → o ≡ Some (enclosed_by policy s j)
      told j l None e = absurd (p.all j l e)
      told j l (Some x) e = ap Some (p.noted.noting.told j x l e).is

      same : (j : ℕ) → Dec (j ≤ count s) → get_or notes j None ≡ entry j
      same j (yes l) = told j l _ refl ∙ rw (le-leb j (count s) l)
      same j (no l) = p.noted.past j (omega (arith, l)) ∙ rw (lt-leb j (count s) (omega (arith, l)))

-- what callers read of them
pub nearests-are : {s : List ℕ} {notes : List (Option Above)} (policy : List ℕ) (notes₀ : List (Option Above)) → count s < length notes₀ → notes ≡ all_notes policy s notes₀ → Nearests s notes
unfolding all_notes
nearests-are {s} {notes} policy notes₀ l e = record {
  room = rw (ap length e ∙ length-tabulate entry 0 (length notes₀)) l;
  is = λ j h. (
    enclosed_by policy s j,
    ap (λ x. get_or x j None) e ∙ get_d_tabulate entry 0 (length notes₀) j None (omega arith) ∙ ap entry (zero-add j) ∙ rw (le-leb j (count s) h),
    enclosed-label policy (records s) j,
  );
}
  where
    entry : ℕ → Option Above
    entry j = elim (leb j (count s)) [ true ↦ Some (enclosed_by policy s j) | false ↦ get_or notes₀ j None ]

-- a note read at a number within the count
module _ {s : List ℕ} {notes : List (Option Above)} (n : Nearests s notes) (j : ℕ) (l : j ≤ count s) (d : Option Above) where
  read : get_or notes j d ≡ Some (n.is j l).0
  read = get_or_default notes j d None (omega (arith, l, n.room)) ∙ (n.is j l).1

  pub nearest-there : IsSome (get_or notes j d)
  nearest-there = rw read

  pub nearest-read : {a : Above} → get_or notes j d ≡ Some a → a.label ≡ nearest (records s) j
  nearest-read {a} e = let h : ◌≡◌ {A = Option Above} (Some a) (Some (n.is j l).0) = sym e ∙ read in let u : a ≡ (n.is j l).0 = cc in ap (λ (x : Above). x.label) u ∙ (n.is j l).2

-- room for the notes of all numbers, with the environment's
pub notes-root : (s policy : List ℕ) → validity s ≡ pass → Noting (enclosing policy) s (set (replicate 1025 None) 0 (Some (record { label = 0; boundary = 0 })))
notes-root s policy v = noting-root (enclosing policy) (valid-viewable s v)

-- ---- one record

pub enclosure-root : (s policy : List ℕ) → validity s ≡ pass → (i : ℕ) (r : Rec) → r ≡ decode s i → r.parent ≡ 0 → record { label = 0; boundary = 0 } ≡ enclosure policy (records s) i
enclosure-root s policy v i r e z =
    let q : parent_of (records s) i ≡ 0 = ap (λ (y : Rec). y.parent) (at-whole s (valid-whole s v) i ∙ sym e) ∙ z in
    sym (ap (enclosed_by policy s) q ∙ view-top (enclosing policy) (valid-wf s v))

pub enclosure-read : (s policy : List ℕ) → validity s ≡ pass → (i : ℕ) (r : Rec) → r ≡ decode s i → (x : Above) → x ≡ enclosed_by policy s r.parent → x ≡ enclosure policy (records s) i
enclosure-read s policy v i r e x f = f ∙ ap (λ (y : Rec). enclosed_by policy s y.parent) (e ∙ sym (at-whole s (valid-whole s v) i))
