-- Climbing in a valid itinerary: it always reaches the environment.
use Rattle.std.specs.Prelude.{◌≤◌, ℕ, length, List, Option, None, Some, IfNone, IsSome, ◌≡◌}
use Rattle.std.proofs.Common.{ap, ◌∙◌, arith, rules}
use Rattle.model.proofs.Laws.Bytes.{at-whole, length-records, valid-few, valid-wf, valid-whole}
use Rattle.model.proofs.Laws.Forest.{depth_le}
use Rattle.model.proofs.Laws.WellFormed.{WellFormed, parent_in, small}
use Rattle.model.specs.Records.{count, decode, is_ambient, records}
use Rattle.model.specs.Refusals.{pass}
use Rattle.model.specs.Validity.{validity}
use Rattle.model.specs.declared.Rec.{Rec}
use Rattle.records.specs.Climbs.{ambient-is}
use Rattle.ways.specs.Laws.{bounded, parent-inside}
use Rattle.ways.specs.Ways.{Lost, Parented, Viewable}

module _ (s : List ℕ) (v : validity s ≡ pass) where
  wf : WellFormed (records s)
  wf = valid-wf s v

  pub valid-parented : Parented s
  valid-parented = record {
    whole = valid-whole s v;
    few = valid-few s v;
    parents = λ j. omega (arith, parent_in wf j, length-records s);
  }

  pub valid-viewable : Viewable s
  valid-viewable = record {
    parented = valid-parented;
    labels = λ j k. let e = at-whole s (valid-whole s v) j in rw (← e) (small wf j (ap (λ x. is_ambient x) e ∙ ambient-is (decode s j) k));
  }

  -- the parent read is within the count
  pub parent-near : (i : ℕ) (r : Rec) → r ≡ decode s i → r.parent ≤ count s
  parent-near i r e = parent-inside (bounded valid-parented) i _ (ap (λ x. x.parent) e)

  -- as many climbs as there are records are enough
  pub never-lost : (i : ℕ) → i ≤ count s → Lost s (count s) i → ⊥
  never-lost i l h =
      let d = wf.reach i in
      h d.0 (omega (arith, depth_le (length (records s)) (parent_in wf) (omega (arith, length-records s)) d.1, length-records s)) d.1

  -- so something is found
  pub found-some : {A : Type 0} (i : ℕ) → i ≤ count s → (o : Option A) → IfNone o (Lost s (count s) i) → IsSome o
  found-some i l None n = absurd (never-lost i l n)
  found-some i l (Some x) n = search rules
