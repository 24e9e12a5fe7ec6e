-- Subject reduction: a step that is done keeps a table that holds. S plays no part in it.
use Rattle.std.specs.Prelude.{ℕ, Bool, false, List, ◌≡◌, refl}
use Rattle.std.proofs.Math.Dec.{eqb}
use Rattle.std.proofs.Math.Bool.{true}
use Rattle.std.specs.Prelude.{Some}
use Rattle.std.proofs.Common.{◌∙◌, ap, sym}
use Rattle.model.specs.Analysis.{Permit}
use Rattle.model.specs.Climbing.{container, labelled, nearest, nesting}
use Rattle.model.proofs.Laws.Containers.{ambients-nearest, container-small, labelled-amb, labelled-other, labelled-same, nearest-amb}
use Rattle.model.proofs.Laws.Done.{Done, amb-alive, cap-alive, cap-nested, in-beside, in-holder, open-beside, out-above, out-holder}
use Rattle.model.proofs.Laws.Holding.{Holds, Infects, RowInside, Rule, Sub}
use Rattle.model.proofs.Laws.Transport.{Gives, Mono, Nest, Nesting, move-each, move-moved}
use Rattle.model.proofs.Laws.WellFormed.{WellFormed, amb-nested, small}
use Rattle.model.specs.Records.{Capability, at, cap-in, cap-open, cap-out, capability, is_ambient, parent_of}
use Rattle.model.specs.Steps.{move, ready}
use Rattle.model.specs.Tables.{Table}
use Rattle.model.specs.declared.Rec.{Rec}

-- the nesting of containers, compared by row inclusion
module _ (I : ℕ → ℕ → Bool) where
  nestings : Nesting nesting (Sub I) (λ x l. I x l ≡ true)
  nestings = record {
    order = record { same = λ i x s. labelled-same s x; rr = λ a k m p. p; tr = λ p q k m t. q k m (p k m t) };
    through = λ i. labelled-other;
    more = λ x y l m h. h l m;
  }

  nesting-mono : (its : List Rec) → WellFormed its → Nest nesting (λ x l. I x l ≡ true) its → Mono nesting (Sub I) its
  nesting-mono its wf nest i y h = go (is_ambient (at its i)) refl
    where
      go : (t : Bool) → is_ambient (at its i) ≡ t → Sub I (labelled (at its i) (nearest its (parent_of its i))) (labelled (at its i) y)
      go true e = rw (labelled-amb (at its i) (nearest its (parent_of its i)) e, labelled-amb (at its i) y e) (λ k m p. p)
      go false e = rw (labelled-other (at its i) (nearest its (parent_of its i)) e, labelled-other (at its i) y e) h

module _ {permit : Permit} {policy : List ℕ} {its : List Rec} {T : Table} (wf : WellFormed its) (holds : Holds permit policy its T) (c b : ℕ) where
  -- both conclusions of the three rules, for the actor and the partner of a step
  abbrev pub Ruled : Capability → Type 0
  Ruled cap-in = (T.I (at its b).label (at its (parent_of its c)).label ≡ true) × Infects T (at its b).label (at its (parent_of its c)).label
  Ruled cap-out = (T.I (container its b) (at its (parent_of its c)).label ≡ true) × Infects T (at its b).label (at its (parent_of its c)).label
  Ruled cap-open = RowInside T (at its b).label (container its c) × Infects T (at its b).label (container its c)

  pub ruled : (k : Capability) → Done permit k its c b → Ruled k
  unfolding ready
  ruled cap-in d = let q = parent_of its c in (holds.fits c).rules cap-in d.cap (at its q).label (at its b).label (container its q)
      (small wf _ (in-holder wf d)) (small wf b d.amb) (container-small wf q) d.right
      (rw (nearest-amb wf q (in-holder wf d)) at ((holds.fits c).nest (cap-nested _ cap-in d.cap)))
      ((holds.fits q).nest (amb-nested _ (in-holder wf d)))
      (rw (in-beside wf d) at ((holds.fits b).nest (amb-nested _ d.amb)))
      (rw d.name at ((holds.fits b).names d.amb))
  ruled cap-out d = let q = parent_of its c in (holds.fits c).rules cap-out d.cap (at its q).label (at its b).label (container its b)
      (small wf _ (out-holder wf d)) (small wf b d.amb) (container-small wf b) d.right
      (rw (nearest-amb wf q (out-holder wf d)) at ((holds.fits c).nest (cap-nested _ cap-out d.cap)))
      (rw (ap (nearest its) (sym (out-above wf d)) ∙ nearest-amb wf b d.amb) at ((holds.fits q).nest (amb-nested _ (out-holder wf d))))
      ((holds.fits b).nest (amb-nested _ d.amb))
      (rw d.name at ((holds.fits b).names d.amb))
  ruled cap-open d = (holds.fits c).rules cap-open d.cap (at its b).label (container its c)
      (small wf b d.amb) (container-small wf c) (rw (ambients-nearest wf (parent_of its c) d.is_ready) d.right)
      ((holds.fits c).nest (cap-nested _ cap-open d.cap))
      (rw (open-beside wf d) at ((holds.fits b).nest (amb-nested _ d.amb)))
      (rw d.name at ((holds.fits b).names d.amb))

  nesting-gives : (k : Capability) → Done permit k its c b → Gives nesting (Sub T.I) (λ x l. T.I x l ≡ true) k its c b
  nesting-gives cap-in d = (
    rw (nearest-amb wf b d.amb) (ruled cap-in d).0,
    rw (labelled-amb _ (container its (parent_of its c)) (in-holder wf d), labelled-amb _ (nearest its b) (in-holder wf d)) (λ k m p. p),
  )
  nesting-gives cap-out d = (
    (ruled cap-out d).0,
    rw (labelled-amb _ (container its (parent_of its c)) (out-holder wf d), labelled-amb _ (container its b) (out-holder wf d)) (λ k m p. p),
  )
  nesting-gives cap-open d = rw (nearest-amb wf b d.amb, open-beside wf d) (ruled cap-open d).0

  pub move-holds : (k : Capability) → Done permit k its c b → Holds permit policy (move k its c b) T
  unfolding is_ambient
  move-holds k d = record {
    fits = λ i. record {
      nest = (move-moved (nestings T.I) (nesting-mono T.I) wf (λ j n. (holds.fits j).nest n) k d (nesting-gives k d)).nest i;
      names = λ h. move-each wf (λ x l n. eqb x 1 ≡ true → T.H l n ≡ true) (λ j _. (holds.fits j).names) k d i (amb-alive _ i h) h;
      rules = λ j h. move-each wf (λ x l n. (e : Capability) → capability x ≡ Some e → Rule permit T e l n) (λ x _. (holds.fits x).rules) k d i (cap-alive _ i j h) j h;
    };
    high = holds.high;
  }
