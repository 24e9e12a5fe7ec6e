-- The lettered examples A to H, proved about the definitions that the contracts cite: for each the bits of its least
-- table, each of which a record or a rule forces.
use Rattle.std.specs.Prelude.{◌/◌, ℕ, eqb, length, replicate, ◌&&◌, false, true, List, [], ◌∷◌, ◌≡◌, refl}
use borrow.Author.Tests.{leb-true, ne_eqb}
use Rattle.std.proofs.Math.Dec.{leb}
use Rattle.std.specs.Bool.{beq}
use Rattle.std.proofs.Common.{ap, arith, le-leb}
use Rattle.examples.specs.Claims.{Meets, all_low, classes, examples, is_in, itinerary_a, itinerary_b, itinerary_c, itinerary_d, itinerary_e, itinerary_f, itinerary_g, right_g, script_b, text_b, writes}
use Rattle.examples.specs.Listed.{Listed, all_below, computing, listed-makes, listed-screen, listed-suspects}
use Rattle.model.specs.Calls.{screen_answers, validate_answer}
use Rattle.model.specs.Finite.{Each, every}
use Rattle.model.proofs.Laws.Booleans.{and_left, and_right}
use Rattle.model.specs.Listing.{hubscreen, listing, written}
use Rattle.model.specs.Records.{is_ambient, nested}
use Rattle.model.specs.Refusals.{refused}
use Rattle.model.specs.Scripts.{steps_in}
use Rattle.model.specs.Tables.{place_h, place_i, place_s}
use Rattle.model.specs.Validity.{label_by, label_right, name_by, name_right}
use Rattle.model.specs.declared.Verdict.TheVariants.{Exposed, Hinted, Sealed}
use Rattle.model.specs.declared.Capability.TheVariants.{In as cap-in, Open as cap-open, Out as cap-out}

unfoldable pub bits_a : List ℕ
unfolding computing
bits_a = place_i 0 1 ∷ place_i 1 2 ∷ place_h 1 0 ∷ place_h 2 1 ∷ place_s 2 ∷ []

listed_a : Listed itinerary_a classes bits_a 5 Sealed
unfolding computing all_below bits_a
listed_a = record {
  valid = refl;
  policy-right = refl;
  small = refl;
  holding = refl;
  forced = λ u h.
      ((h.fits 1).nest refl, ((h.fits 2).nest refl, ((h.fits 1).names refl, ((h.fits 2).names refl, (h.high 2 (omega arith) refl, tt)))));
  counted = refl;
  judged = refl;
}

unfoldable pub bits_b : List ℕ
unfolding computing
bits_b = place_i 0 1 ∷ place_i 1 2 ∷ place_h 1 0 ∷ place_h 2 1 ∷ place_s 2 ∷ place_i 2 64 ∷ place_i 0 2 ∷ []

listed_b : Listed itinerary_b classes bits_b 7 (Exposed 2)
unfolding computing all_below bits_b
listed_b = record {
  valid = refl;
  policy-right = refl;
  small = refl;
  holding = refl;
  forced = λ u h.
      ((h.fits 1).nest refl, ((h.fits 2).nest refl, ((h.fits 1).names refl, ((h.fits 2).names refl, (h.high 2 (omega arith) refl, ((h.fits 3).nest refl, (((h.fits 3).rules cap-out refl 2 1 0 (omega arith) (omega arith) (omega arith) refl ((h.fits 3).nest refl) ((h.fits 2).nest refl) ((h.fits 1).nest refl) ((h.fits 1).names refl)).0, tt)))))));
  counted = refl;
  judged = refl;
}

unfoldable pub bits_c : List ℕ
unfolding computing
bits_c = place_i 0 1 ∷ place_i 1 2 ∷ place_h 1 0 ∷ place_h 2 1 ∷ place_s 2 ∷ place_i 1 64 ∷ place_i 1 3 ∷ place_h 3 2 ∷ place_i 3 65 ∷ place_s 1 ∷ place_i 0 3 ∷ place_s 3 ∷ []

listed_c : Listed itinerary_c classes bits_c 12 (Hinted 1)
unfolding computing all_below bits_c
listed_c = record {
  valid = refl;
  policy-right = refl;
  small = refl;
  holding = refl;
  forced = λ u h.
      let s1 = ((h.fits 3).rules cap-open refl 2 1 (omega arith) (omega arith) refl ((h.fits 3).nest refl) ((h.fits 2).nest refl) ((h.fits 2).names refl)).1 (h.high 2 (omega arith) refl) in
      let o3 = (h.fits 5).rules cap-out refl 3 1 0 (omega arith) (omega arith) (omega arith) refl ((h.fits 5).nest refl) ((h.fits 4).nest refl) ((h.fits 1).nest refl) ((h.fits 1).names refl) in
      ((h.fits 1).nest refl, ((h.fits 2).nest refl, ((h.fits 1).names refl, ((h.fits 2).names refl, (h.high 2 (omega arith) refl, ((h.fits 3).nest refl, ((h.fits 4).nest refl, ((h.fits 4).names refl, ((h.fits 5).nest refl, (s1, (o3.0, (o3.1 s1, tt))))))))))));
  counted = refl;
  judged = refl;
}

unfoldable pub bits_d : List ℕ
unfolding computing
bits_d = place_i 0 1 ∷ place_i 1 2 ∷ place_h 1 0 ∷ place_h 2 1 ∷ place_s 2 ∷ place_i 2 64 ∷ place_i 1 3 ∷ place_h 3 2 ∷ place_i 3 2 ∷ []

listed_d : Listed itinerary_d classes bits_d 9 Sealed
unfolding computing all_below bits_d
listed_d = record {
  valid = refl;
  policy-right = refl;
  small = refl;
  holding = refl;
  forced = λ u h.
      ((h.fits 1).nest refl, ((h.fits 2).nest refl, ((h.fits 1).names refl, ((h.fits 2).names refl, (h.high 2 (omega arith) refl, ((h.fits 3).nest refl, ((h.fits 4).nest refl, ((h.fits 4).names refl, (((h.fits 3).rules cap-in refl 2 3 1 (omega arith) (omega arith) (omega arith) refl ((h.fits 3).nest refl) ((h.fits 2).nest refl) ((h.fits 4).nest refl) ((h.fits 4).names refl)).0, tt)))))))));
  counted = refl;
  judged = refl;
}

unfoldable pub bits_e : List ℕ
unfolding computing
bits_e = place_i 0 1 ∷ place_h 1 0 ∷ place_i 1 64 ∷ place_i 1 1 ∷ []

listed_e : Listed itinerary_e all_low bits_e 4 Sealed
unfolding computing all_below bits_e
listed_e = record {
  valid = refl;
  policy-right = refl;
  small = refl;
  holding = refl;
  forced = λ u h.
      ((h.fits 1).nest refl, ((h.fits 1).names refl, ((h.fits 2).nest refl, (((h.fits 2).rules cap-in refl 1 1 0 (omega arith) (omega arith) (omega arith) refl ((h.fits 2).nest refl) ((h.fits 1).nest refl) ((h.fits 1).nest refl) ((h.fits 1).names refl)).0, tt))));
  counted = refl;
  judged = refl;
}

unfoldable pub bits_f : List ℕ
unfolding computing
bits_f = place_s 2 ∷ []

listed_f : Listed itinerary_f classes bits_f 1 Sealed
unfolding computing all_below bits_f
listed_f = record {
  valid = refl;
  policy-right = refl;
  small = refl;
  holding = refl;
  forced = λ u h.
      (h.high 2 (omega arith) refl, tt);
  counted = refl;
  judged = refl;
}

suspects-C : every 64 (λ k. true) (λ k. beq (is_in bits_c (place_s k)) (is_in (1 ∷ 2 ∷ 3 ∷ []) k)) ≡ true
unfolding computing bits_c
suspects-C = refl

suspects-F : every 64 (λ k. true) (λ k. beq (is_in bits_f (place_s k)) (is_in (2 ∷ []) k)) ≡ true
unfolding computing bits_f
suspects-F = refl

-- case B's listing
writes-B : Meets (writes itinerary_b classes script_b text_b)
unfolding Meets hubscreen written computing script_b text_b
writes-B =
    ap (λ a. listing a (steps_in script_b) (screen_answers itinerary_b classes script_b (replicate (length script_b / 4) 0)))
    (listed-screen listed_b script_b (replicate (length script_b / 4) 0) refl)

-- G's one record: its kind, label and name pass, and its parent decides
module _ (kind label name : ℕ) (h : right_g kind label name ≡ true) where
  kind-some : eqb kind 0 ≡ false
  unfolding right_g nested
  kind-some = ne_eqb kind 0 (λ e. omega (arith, leb-true 1 kind (and_left _ _ (and_left _ _ h)), e))

  kind-most : leb kind 5 ≡ true
  unfolding right_g nested
  kind-most = le-leb kind 5 (omega (arith, leb-true kind 4 (and_right (leb 1 kind) _ (and_left _ _ h))))

  label-right : label_by (leb 1 kind && leb kind 4) (eqb kind 1) label ≡ true
  unfolding right_g nested label_right is_ambient
  label-right = and_left _ _ (and_right (leb 1 kind && leb kind 4) _ h)

  name-right : name_by (leb 1 kind && leb kind 4) name ≡ true
  unfolding right_g nested name_right label_right is_ambient
  name-right = and_right (label_by (leb 1 kind && leb kind 4) (eqb kind 1) label) _ (and_right (leb 1 kind && leb kind 4) _ h)

  refuses-six : validate_answer (itinerary_g kind label name 1) ≡ refused 6 1
  unfolding computing
  refuses-six = rw (label-right, name-right, kind-most, kind-some)

  refuses-five : validate_answer (itinerary_g kind label name 2) ≡ refused 5 1
  unfolding computing
  refuses-five = rw (label-right, name-right, kind-most, kind-some)

-- a proof and the rest
infixr 4 ◌also◌
◌also◌ : {A B : Type 0} → A → B → A × B
a also b = (a, b)

-- A to H
pub all-examples : Each Meets examples
unfolding computing Meets examples
all-examples =
    listed-makes listed_a
    also listed-makes listed_b
    also (refl, refl)
    also writes-B
    also listed-makes listed_c
    also listed-suspects listed_c (1 ∷ 2 ∷ 3 ∷ []) suspects-C
    also listed-makes listed_d
    also (refl, refl)
    also listed-makes listed_e
    also (refl, refl)
    also listed-makes listed_f
    also listed-suspects listed_f (2 ∷ []) suspects-F
    also refuses-six
    also refuses-five
    also (refl, refl)
    also (refl, refl)
    also tt
