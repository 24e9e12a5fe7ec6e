-- Two well-formed itineraries, one behind the other: parents stay within their itinerary, so that a climb never leaves it. The
-- whole is well-formed, and a view that reads neither a record's number nor its parent's finds there what it finds in the one alone.
use Rattle.std.specs.Prelude.{◌≤◌, ℕ, length, List, [], ◌≢◌, ◌≡◌, refl}
use Rattle.std.proofs.Common.{◌∙◌, ap, sym}
use Rattle.std.proofs.Math.Bool.{true}
use Rattle.joins.specs.Behind.{Side, at-first, at-second, both, first, gone-behind, parent-first, parent-second, same-first, same-second, second, shifted-not, shifted-root, side}
use Rattle.model.specs.Climbing.{View, view}
use Rattle.model.specs.Joins.{behind, shifted}
use Rattle.model.specs.Finite.{tabulate}
use Rattle.model.specs.Records.{at, count, gone, parent_of, records}
use Rattle.model.specs.Refusals.{and_then, each_of, need}
use Rattle.model.specs.Validity.{form, shape, size_right, validity}
use Rattle.model.specs.declared.Rec.{Rec}
use Rattle.model.proofs.Laws.Bytes.{valid-wf}
use Rattle.model.proofs.Laws.Forest.{Depth, root, under, under_of}
use Rattle.model.proofs.Laws.Views.{fold-carry, fold-come, view_laws, view-on}
use Rattle.model.proofs.Laws.WellFormed.{Alive, SameBut, WellFormed, alive-in, parent_in, same_shape}

-- no records at all
pub none-wf : WellFormed []
unfolding validity form size_right count records tabulate each_of need and_then
none-wf = valid-wf [] refl

module _ {xs ys : List Rec} (wx : WellFormed xs) (wy : WellFormed ys) where
  abbrev whole : List Rec
  whole = both xs ys

  abbrev there : ℕ → ℕ
  there = shifted (length xs)

  depth-first : {i d : ℕ} → i ≤ length xs → Depth (parent_of xs) i d → Depth (parent_of whole) i d
  depth-first l root = root
  depth-first l (under {i = i} h r) = under_of h (parent-first xs ys i l) (depth-first (parent_in wx i) r)

  depth-second : {i d : ℕ} → Depth (parent_of ys) i d → Depth (parent_of whole) (there i) d
  depth-second root = rw (shifted-root (length xs)) root
  depth-second (under {i = i} h r) = under_of (shifted-not _ i h) (parent-second xs ys i) (depth-second r)

  alive-first : (i : ℕ) → Alive xs i → Alive whole i
  alive-first i h = rw (at-first xs ys i (alive-in xs i h)) h

  alive-second : (i : ℕ) → Alive ys i → Alive whole (there i)
  alive-second i h = rw (same-second xs ys i).kind h

  whole-parents : (i : ℕ) → Side (length xs) i → parent_of whole i ≢ 0 → Alive whole (parent_of whole i)
  whole-parents i (first l) n = let e = parent-first xs ys i l in rw e (alive-first _ (wx.parents i (rw e at n)))
  whole-parents i (second k z q) n =
      let e : parent_of whole i ≡ there (parent_of ys k) = ap (parent_of whole) q ∙ parent-second xs ys k in
      rw e (alive-second _ (wy.parents k (λ u. n (e ∙ ap there u ∙ shifted-root (length xs)))))

  whole-gones : (i : ℕ) → Side (length xs) i → (at whole i).kind ≡ 0 → at whole i ≡ gone
  whole-gones i (first l) h = at-first xs ys i l ∙ wx.gones i (sym (same-first xs ys i l).kind ∙ h)
  whole-gones i (second k z q) h =
      let g : at ys k ≡ gone = wy.gones k (sym (same-second xs ys k).kind ∙ (rw q at h)) in
      ap (at whole) q ∙ at-second xs ys k ∙ ap (behind (length xs)) g ∙ gone-behind (length xs)

  whole-shaped : (i : ℕ) → Side (length xs) i → shape (at whole i) ≡ true
  whole-shaped i (first l) = same_shape (same-first xs ys i l) ∙ wx.shaped i
  whole-shaped i (second k z q) = ap (λ j. shape (at whole j)) q ∙ same_shape (same-second xs ys k) ∙ wy.shaped k

  whole-reach : (i : ℕ) → Side (length xs) i → (d : ℕ) × Depth (parent_of whole) i d
  whole-reach i (first l) = let w = wx.reach i in (w.0, depth-first l w.1)
  whole-reach i (second k z q) = let w = wy.reach k in (w.0, rw q (depth-second w.1))

  pub both-wf : WellFormed whole
  both-wf = record {
    parents = λ i. whole-parents i (side (length xs) i);
    gones = λ i. whole-gones i (side (length xs) i);
    shaped = λ i. whole-shaped i (side (length xs) i);
    reach = λ i. whole-reach i (side (length xs) i);
  }

  -- what is found by climbing
  module _ {A : Type 0} (v : View A) (blind : (i j : ℕ) (r r' : Rec) → SameBut r r' → (x : A) → v.make i r' x ≡ v.make j r x) where
    pub view-first : (i : ℕ) → i ≤ length xs → view v whole i ≡ view v xs i
    view-first i l = fold-carry ◌≡◌ refl (view_laws v both-wf) (view_laws v wx) (λ j. j ≤ length xs) (λ j _ _. parent_in wx j)
        (λ j m z e. ap (λ k. v.make j (at whole j) (view v whole k)) (parent-first xs ys j m) ∙ ap (v.make j (at whole j)) e ∙ blind j j _ _ (same-first xs ys j m) _) l (wx.reach i).1

    pub view-second : (i : ℕ) → view v whole (there i) ≡ view v ys i
    view-second i = fold-come ◌≡◌ there (shifted-root (length xs)) refl (view_laws v both-wf) (view_laws v wy) (λ j. Unit {0}) (λ _ _ _. tt)
        (λ j _ z e. view-on v both-wf (there j) (shifted-not _ j z)
        ∙ ap (λ k. v.make (there j) (at whole (there j)) (view v whole k)) (parent-second xs ys j)
        ∙ ap (v.make (there j) (at whole (there j))) e ∙ blind (there j) j _ _ (same-second xs ys j) _) tt (wy.reach i).1
