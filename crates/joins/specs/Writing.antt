-- A join is written record by record and member by member: what is left of it is put where what is written ends.
use Rattle.std.specs.Prelude.{◌*◌, ◌+◌, ◌-◌, ◌<◌, ◌≤◌, suc, ℕ, drop, get_or, leb, length, map, true, List, [], ◌++◌, ◌∷◌, ◌≡◌, refl}
use Rattle.std.proofs.Common.{add-one, drop_of_length-le, eqb-true, ◌∙◌, ap, sym, arith}
use Rattle.std.proofs.Math.ListN.{get_or-map}
use Rattle.std.proofs.Math.Seq.{drop-cons}
use Rattle.std.proofs.lemmas.List.{length-map}
use mathlib.Core.List.{append-nil}
use Rattle.joins.specs.Behind.{gone-behind}
use Rattle.joins.specs.Sequence.{set-few}
use Rattle.model.specs.Finite.{over}
use Rattle.model.specs.Joins.{behind, join, join_bytes, join_from, set_right, shifted}
use Rattle.model.specs.Records.{at, count, decode, encode, gone, parent_of, records}
use Rattle.model.specs.Refusals.{pass}
use Rattle.model.specs.Steps.{to}
use Rattle.model.specs.Validity.{validity}
use Rattle.model.specs.declared.Rec.{Rec}
use Rattle.model.proofs.Laws.Booleans.{and_right}
use Rattle.model.proofs.Laws.Bytes.{at-decode, length-encode, length-records, valid-few, valid-wf}
use Rattle.model.proofs.Laws.WellFormed.{parent_in}
use Rattle.records.specs.Written.{encode-append, with_record}
use Rattle.text_put.specs.Laws.{put-over, putting-end, putting-on, putting-room, putting-start}
use Rattle.text_put.specs.Puts.{Put, Putting, splice}

-- what is left of the members behind the first k
pub members-next : (members : List (List ℕ)) (k : ℕ) {s : List ℕ} → s ≡ get_or members k s → k < length members → drop k members ≡ s ∷ drop (k + 1) members
members-next members k {s} e l = drop-cons members k s l ∙ ap (λ x. x ∷ drop (suc k) members) (sym e) ∙ ap (λ j. s ∷ drop j members) (sym (add-one k))

pub members-end : (members : List (List ℕ)) (k : ℕ) → length members ≤ k → drop k members ≡ []
members-end members k l = drop_of_length-le members l

-- a record put at its place
pub record-put : {t t' : List ℕ} {j : ℕ} (r : Rec) (k m : ℕ) → t' ≡ with_record t j r → j ≡ k + 1 → m ≡ k + 1 → Put t (8 * k) (encode (r ∷ [])) t' (8 * m)
unfolding with_record splice encode
record-put {t} r k m e f g =
    let a : 8 * (k + 1 - 1) ≡ 8 * k = omega arith in
    let b : 8 * (k + 1) ≡ 8 * k + 8 = omega arith in
    rw (e, f, g, a, b) (record { end = refl; bytes = refl })

-- one record of a member less is left
module _ (s : List ℕ) (n i : ℕ) (l : i < count s) where
  record-behind : (r x : Rec) → r ≡ decode s (i + 1) → x ≡ to (shifted n r.parent) r → get_or (map (behind n) (records s)) i gone ≡ x
  unfolding at behind
  record-behind r x e f =
      ap (get_or (map (behind n) (records s)) i) (sym (gone-behind n))
      ∙ get_or-map (behind n) (records s) i gone
      ∙ ap (behind n) (at-decode s (suc i) l ∙ ap (decode s) (sym (add-one i)) ∙ sym e)
      ∙ sym f

  pub member-next : (r x : Rec) → r ≡ decode s (i + 1) → x ≡ to (shifted n r.parent) r →
      encode (drop i (map (behind n) (records s))) ≡ encode (x ∷ []) ++ encode (drop (i + 1) (map (behind n) (records s)))
  unfolding encode
  member-next r x e f =
      ap encode (drop-cons (map (behind n) (records s)) i gone (omega (arith, length-map (records s) (behind n), length-records s)))
      ∙ ap (λ y. encode (y ∷ drop (suc i) (map (behind n) (records s)))) (record-behind r x e f)
      ∙ ap (λ k. encode (x ∷ drop k (map (behind n) (records s)))) (sym (add-one i))

  -- a parent's number behind others fits 16 bits
  pub behind-fits : validity s ≡ pass → n ≤ 1024 → (r : Rec) → r ≡ decode s (i + 1) → n + r.parent < 65536
  unfolding count
  behind-fits v m r e =
      let f : r.parent ≡ parent_of (records s) (i + 1) = ap (λ x. x.parent) (e ∙ sym (at-decode s (i + 1) (omega (arith, l)))) in
      omega (arith, f, parent_in (valid-wf s v) (i + 1), length-records s, valid-few s v)

pub member-end : (s : List ℕ) (n i : ℕ) → i ≡ count s → encode (drop i (map (behind n) (records s))) ≡ []
unfolding encode
member-end s n i e = ap encode (drop_of_length-le (map (behind n) (records s)) (omega (arith, e, length-map (records s) (behind n), length-records s)))

-- how many bytes a member's records are
pub member-length : (s : List ℕ) (n : ℕ) → length (encode (map (behind n) (records s))) ≡ 8 * count s
member-length s n = length-encode (map (behind n) (records s)) ∙ ap (λ k. 8 * k) (length-map (records s) (behind n) ∙ length-records s)

-- the joined bytes, member by member: n records stand in t, and the rest of the members is left
pub record Joining (t₀ : List ℕ) (members : List (List ℕ)) (t : List ℕ) (n : ℕ) (rest : List (List ℕ)) : Type 0 where
  pub putting : Putting t₀ 0 (join_bytes members) t (8 * n) (encode (join_from n rest))

module _ (members : List (List ℕ)) (t₀ : List ℕ) (h : set_right members t₀ ≡ true) where
  sized : length t₀ ≡ length (join_bytes members)
  unfolding set_right join_bytes
  sized = eqb-true _ _ (and_right (leb (length (join members)) 1024) _ h) ∙ sym (length-encode (join members))

  pub short : length t₀ ≤ 8192
  unfolding join_bytes
  short = omega (arith, sized, set-few members t₀ h, length-encode (join members))

  pub joining-start : Joining t₀ members t₀ 0 members
  unfolding join_bytes join
  joining-start = record { putting = putting-start t₀ 0 (join_bytes members) (omega (arith, sized)) }

  module _ {t : List ℕ} {n : ℕ} (s : List ℕ) (ss : List (List ℕ)) (j : Joining t₀ members t n (s ∷ ss)) where
    split : encode (join_from n (s ∷ ss)) ≡ encode (map (behind n) (records s)) ++ encode (join_from (n + count s) ss)
    unfolding join_from
    split = encode-append (map (behind n) (records s)) (join_from (n + count s) ss)

    pub joining-room : 8 * (n + count s) ≤ length t
    joining-room = omega (arith, putting-room (encode (map (behind n) (records s))) (encode (join_from (n + count s) ss)) j.putting split, member-length s n)

    pub joining-short : length t ≤ 8192
    joining-short = omega (arith, short, j.putting.sized)

    pub joining-next : (t' : List ℕ) (m : ℕ) → length t' ≡ length t → Put t (8 * n) (encode (map (behind n) (records s))) t' (8 * m) → Joining t₀ members t' m ss
    joining-next t' m k y =
        let e : m ≡ n + count s = omega (arith, y.end, member-length s n) in
        record { putting = putting-on j.putting (split ∙ ap (λ x. encode (map (behind n) (records s)) ++ encode (join_from x ss)) (sym e)) k y }

  pub joining-end : {t : List ℕ} {n : ℕ} {rest : List (List ℕ)} → Joining t₀ members t n rest → rest ≡ [] → t ≡ join_bytes members
  unfolding join_from encode over
  joining-end {n = n} j e =
      let w = put-over (putting-end j.putting (ap (λ ss. encode (join_from n ss)) e)) in
      w.1 ∙ ap (λ x. join_bytes members ++ x) (drop_of_length-le t₀ (omega (arith, sized))) ∙ append-nil (join_bytes members)
