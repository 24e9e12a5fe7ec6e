-- Bytes that are written record by record.
use Prim.Native.Nat.{◌%◌, ◌*◌, ◌+◌, ◌-◌, ◌/◌, ◌<◌, ◌≤◌, suc, zero, ℕ}
use Rattle.std.proofs.Math.ListN.{drop, length, length-append, length-drop, take}
use Rattle.std.proofs.Common.{drop_of_length-le, take-append-drop, ext_get_or, get_or-take, length-take-le, take_all, take_at, take-suc, ◌∙◌, add-one}
use Rattle.std.specs.Prelude.{set, ◌≡◌, refl}
use Rattle.std.proofs.Math.Seq.{drop-append-add, drop-drop, get_or-append-add, get_or-drop}
use Rattle.std.proofs.lemmas.List.{set-append_right, set_split}
use Rattle.std.proofs.lemmas.List.Edits.{sets-eq}
use mathlib.Core.List.{List, [], ◌++◌, ◌∷◌, append_assoc, append-nil}
use Rattle.std.proofs.Math.Path.{ap, sym}
use native.Mathlib.Omega.{arith}
use Rattle.model.proofs.Laws.Bytes.{back, byte_in, byte-encode, valid-passed, at-decode, length-encode, length-records, rec-path}
use Rattle.model.proofs.Laws.Updates.{at-update, length-update}
use Rattle.model.specs.Records.{at, byte, byte_of, count, decode, encode, gone, records, update}
use Rattle.model.specs.Refusals.{pass}
use Rattle.model.specs.Steps.{to}
use Rattle.model.specs.Validity.{validity}
use Rattle.model.specs.declared.Rec.{Rec}

-- the bytes with record i replaced
unfoldable pub with_record : List ℕ → ℕ → Rec → List ℕ
with_record s i r = take (8 * (i - 1)) s ++ (encode (r ∷ []) ++ drop (8 * i) s)

-- the first i of the records its, and then the bytes s
unfoldable pub written : List Rec → ℕ → List ℕ → List ℕ
written its i s = encode (take i its) ++ drop (8 * i) s

-- eight stores from k on
stores_at : (s : List ℕ) (k a b c d e f g h : ℕ) → k + 8 ≤ length s →
    set (set (set (set (set (set (set (set s k a) (k + 1) b) (k + 2) c) (k + 3) d) (k + 4) e) (k + 5) f) (k + 6) g) (k + 7) h
    ≡ take k s ++ ((a ∷ b ∷ c ∷ d ∷ e ∷ f ∷ g ∷ h ∷ []) ++ drop (k + 8) s)
stores_at s k a b c d e f g h l =
    let e₁ : k + 1 ≡ suc k = omega arith in
    let e₂ : k + 2 ≡ suc (suc k) = omega arith in
    let e₃ : k + 3 ≡ suc (suc (suc k)) = omega arith in
    let e₄ : k + 4 ≡ suc (suc (suc (suc k))) = omega arith in
    let e₅ : k + 5 ≡ suc (suc (suc (suc (suc k)))) = omega arith in
    let e₆ : k + 6 ≡ suc (suc (suc (suc (suc (suc k))))) = omega arith in
    let e₇ : k + 7 ≡ suc (suc (suc (suc (suc (suc (suc k)))))) = omega arith in
    let vs : List ℕ = a ∷ b ∷ c ∷ d ∷ e ∷ f ∷ g ∷ h ∷ [] in
    rw (e₁, e₂, e₃, e₄, e₅, e₆, e₇) (sets-eq vs s k l ∙ append_assoc (take k s) vs (drop (k + 8) s))

-- the eight stores of a record
pub stores : (s : List ℕ) (i : ℕ) (r : Rec) → 1 ≤ i → 8 * i ≤ length s →
    set (set (set (set (set (set (set (set s (8 * (i - 1)) r.kind) (8 * (i - 1) + 1) r.label) (8 * (i - 1) + 2) r.name) (8 * (i - 1) + 3) 0)
    (8 * (i - 1) + 4) (r.parent % 256)) (8 * (i - 1) + 5) (r.parent / 256)) (8 * (i - 1) + 6) (r.client % 256)) (8 * (i - 1) + 7) (r.client / 256) ≡ with_record s i r
unfolding with_record encode
stores s i r l h =
    let e : 8 * (i - 1) + 8 ≡ 8 * i = omega arith in
    stores_at s (8 * (i - 1)) _ _ _ _ _ _ _ _ (omega arith) ∙ ap (λ k. take (8 * (i - 1)) s ++ (encode (r ∷ []) ++ drop k s)) e

-- the two stores of a parent, over a record that is whole
two-stores : (a rest : List ℕ) (n k l m z p q x y : ℕ) → length a ≡ n → set (set (a ++ (k ∷ l ∷ m ∷ z ∷ p ∷ q ∷ rest)) (n + 4) x) (n + 5) y ≡ a ++ (k ∷ l ∷ m ∷ z ∷ x ∷ y ∷ rest)
two-stores a rest n k l m z p q x y e =
    let four : n + 4 - n ≡ 4 = omega arith in
    let five : n + 5 - n ≡ 5 = omega arith in
    ap (λ t. set t (n + 5) y) (set-append_right a (k ∷ l ∷ m ∷ z ∷ p ∷ q ∷ rest) n (n + 4) x e (omega arith) ∙ ap (λ i. a ++ set (k ∷ l ∷ m ∷ z ∷ p ∷ q ∷ rest) i x) four)
    ∙ set-append_right a (k ∷ l ∷ m ∷ z ∷ x ∷ q ∷ rest) n (n + 5) y e (omega arith) ∙ ap (λ i. a ++ set (k ∷ l ∷ m ∷ z ∷ x ∷ q ∷ rest) i y) five

pub parent-stores : (s : List ℕ) (i q : ℕ) (r : Rec) → 1 ≤ i → 8 * i ≤ length s → with_record s i r ≡ s →
    set (set s (8 * (i - 1) + 4) (q % 256)) (8 * (i - 1) + 5) (q / 256) ≡ with_record s i (to q r)
unfolding with_record encode
parent-stores s i q r l h e =
    ap (λ t. set (set t (8 * (i - 1) + 4) (q % 256)) (8 * (i - 1) + 5) (q / 256)) (sym e)
    ∙ two-stores (take (8 * (i - 1)) s) _ (8 * (i - 1)) _ _ _ _ _ _ _ _ (length-take-le (8 * (i - 1)) s (omega arith))

pub encode-append : (a b : List Rec) → encode (a ++ b) ≡ encode a ++ encode b
unfolding encode
encode-append [] b = refl
encode-append (r ∷ a) b = ap (λ l. r.kind ∷ r.label ∷ r.name ∷ 0 ∷ r.parent % 256 ∷ r.parent / 256 ∷ r.client % 256 ∷ r.client / 256 ∷ l) (encode-append a b)

-- parts of records, and one replaced
pub drop-bytes : (k : ℕ) (its : List Rec) → drop (8 * k) (encode its) ≡ encode (drop k its)
unfolding encode
drop-bytes zero its = refl
drop-bytes (suc k) [] = drop_of_length-le [] (omega arith)
drop-bytes (suc k) (r ∷ its) =
    let e : 8 * suc k ≡ suc (suc (suc (suc (suc (suc (suc (suc (8 * k)))))))) = omega arith in
    ap (λ j. drop j (encode (r ∷ its))) e ∙ drop-bytes k its

take-bytes : (k : ℕ) (its : List Rec) → take (8 * k) (encode its) ≡ encode (take k its)
unfolding encode
take-bytes zero its = refl
take-bytes (suc k) [] = take_all (8 * suc k) [] (omega arith)
take-bytes (suc k) (r ∷ its) =
    let e : 8 * suc k ≡ suc (suc (suc (suc (suc (suc (suc (suc (8 * k)))))))) = omega arith in
    ap (λ j. take j (encode (r ∷ its))) e
    ∙ ap (λ l. r.kind ∷ r.label ∷ r.name ∷ 0 ∷ r.parent % 256 ∷ r.parent / 256 ∷ r.client % 256 ∷ r.client / 256 ∷ l) (take-bytes k its)

pub record-set : (its : List Rec) (k : ℕ) (v : Rec) → k < length its → with_record (encode its) (k + 1) v ≡ encode (set its k v)
unfolding with_record
record-set its k v l =
    let a : 8 * (k + 1 - 1) ≡ 8 * k = omega arith in
    let b : k + 1 ≡ suc k = omega arith in
    ap (λ j. take j (encode its) ++ (encode (v ∷ []) ++ drop (8 * (k + 1)) (encode its))) a
    ∙ ap (λ x. x ++ (encode (v ∷ []) ++ drop (8 * (k + 1)) (encode its))) (take-bytes k its)
    ∙ ap (λ j. encode (take k its) ++ (encode (v ∷ []) ++ drop (8 * j) (encode its))) b
    ∙ ap (λ x. encode (take k its) ++ (encode (v ∷ []) ++ x)) (drop-bytes (suc k) its)
    ∙ ap (λ x. encode (take k its) ++ x) (sym (encode-append (v ∷ []) (drop (suc k) its)))
    ∙ sym (encode-append (take k its) (v ∷ drop (suc k) its)) ∙ ap encode (sym (set_split its k v l))

pub written_none : (its : List Rec) (s : List ℕ) → s ≡ written its 0 s
unfolding written encode
written_none its s = refl

module _ (its : List Rec) (s : List ℕ) where
  head-length : (i : ℕ) → i ≤ length its → length (encode (take i its)) ≡ 8 * i
  head-length i l = length-encode (take i its) ∙ ap (λ k. 8 * k) (length-take-le i its l)

  pub written-length : (i : ℕ) → i ≤ length its → 8 * i ≤ length s → length (written its i s) ≡ length s
  unfolding written
  written-length i l m = length-append (encode (take i its)) (drop (8 * i) s) ∙ omega (arith, head-length i l, length-drop (8 * i) s)

  -- what is not yet written is as before
  pub byte_past : (i k : ℕ) → i ≤ length its → byte (written its i s) (8 * i + k) ≡ byte s (8 * i + k)
  unfolding written
  byte_past i k l =
      ap (λ n. byte (encode (take i its) ++ drop (8 * i) s) (n + k)) (sym (head-length i l))
      ∙ get_or-append-add (encode (take i its)) (drop (8 * i) s) k 0 ∙ get_or-drop (8 * i) s k 0

  pub written_read : (i : ℕ) → i ≤ length its → decode (written its i s) (i + 1) ≡ decode s (i + 1)
  unfolding decode byte_of
  written_read i l = let e : i + 1 ≡ suc i = omega arith in
      rw e (rec-path _ _ (byte_past i 0 l) (byte_past i 1 l) (byte_past i 2 l) (rw (byte_past i 4 l, byte_past i 5 l)) (rw (byte_past i 6 l, byte_past i 7 l)))

  pub written_next : (i : ℕ) (t : List ℕ) (r : Rec) → i < length its → t ≡ written its i s → r ≡ at its (i + 1) → with_record t (i + 1) r ≡ written its (i + 1) s
  unfolding with_record written at
  written_next i t r l e q =
      let E = encode (take i its) in
      let u : length (encode (take i its)) ≡ 8 * (i + 1 - 1) = head-length i (omega arith) ∙ omega arith in
      let v : 8 * (i + 1) ≡ length (encode (take i its)) + 8 = omega (arith, head-length i (omega arith)) in
      let w : 8 * i + 8 ≡ 8 * (i + 1) = omega arith in
      let z : i + 1 ≡ suc i = omega arith in
      ap (λ x. with_record x (i + 1) r) e
      ∙ ap (λ x. x ++ (encode (r ∷ []) ++ drop (8 * (i + 1)) (encode (take i its) ++ drop (8 * i) s))) (take_at (encode (take i its)) (drop (8 * i) s) _ u)
      ∙ ap (λ x. encode (take i its) ++ (encode (r ∷ []) ++ x))
      (ap (λ k. drop k (encode (take i its) ++ drop (8 * i) s)) v ∙ drop-append-add (encode (take i its)) (drop (8 * i) s) 8 ∙ drop-drop 8 (8 * i) s ∙ ap (λ k. drop k s) w)
      ∙ sym (append_assoc (encode (take i its)) (encode (r ∷ [])) (drop (8 * (i + 1)) s))
      ∙ ap (λ x. x ++ drop (8 * (i + 1)) s) (sym (encode-append (take i its) (r ∷ [])) ∙ ap encode (ap (λ x. take i its ++ (x ∷ [])) (q ∙ ap (at its) z) ∙ sym (take-suc its i gone l) ∙ ap (λ k. take k its) (sym z)))

  pub written_all : (i : ℕ) → length its ≤ i → length s ≤ 8 * i → written its i s ≡ encode its
  unfolding written
  written_all i l m = ap (λ x. encode x ++ drop (8 * i) s) (take_all i its l) ∙ ap (λ x. encode its ++ x) (drop_of_length-le s m) ∙ append-nil (encode its)

-- a pass that makes f i of each record i of s, written over the bytes d; t is what the pass holds
module _ (f : ℕ → Rec → Rec) (s d : List ℕ) (i : ℕ) (t : List ℕ) (e : t ≡ written (update f (records s)) i d) where
  size : length (update f (records s)) ≡ count s
  size = length-update f (records s) ∙ length-records s

  pub pass-length : i ≤ count s → 8 * i ≤ length d → length t ≡ length d
  pass-length l m = ap length e ∙ written-length (update f (records s)) d i (omega (arith, size)) m

  pub pass-next : i < count s → (r x : Rec) → r ≡ decode s (i + 1) → x ≡ f (i + 1) r → with_record t (i + 1) x ≡ written (update f (records s)) (i + 1) d
  pass-next l r x er ex =
      written_next (update f (records s)) d i t x (omega (arith, size)) e
      (ex ∙ ap (f (i + 1)) (er ∙ sym (at-decode s (i + 1) (omega arith))) ∙ sym (at-update f (records s) (i + 1) (λ u. omega arith) (omega (arith, length-records s))))

  pub pass-read : i ≤ count s → decode t (i + 1) ≡ decode d (i + 1)
  pass-read l = ap (λ x. decode x (i + 1)) e ∙ written_read (update f (records s)) d i (omega (arith, size))

  pub pass-end : count s ≤ i → length d ≤ 8 * i → t ≡ encode (update f (records s))
  pass-end l m = e ∙ written_all (update f (records s)) d i (omega (arith, size)) m

-- eight bytes of a list, and the record they are
whole-record : (t : List ℕ) (i : ℕ) → 8 * (i + 1) ≤ length t → ((k : ℕ) → k < 8 → byte_in (decode t (i + 1)) k ≡ byte t (8 * i + k)) → with_record t (i + 1) (decode t (i + 1)) ≡ t
unfolding with_record
whole-record t i l h =
    let n : 8 * (i + 1 - 1) ≡ 8 * i = omega arith in
    let m : 8 * (i + 1) ≡ 8 * i + 8 = omega arith in
    let r = decode t (i + 1) in
    let long : 8 ≤ length (drop (8 * i) t) = omega (arith, length-drop (8 * i) t) in
    let eight : encode (decode t (i + 1) ∷ []) ≡ take 8 (drop (8 * i) t) =
    ext_get_or 0 _ _ (length-encode (decode t (i + 1) ∷ []) ∙ sym (length-take-le 8 (drop (8 * i) t) long))
    (λ k q. let w : k < 8 = omega (arith, length-encode (decode t (i + 1) ∷ [])) in
    let z : k ≡ 8 * 0 + k = omega arith in
    ap (byte (encode (decode t (i + 1) ∷ []))) z ∙ byte-encode (decode t (i + 1) ∷ []) 0 k (omega arith) w ∙ h k w ∙ sym (get_or-take 8 (drop (8 * i) t) k 0 w ∙ get_or-drop (8 * i) t k 0)) in
    rw (n, m, eight)
    (ap (λ x. take (8 * i) t ++ (take 8 (drop (8 * i) t) ++ x)) (sym (drop-drop 8 (8 * i) t))
    ∙ ap (λ x. take (8 * i) t ++ x) (take-append-drop 8 (drop (8 * i) t)) ∙ take-append-drop (8 * i) t)

-- in a pass over a valid itinerary, the record that comes next is still whole
pub pass-whole : (f : ℕ → Rec → Rec) (s : List ℕ) (i : ℕ) (t : List ℕ) → t ≡ written (update f (records s)) i s → ((j : ℕ) → byte s j < 256) → validity s ≡ pass → i < count s →
    with_record t (i + 1) (decode t (i + 1)) ≡ t
unfolding count
pass-whole f s i t e small v l =
    whole-record t i (omega (arith, pass-length f s s i t e (omega arith) (omega arith)))
    (λ k q. ap (λ r. byte_in r k) (pass-read f s s i t e (omega arith) ∙ ap (decode s) (add-one i)) ∙ back s small (valid-passed s v) i k l q
    ∙ sym (ap (λ x. byte x (8 * i + k)) e ∙ byte_past (update f (records s)) s i k (omega (arith, length-update f (records s), length-records s))))
