-- Laws of the sheet as the code makes it.
use Rattle.std.specs.Prelude.{◌%◌, ◌+◌, ◌/◌, ◌<◌, ◌≤◌, ℕ, drop, get_or, length, take, Bool, ◌&&◌, ◌||◌, true, false, List, [], ◌∷◌, ◌≡◌, refl}
use Rattle.std.proofs.Common.{get_or-take, ◌∙◌, ap, sym, arith}
use Rattle.std.proofs.Math.Decide.{dec_lt}
use Rattle.std.proofs.Math.ListN.{get_or-eq_default}
use Rattle.std.proofs.Math.Path.{fun_ext}
use Rattle.std.proofs.Math.Seq.{get_or-drop}
use Rattle.model.proofs.Laws.Bit.{zero_bit}
use Rattle.model.specs.Climbing.{hidden, hides, hiding, is_suspect}
use Rattle.model.specs.Observer.{on_sheet}
use Rattle.model.specs.Records.{gone, is_ambient}
use Rattle.model.specs.Tables.{bit_at, bits, place_s, suspects, test_bit}
use Rattle.model.specs.declared.Rec.{Rec}
use Rattle.observer.specs.Labels.{labels}
use Rattle.records.specs.Climbs.{ambient-kind}

-- what a record makes of what is above it
pub made : (S : ℕ → Bool) (i : ℕ) (r : Rec) (x b : Bool) → b ≡ is_suspect S r → (b || x) ≡ (hiding S).make i r x
unfolding hides
made S i r x true e = sym (ap (λ (t : Bool). elim t [ true ↦ true | false ↦ x ]) (sym e))
made S i r x false e = sym (ap (λ (t : Bool). elim t [ true ↦ true | false ↦ x ]) (sym e))

-- a record as the sheet shows it
module _ (its : List Rec) (S : ℕ → Bool) (i : ℕ) (r : Rec) {b : Bool} (e : b ≡ hidden its S i) where
  pub sheet-gone : b ≡ true → gone ≡ on_sheet its S i r
  unfolding on_sheet
  sheet-gone t = rw (sym e ∙ t, on_sheet)

  pub sheet-stands : b ≡ false → r ≡ on_sheet its S i r
  unfolding on_sheet
  sheet-stands t = rw (sym e ∙ t, on_sheet)

-- whether a record is suspect, by the bits of a word
module _ (w : ℕ) (r : Rec) (small : r.kind ≡ 1 → r.label < 64) where
  pub suspect-by : (a b : Bool) → a ≡ is_ambient r → b ≡ test_bit w (r.label % 64) → (a && b) ≡ is_suspect (labels w) r
  unfolding is_suspect bit_at
  suspect-by true b e h =
      let l : r.label < 64 = small (ambient-kind r (sym e)) in
      let z : r.label / 64 ≡ 0 = omega arith in
      rw (sym e, z) h
  suspect-by false b e h = rw (sym e) refl

-- a table's word of suspects
module _ (t xs : List ℕ) (long : length t ≡ 1544) (e : bit_at 64 xs ≡ bits (take 8 (drop 1536 t))) where
  -- that label k is one
  word-has : (k : ℕ) → k < 64 → labels (get_or xs 0 0) k ≡ suspects t k
  unfolding bit_at place_s
  word-has k l =
      let z : k / 64 ≡ 0 = omega arith in
      let q : (12288 + k) / 8 ≡ 1536 + k / 8 = omega arith in
      let m : (12288 + k) % 8 ≡ k % 8 = omega arith in
      let same : test_bit (get_or xs (k / 64) 0) (k % 64) ≡ test_bit (get_or (take 8 (drop 1536 t)) (k / 8) 0) (k % 8) = ap (λ f. f k) e in
      let part : get_or (take 8 (drop 1536 t)) (k / 8) 0 ≡ get_or t (1536 + k / 8) 0 = get_or-take 8 (drop 1536 t) (k / 8) 0 (omega arith) ∙ get_or-drop 1536 t (k / 8) 0 in
      rw (z, q, m) (rw z at same ∙ ap (λ x. test_bit x (k % 8)) part)

  word-ends : (k : ℕ) → 64 ≤ k → labels (get_or xs 0 0) k ≡ suspects t k
  unfolding bit_at place_s
  word-ends k l =
      let u : get_or (get_or xs 0 0 ∷ []) (k / 64) 0 ≡ 0 = get_or-eq_default (get_or xs 0 0 ∷ []) 0 (omega arith) in
      let v : get_or t ((12288 + k) / 8) 0 ≡ 0 = get_or-eq_default t 0 (omega arith) in
      rw (u, v) (zero_bit (k % 64) ∙ sym (zero_bit ((12288 + k) % 8)))

  pub suspects-word : labels (get_or xs 0 0) ≡ suspects t
  suspects-word = fun_ext (λ k. either k (dec_lt k 64))
    where
      either : (k : ℕ) → Dec (k < 64) → labels (get_or xs 0 0) k ≡ suspects t k
      either k (yes l) = word-has k l
      either k (no d) = word-ends k (omega arith)
