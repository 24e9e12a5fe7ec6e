-- A record's bytes, read directly.
use Rattle.std.specs.Prelude.{◌*◌, ◌+◌, ◌-◌, suc, zero, ℕ, List, ◌≢◌, ◌≡◌, refl}
use Rattle.std.proofs.Common.{◌∙◌, ap, ap₂, sym, arith}
use Rattle.model.proofs.Laws.Bytes.{rec-path}
use Rattle.model.specs.Records.{byte, byte_of, decode, word}

pub byte-of : (s : List ℕ) (i k : ℕ) → i ≢ 0 → byte_of s i k ≡ byte s (8 * (i - 1) + k)
unfolding byte_of
byte-of s zero k h = absurd (h refl)
byte-of s (suc i) k h = let e : i ≡ suc i - 1 = omega arith in ap (λ j. byte s (8 * j + k)) e

-- the parent of a record, and a whole record, read directly
pub parent-direct : (s : List ℕ) (i p : ℕ) → i ≢ 0 → p ≡ word (byte s (8 * (i - 1) + 4)) (byte s (8 * (i - 1) + 5)) → p ≡ (decode s i).parent
unfolding decode
parent-direct s i p h e = e ∙ sym (ap₂ word (byte-of s i 4 h) (byte-of s i 5 h))

pub record-direct : (s : List ℕ) (i p q : ℕ) → i ≢ 0 → p ≡ (decode s i).parent → q ≡ word (byte s (8 * (i - 1) + 6)) (byte s (8 * (i - 1) + 7)) →
    record { kind = byte s (8 * (i - 1)); label = byte s (8 * (i - 1) + 1); name = byte s (8 * (i - 1) + 2); parent = p; client = q } ≡ decode s i
unfolding decode
record-direct s i p q h e f =
    let z : 8 * (i - 1) ≡ 8 * (i - 1) + 0 = omega arith in
    rec-path _ _ (ap (byte s) z ∙ sym (byte-of s i 0 h)) (sym (byte-of s i 1 h)) (sym (byte-of s i 2 h)) e (f ∙ sym (ap₂ word (byte-of s i 6 h) (byte-of s i 7 h)))
