-- What hubtext writes: the itinerary that the file's text is, or what stands for a file that can't be read.
use Rattle.std.specs.Prelude.{ℕ, ◌*◌, ◌≡◌, refl, true, false, length, List, [], Option, None, Some, Ok, Err}
use Rattle.text_put.specs.Puts.{over}
use Rattle.text_form.specs.Laws.Converted.{FilledWith, convert-fault, convert-read, convert-unread}
use Rattle.text_form.specs.Reading.{converted, no_itinerary, read_after, read_answer}
use Rattle.text_form.specs.declared.Fault.{Fault}

-- by the file's bytes, if it could be read
unfoldable pub converted_file : Option (List ℕ) → List ℕ
converted_file (Some text) = converted true text
converted_file None = converted false []

-- what is filled into 8,192 bytes
module _ {f : Option (List ℕ)} (it : List ℕ) (long : length it ≡ 8192) (it' : List ℕ) (kept : length it' ≡ length it) where
  pub file-unread : (r : ℕ) → f ≡ None → (r ≡ length no_itinerary) × (it' ≡ over no_itinerary it) → FilledWith (converted_file f) it it' r
  unfolding converted_file
  file-unread r e h = rw e (convert-unread false [] it long it' kept r refl h)

  module _ (text : List ℕ) (e : f ≡ Some text) where
    pub file-read : (k : ℕ) → Ok k ≡ read_answer text it → it' ≡ read_after text it → FilledWith (converted_file f) it it' (8 * k)
    unfolding converted_file
    file-read k a h = rw e (convert-read true text it long it' kept k refl a h)

    pub file-fault : (r : ℕ) (x : Fault) (it₁ : List ℕ) → Err x ≡ read_answer text it → it₁ ≡ read_after text it → (r ≡ length no_itinerary) × (it' ≡ over no_itinerary it₁) →
        FilledWith (converted_file f) it it' r
    unfolding converted_file
    file-fault r x it₁ a g h = rw e (convert-fault true text it long it' kept r x it₁ refl a g h)
