-- What hubshow writes: the text of what the file holds, or what stands for a file that can't be read.
use Rattle.std.specs.Prelude.{ℕ, ◌≡◌, ◌≤◌, refl, true, false, length, List, [], Option, None, Some}
use Rattle.model.specs.Records.{records}
use Rattle.model.specs.Validity.{validity}
use Rattle.text_put.specs.Puts.{over}
use Rattle.text_form.specs.Laws.Room.{shown_read, shown-unread, text-fits}
use Rattle.text_form.specs.Writing.{no_text, shown_text, text_of, text_or}

-- by the file's bytes, if it could be read
unfoldable pub shown_file : Option (List ℕ) → List ℕ
shown_file (Some s) = shown_text true s
shown_file None = shown_text false []

pub file-fits : (f : Option (List ℕ)) {n : ℕ} → n ≡ length (shown_file f) → n ≤ 1065984
unfolding shown_file
file-fits (Some s) e = text-fits true s e
file-fits None e = text-fits false [] e

module _ {f : Option (List ℕ)} (t : List ℕ) {n : ℕ} {t' : List ℕ} where
  pub file-read : (s : List ℕ) → f ≡ Some s → (n ≡ length (text_or no_text (validity s) (text_of (records s)))) × (t' ≡ over (text_or no_text (validity s) (text_of (records s))) t) →
      (n ≡ length (shown_file f)) × (t' ≡ over (shown_file f) t)
  unfolding shown_file
  file-read s e y = rw e (shown_read true s t refl y)

  pub file-unread : f ≡ None → (n ≡ length no_text) × (t' ≡ over no_text t) → (n ≡ length (shown_file f)) × (t' ≡ over (shown_file f) t)
  unfolding shown_file
  file-unread e y = rw e (shown-unread false [] t refl y)
