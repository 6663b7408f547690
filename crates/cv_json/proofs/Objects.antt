-- JSON objects, and what a reader learns of a text.
use Rattle.std.proofs.Common.{◌≡◌, ℕ, true, false, cond, List, Some, None, is_some, refl}
use Rattle.std.specs.Prelude.{IsUtf8, option_and_then}
use Rattle.std.specs.Str.{is_utf8}
use Rattle.std.proofs.lemmas.Str.{is_utf8-from_IsUtf8, IsUtf8-from_is_utf8}
use Rattle.serde_json.specs.Data.{Data, null, boolean, number, string, array, object}
use Rattle.serde_json.specs.Find.{as_object}
use Rattle.serde_json.specs.Read.{read}
use Rattle.cv_json.specs.ObjectText.{only_object, object_in}

only_object-Some : (d : Data) → is_some (as_object d) ≡ true → only_object d ≡ Some d
only_object-Some null h = cc
only_object-Some (boolean b) h = cc
only_object-Some (number n) h = cc
only_object-Some (string s) h = cc
only_object-Some (array ds) h = cc
only_object-Some (object ms) h = refl

-- a text that reads as an object is that object
pub object_in-Some : (text : List ℕ) (d : Data) → IsUtf8 text → read text ≡ Some d → is_some (as_object d) ≡ true → object_in text ≡ Some d
object_in-Some text d utf8 reads is = rw (is_utf8-from_IsUtf8 text utf8, reads) (only_object-Some d is)

-- a text that doesn't read is none
pub object_in-None : (text : List ℕ) → (IsUtf8 text → read text ≡ None) → object_in text ≡ None
object_in-None text h =
    elim (is_utf8 text) as (λ t. is_utf8 text ≡ t → cond t (option_and_then only_object (read text)) None ≡ None) [
      | true ↦ λ e. rw (h (IsUtf8-from_is_utf8 text e)) refl
      | false ↦ λ e. refl
    ] refl
