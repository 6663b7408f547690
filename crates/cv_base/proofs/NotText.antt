-- Bytes that are no text.
use Rattle.std.proofs.Common.{◌≡◌, ℕ, true, false, List, refl}
use Rattle.std.specs.Str.{is_utf8, IsUtf8}
use Rattle.std.proofs.lemmas.Str.{IsUtf8-from_is_utf8}

-- the test fails where the bytes aren't UTF-8
pub not_utf8 : (bytes : List ℕ) → (IsUtf8 bytes → ⊥) → is_utf8 bytes ≡ false
not_utf8 bytes not_text = elim (is_utf8 bytes) as (λ t. is_utf8 bytes ≡ t → t ≡ false) [
  | true ↦ λ e. absurd (not_text (IsUtf8-from_is_utf8 bytes e))
  | false ↦ λ e. refl
] refl
