-- Values that have no newline.
use Rattle.std.proofs.Common.{◌≡◌, ℕ, suc, ◌+◌, ◌/◌, ◌%◌, ◌<◌, ◌^◌, Bool, true, false, not, eqb, List, [], ◌∷◌, slice_index, decimal, refl, arith}
use Rattle.std.specs.Prelude.{IsTrue, IsUtf8}
use Rattle.std.specs.List.{list_all}
use Rattle.std.proofs.lemmas.Bool.{and_parts, or_from, ne_eqb, not-true}
use Rattle.std.proofs.lemmas.Bool.Decides.{nat_tests}
use Rattle.std.proofs.lemmas.Fmt.{decimal_by_steps}
use Rattle.std.proofs.lemmas.List.Folds.{list_any-append}
use Rattle.std.proofs.lemmas.List.Sums.{AllPass-from_list_all}
use Rattle.std.proofs.lemmas.Str.{IsUtf8-from_ascii}
use Rattle.std.proofs.lemmas.Str.Ascii.{IsAscii-from_all}
use Rattle.hex.specs.Hex.{IsBytes, encode_lower, encode_with, lower_digits}
use Rattle.cv_base.specs.Digest.{IsDigest}
use Rattle.cv_base.specs.Name.{is_name, is_name_byte}
use Rattle.cv_manifest.specs.Lines.{has_newline}

-- ---- names

name_byte : (c : ℕ) → is_name_byte c ≡ true → (c < 128) × (eqb c 10 ≡ false)
name_byte c is = (grind (arith, nat_tests), grind (arith, nat_tests))

name_bytes : (name : List ℕ) → is_name name ≡ true → list_all is_name_byte name ≡ true
name_bytes name is = (and_parts _ _ is).1

bytes_clear : (bytes : List ℕ) → list_all is_name_byte bytes ≡ true → has_newline bytes ≡ false
bytes_clear [] all = refl
bytes_clear (b ∷ bytes) all =
    let parts = and_parts (is_name_byte b) (list_all is_name_byte bytes) all in
    or_from (eqb b 10) (has_newline bytes) (name_byte b parts.0).1 (bytes_clear bytes parts.1)

pub name_clear : (name : List ℕ) → IsTrue (is_name name) → has_newline name ≡ false
name_clear name is = bytes_clear name (name_bytes name is)

pub name_utf8 : (name : List ℕ) → IsTrue (is_name name) → IsUtf8 name
name_utf8 name is =
    let all = AllPass-from_list_all is_name_byte name (name_bytes name is) in
    IsUtf8-from_ascii name (IsAscii-from_all name (λ k d within. (name_byte _ (all k d within)).0))

-- ---- digits

abbrev is_other : ℕ → Bool
is_other c = not (eqb c 10)

digit_clear : (v : ℕ) → v < 16 → eqb (slice_index lower_digits v) 10 ≡ false
digit_clear v below =
    let all = AllPass-from_list_all is_other lower_digits refl in
    not-true _ (all v 0 below)

digits_clear : (hash : List ℕ) → IsBytes hash → has_newline (encode_lower hash) ≡ false
unfolding encode_with
digits_clear [] is = refl
digits_clear (b ∷ rest) is =
    let small : b < 256 = is 0 in
    let high = digit_clear (b / 16) (omega arith) in
    let low = digit_clear (b % 16) (omega arith) in
    rw (high, low) (digits_clear rest (λ i. is (suc i)))

pub hash_clear : (hash : List ℕ) → IsDigest hash → has_newline (encode_lower hash) ≡ false
hash_clear hash is = digits_clear hash is.bytes

-- ---- decimals

pub decimal_clear : (n : ℕ) → n < 2 ^ 64 → has_newline (decimal n) ≡ false
decimal_clear n small = decimal_by_steps (λ k digits. has_newline digits ≡ false)
    (λ k below. rw (ne_eqb (48 + k) 10 (omega arith)) refl)
    (λ k digits from clear.
    rw (list_any-append (λ b. eqb b 10) digits ((48 + k % 10) ∷ []), clear, ne_eqb (48 + k % 10) 10 (omega arith)) refl)
    n small
