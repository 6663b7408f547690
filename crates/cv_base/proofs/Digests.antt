-- A SHA-1 digest is twenty bytes.
use Rattle.std.proofs.Common.{◌≡◌, ℕ, zero, suc, ◌*◌, ◌<◌, List, length, slice_index, All, [], ◌∷◌, refl, arith, length-append}
use Rattle.std.specs.Int.{w32, to_be_bytes, byte_at}
use Rattle.std.proofs.lemmas.List.Elements.{All-nil, All-cons, All-append}
use Rattle.std.proofs.Common.{inl, inr}
use Rattle.std.proofs.lemmas.Bool.{cases_lt}
use Rattle.std.proofs.lemmas.List.{get_or_past}
use Rattle.sha1.specs.Sha1.{sha1, digest_bytes}
use Rattle.cv_base.specs.Digest.{IsDigest}

abbrev pub IsByte : ℕ → Type 0
IsByte b = b < 256

pub byte_small : (k x : ℕ) → byte_at k x < 256
byte_small zero x = omega arith
byte_small (suc i) x = omega arith

word_bytes : (x : ℕ) → All IsByte (to_be_bytes w32 x)
word_bytes x =
    let low = All-cons IsByte (byte_at 0 x) [] (byte_small 0 x) (All-nil IsByte) in
    let two = All-cons IsByte (byte_at 1 x) (byte_at 0 x ∷ []) (byte_small 1 x) low in
    let three = All-cons IsByte (byte_at 2 x) (byte_at 1 x ∷ byte_at 0 x ∷ []) (byte_small 2 x) two in
    All-cons IsByte (byte_at 3 x) (byte_at 2 x ∷ byte_at 1 x ∷ byte_at 0 x ∷ []) (byte_small 3 x) three

digest_facts : (h : List ℕ) (n : ℕ) → (length (digest_bytes h n) ≡ n * 4) × All IsByte (digest_bytes h n)
unfolding digest_bytes
digest_facts h zero = (refl, All-nil IsByte)
digest_facts h (suc n) =
    let before = digest_facts h n in
    let word : length (to_be_bytes w32 (slice_index h n)) ≡ 4 = refl in (
      omega (arith, length-append (digest_bytes h n) (to_be_bytes w32 (slice_index h n)), before.0),
      All-append IsByte _ _ before.1 (word_bytes _),
    )

-- All of a list at every index, 0 past its end
pub bytes_at : (xs : List ℕ) → All IsByte xs → (i : ℕ) → slice_index xs i < 256
bytes_at xs all i = elim (cases_lt i (length xs)) [
  | inl below ↦ all i 0 below
  | inr above ↦ rw (get_or_past xs i 0 above) (omega arith)
]

pub digest_sha1 : (m : List ℕ) → IsDigest (sha1 m)
unfolding sha1
digest_sha1 m = record { size = (digest_facts _ 5).0; bytes = bytes_at _ (digest_facts _ 5).1 }
