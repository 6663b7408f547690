-- The keys of rows have their size.
use Rattle.std.proofs.Common.{ℕ, zero, suc, List, [], ◌∷◌, All, refl, arith}
use Rattle.std.specs.Int.{w32, to_le_bytes, byte_at}
use Rattle.std.proofs.lemmas.List.Elements.{All-nil, All-cons, All-append, All-replicate}
use Rattle.md5.specs.Md5.{md5, digest_bytes}
use Rattle.md5.proofs.StandardFacts.{length-md5}
use Rattle.cv_base.specs.Path.{Path, key_of, no_key, parent_key_of}
use Rattle.cv_base.proofs.Laws.{IsByte, bytes_at, byte_small}
use Rattle.cv_rows.specs.Row.{IsKey}

word_bytes : (x : ℕ) → All IsByte (to_le_bytes w32 x)
word_bytes x =
    let high = All-cons IsByte (byte_at 3 x) [] (byte_small 3 x) (All-nil IsByte) in
    let two = All-cons IsByte (byte_at 2 x) (byte_at 3 x ∷ []) (byte_small 2 x) high in
    let three = All-cons IsByte (byte_at 1 x) (byte_at 2 x ∷ byte_at 3 x ∷ []) (byte_small 1 x) two in
    All-cons IsByte (byte_at 0 x) (byte_at 1 x ∷ byte_at 2 x ∷ byte_at 3 x ∷ []) (byte_small 0 x) three

digest_are_bytes : (h : List ℕ) (n : ℕ) → All IsByte (digest_bytes h n)
unfolding digest_bytes
digest_are_bytes h zero = All-nil IsByte
digest_are_bytes h (suc n) = All-append IsByte _ _ (digest_are_bytes h n) (word_bytes _)

md5_key : (m : List ℕ) → IsKey (md5 m)
unfolding md5
md5_key m = record { size = length-md5 m; bytes = bytes_at _ (digest_are_bytes _ 4) }

-- the key of a path is one
pub key_is : (p : Path) → IsKey (key_of p)
key_is p = md5_key _

-- so is the key above it
pub parent_is : (p : Path) → IsKey (parent_key_of p)
parent_is [] = record { size = refl; bytes = bytes_at no_key (All-replicate IsByte 16 0 (omega arith)) }
parent_is (a ∷ p) = md5_key _
