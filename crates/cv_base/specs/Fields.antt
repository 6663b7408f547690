-- Reading a binary format field by field. A field is read at the front of a text, and what is read comes with the text after it.
use Rattle.std.specs.Prelude.{◌≡◌, ◌<◌, ◌-◌, ◌++◌, ℕ, nat_le, nat_lt, if◌then◌else◌, List, length, take, drop, Option, Some, None, Result, Ok, Err}
use Rattle.std.specs.Borrow.{Bor}
use Rattle.std.specs.Int.{Width, w16, byte_len, from_be_bytes, to_be_bytes}
use Rattle.std.specs.Result.{result_map_both}
use Rattle.hex.specs.Hex.{IsBytes}
use Rattle.cv_base.specs.Sequence.{◌>>=◌}

-- a number of this width, its highest byte first, or this fault where the text is shorter
abbrev pub number_at : {F : Type 0} → F → Width → List ℕ → Result (ℕ × List ℕ) F
number_at short w text = if nat_lt (length text) (byte_len w) then Err short else Ok (from_be_bytes w (take (byte_len w) text), drop (byte_len w) text)

-- so many bytes, or this fault where the text is shorter
abbrev pub bytes_at : {F : Type 0} → F → ℕ → List ℕ → Result (List ℕ × List ℕ) F
bytes_at short n text = if nat_lt (length text) n then Err short else Ok (take n text, drop n text)

-- the fault at the offset of the field at the front of the text, behind which all bytes end
abbrev pub bad : {F : Type 0} → (ℕ → F) → ℕ → List ℕ → F
bad fault all text = fault (all - length text)

-- the length of a text of at most `limit` bytes, a number of two bytes; or the fault `long` where it passes the limit
unfoldable pub length_at : {F : Type 0} → F → F → ℕ → List ℕ → Result (ℕ × List ℕ) F
length_at short long limit text = do
  len ← number_at short w16 text
  if nat_le len.0 limit then Ok len else Err long

-- the bytes of a text behind its length, a number of two bytes
abbrev pub text_field : List ℕ → List ℕ
text_field text = to_be_bytes w16 (length text) ++ text

-- what a function read, with the bytes of the text behind it
abbrev pub seen : {A F : Type 0} → Result (A × Bor (List ℕ)) F → Result (A × List ℕ) F
seen read = result_map_both (λ x. (x.0, x.1.now)) (λ fault. fault) read

-- what was made of a field, or this fault where nothing can be
abbrev pub accepted : {F A : Type 0} → F → Option A → Result A F
accepted fault None = Err fault
accepted fault (Some x) = Ok x

-- the bytes are this text, which was taken from their front, and a rest of bytes
pub record Takes (bytes text rest : List ℕ) : Type 0 where
  pub parts : bytes ≡ text ++ rest
  pub rest_fits : IsBytes rest

-- so many bytes were taken
pub record TakesBytes (n : ℕ) (bytes text rest : List ℕ) : Type 0 where
  pub takes : Takes bytes text rest
  pub size : length text ≡ n
  pub fits : IsBytes text

-- a width whose numbers are those below a limit, each spelt by one text of bytes
pub record IsWide (w : Width) (limit : ℕ) : Type 0 where
  pub len : (n : ℕ) → length (to_be_bytes w n) ≡ byte_len w
  pub back : (bytes : List ℕ) → length bytes ≡ byte_len w → IsBytes bytes → to_be_bytes w (from_be_bytes w bytes) ≡ bytes
  pub again : (n : ℕ) → n < limit → from_be_bytes w (to_be_bytes w n) ≡ n
  pub below : (bytes : List ℕ) → IsBytes bytes → from_be_bytes w bytes < limit
