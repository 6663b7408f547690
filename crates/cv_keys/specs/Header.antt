-- The Authorization header: a key's id, a space, and what the key makes of the message.
use Rattle.std.specs.Prelude.{◌≡◌, ℕ, ◌==◌, Bool, nat_lt, List, ◌∷◌, ◌++◌, length, slice_get, Option, Some, None, IsSomeAnd, Result, Ok, Err, if◌then◌else◌}
use Rattle.std.specs.List.{position_or_len, before_first, after_first}
use Rattle.std.specs.Str.{bytes_eq}
use Rattle.hex.specs.Hex.{encode_lower}
use Rattle.base64.specs.Engines.{standard}
use Rattle.base64.specs.GeneralPurpose.{encode_of, decode_of}
use Rattle.base64.specs.declared.decode.DecodeError.{DecodeError}
use Rattle.cv_base.specs.Unless.{IsUnless}
use Rattle.cv_seal.specs.Hmac.{hmac_sha1}
use Rattle.cv_keys.specs.Key.{key_of}
use Rattle.cv_keys.specs.declared.key.Key.{Key}
use Rattle.cv_keys.specs.declared.key_no.KeyNo.{KeyNo}
use Rattle.cv_keys.specs.declared.auth_fault.AuthFault.{AuthFault}
use Rattle.cv_keys.specs.declared.auth_fault.AuthFault.TheVariants.{NoHeader, BadHeader, UnknownKey, WrongMac, NoMemory}

-- the 40 hex digits of the HMAC-SHA1 of a message under the key's secret
abbrev pub mac_of : Key → List ℕ → List ℕ
mac_of key message = encode_lower (hmac_sha1 key.secret message)

-- the header that a key gives a message: the digits stand in base64 (RFC 4648, section 4)
abbrev pub header_of : Key → List ℕ → List ℕ
header_of key message = key.id ++ 32 ∷ encode_of standard (mac_of key message)

-- the call gives the place of the key that is the answer, or the answer's fault, unless it wanted memory
abbrev pub IsPlaceOf : List Key → Result KeyNo AuthFault → Result Key AuthFault → Type 0
IsPlaceOf keys (Ok place) answer = IsSomeAnd (slice_get keys place.0) (λ key. answer ≡ Ok key)
IsPlaceOf keys (Err fault) answer = IsUnless NoMemory (Err fault) answer

-- 40 bytes, where it is so many
abbrev pub of_forty : Result (List ℕ) DecodeError → Option (List ℕ)
of_forty (Ok bytes) = if length bytes == 40 then Some bytes else None
of_forty (Err error) = None

-- the 40 bytes whose base64 a text is
abbrev pub decoded : List ℕ → Option (List ℕ)
decoded text = of_forty (decode_of standard text)

-- the mac is that of the key
abbrev pub is_mac : Key → List ℕ → List ℕ → Bool
is_mac key mac message = bytes_eq mac (mac_of key message)

-- the answer by the key that is named, and the mac
abbrev pub checked_mac : Option Key → List ℕ → List ℕ → Result Key AuthFault
checked_mac None mac message = Err UnknownKey
checked_mac (Some key) mac message = if is_mac key mac message then Ok key else Err WrongMac

abbrev pub checked_parts : List Key → List ℕ → Option (List ℕ) → List ℕ → Result Key AuthFault
checked_parts keys id None message = Err BadHeader
checked_parts keys id (Some mac) message = checked_mac (key_of keys id) mac message

-- the key that signed the message by this header, or the first fault
abbrev pub checked : List Key → Option (List ℕ) → List ℕ → Result Key AuthFault
checked keys None message = Err NoHeader
checked keys (Some header) message =
    if nat_lt (position_or_len (λ b. b == 32) header) (length header)
    then checked_parts keys (before_first (λ b. b == 32) header) (decoded (after_first (λ b. b == 32) header)) message
    else Err BadHeader
