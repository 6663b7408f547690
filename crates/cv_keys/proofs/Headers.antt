-- The header that a key gives a message is checked as that key's.
use Rattle.std.proofs.Common.{◌≡◌, ℕ, zero, suc, ◌+◌, ◌<◌, ◌==◌, nat_lt, Bool, true, false, List, [], ◌∷◌, ◌++◌, length, take, drop, get_or, Option, Some, None, Result, Ok, Err, refl, sym, ap, subst, ◌∙◌, arith, rules, length-append, lit<, option_map, Global, String, string_bytes}
use Rattle.std.specs.Prelude.{slice_get, slice_index, IsAscii, IfOk, IsSomeAnd}
use Rattle.std.specs.List.{list_all, position_or_len, before_first, after_first}
use Rattle.std.specs.Str.{bytes_eq}
use Rattle.std.proofs.lemmas.Bool.{eqb-true, leb-true, lt-ltb, ltb-true}
use Rattle.std.proofs.lemmas.List.{take_at}
use Rattle.std.proofs.lemmas.Option.{slice_get-get_or}
use Rattle.std.proofs.lemmas.Result.{IfOk-weaker}
use Rattle.std.proofs.lemmas.Slice.Eq.{bytes_eq-Decides}
use Rattle.hex.specs.Hex.{lower_digits}
use Rattle.hex.proofs.HexLemmas.{length-encode_with, IsAscii-encode_with}
use Rattle.base64.specs.Engines.{standard}
use Rattle.base64.specs.GeneralPurpose.{encode_of, decode_of, IsBytes}
use Rattle.base64.proofs.EngineFacts.{decode_of-encode_of}
use Rattle.cv_base.specs.Digest.{IsDigest}
use Rattle.cv_seal.specs.Hmac.{hmac_sha1}
use Rattle.cv_base.proofs.Laws.{digest_sha1, first_true, second_true}
use Rattle.cv_keys.specs.Key.{is_visible, is_key_id, key_of, IsTable}
use Rattle.cv_keys.specs.KeyInner.{place_of}
use Rattle.cv_keys.specs.Header.{mac_of, header_of, is_mac, decoded, checked_mac, checked_parts, checked}
use Rattle.cv_keys.specs.declared.auth_fault.AuthFault.TheVariants.{UnknownKey, WrongMac}
use Rattle.cv_keys.specs.declared.key.Key.{Key}
use Rattle.cv_keys.proofs.Tables.{place_of-distinct, key_at, no_key}

-- a visible byte is no space
no_space : (b : ℕ) → is_visible b ≡ true → (b == 32) ≡ false
no_space b h =
    let high = leb-true 33 b (first_true _ _ h) in
    elim (b == 32) as (λ t. b == 32 ≡ t → t ≡ false) [ true ↦ λ e. absurd (omega (arith, high, eqb-true b 32 e)) | false ↦ λ e. refl ] refl

-- the first space stands behind the id
position_or_len-id : (id code : List ℕ) → list_all is_visible id ≡ true → position_or_len (λ b. b == 32) (id ++ 32 ∷ code) ≡ length id
position_or_len-id [] code h = refl
position_or_len-id (b ∷ id) code h =
    let here = no_space b (first_true (is_visible b) (list_all is_visible id) h) in
    let after = position_or_len-id id code (second_true (is_visible b) (list_all is_visible id) h) in
    rw (here, after) (omega arith)

after_id : (id code : List ℕ) → drop (length id + 1) (id ++ 32 ∷ code) ≡ code
after_id [] code = refl
after_id (b ∷ id) code = let more : suc (length id) + 1 ≡ suc (length id + 1) = omega arith in rw more (after_id id code)

-- an id, a space and a code are checked by these parts
pub checked-split : (keys : List Key) (id code message : List ℕ) → list_all is_visible id ≡ true
    → checked keys (Some (id ++ 32 ∷ code)) message ≡ checked_parts keys id (decoded code) message
checked-split keys id code message h =
    let size : length id < length (id ++ 32 ∷ code) = omega (arith, length-append id (32 ∷ code)) in
    let place = position_or_len-id id code h in
    let before : nat_lt (length id) (length (id ++ 32 ∷ code)) ≡ true = lt-ltb _ _ size in
    let front : take (length id) (id ++ 32 ∷ code) ≡ id = take_at id (32 ∷ code) (length id) refl in
    rw (place, before, front, after_id id code) refl

small : (bytes : List ℕ) → list_all (λ b. nat_lt b 128) bytes ≡ true → IsAscii bytes
small [] h = λ i. lit< tt
small (b ∷ bytes) h = λ i. elim i as (λ i. slice_index (b ∷ bytes) i < 128) [ zero ↦ ltb-true b 128 (first_true _ _ h) | suc i ↦ small bytes (second_true _ _ h) i ]

-- the digits of a digest are 40 bytes
mac-size : (key : Key) (message : List ℕ) → length (mac_of key message) ≡ 40
mac-size key message =
    let digest : IsDigest (hmac_sha1 key.secret message) = digest_sha1 _ in
    omega (arith, length-encode_with lower_digits (hmac_sha1 key.secret message), digest.size)

mac-bytes : (key : Key) (message : List ℕ) → IsBytes (mac_of key message)
mac-bytes key message = λ i.
    let digits : IsAscii lower_digits = small lower_digits refl in
    let ascii = IsAscii-encode_with lower_digits (hmac_sha1 key.secret message) digits in
    omega (arith, ascii i)

decoded-mac : (key : Key) (message : List ℕ) → decoded (encode_of standard (mac_of key message)) ≡ Some (mac_of key message)
decoded-mac key message =
    let read : decode_of standard (encode_of standard (mac_of key message)) ≡ Ok (mac_of key message) =
    decode_of-encode_of standard (mac_of key message) (search rules) (mac-bytes key message) in
    rw (read, mac-size key message) refl

-- a test that all pass is passed by each
all_at : {X : Type 0} (test : X → Bool) (xs : List X) (i : ℕ) (x : X) → list_all test xs ≡ true → slice_get xs i ≡ Some x → test x ≡ true
all_at test [] i x h is = cc
all_at test (y ∷ xs) zero x h is = let same : y ≡ x = cc in subst (λ w. test w ≡ true) same (first_true _ _ h)
all_at test (y ∷ xs) (suc i) x h is = all_at test xs i x (second_true _ _ h) is

-- the header of a key of the table is checked as that key's
pub checked-header_of : (keys : List Key) (place : ℕ) (key : Key) (message : List ℕ) → IsTable keys → slice_get keys place ≡ Some key
    → checked keys (Some (header_of key message)) message ≡ Ok key
checked-header_of keys place key message table is =
    let good : is_key_id key.id ≡ true = all_at (λ (k : Key). is_key_id k.id) keys place key table.ids is in
    let visible : list_all is_visible key.id ≡ true = second_true _ _ good in
    let found : key_of keys key.id ≡ Some key = key_at keys key.id place (place_of-distinct keys place key table.distinct is) ∙ is in
    let right : bytes_eq (mac_of key message) (mac_of key message) ≡ true = (bytes_eq-Decides (mac_of key message) (mac_of key message)).1 refl in
    checked-split keys key.id (encode_of standard (mac_of key message)) message visible
    ∙ rw (decoded-mac key message, found, right) refl

-- a header that is cut at its first space is checked by these parts
pub checked-cut : (keys : List Key) (header id code message : List ℕ) → position_or_len (λ b. b == 32) header < length header
    → id ≡ before_first (λ b. b == 32) header → code ≡ after_first (λ b. b == 32) header
    → checked keys (Some header) message ≡ checked_parts keys id (decoded code) message
checked-cut keys header id code message some before after = rw (before, after, lt-ltb _ _ some) refl

-- the parts of a header, of which the mac was decoded, under an id that no key has
pub parts-unknown : (keys : List Key) (id mac message : List ℕ) (decoded_ : Option (List ℕ)) → decoded_ ≡ Some mac → place_of keys id ≡ None
    → checked_parts keys id decoded_ message ≡ Err UnknownKey
parts-unknown keys id mac message decoded_ is none = rw (is, no_key keys id none) refl

-- and under the id of the key at a place, whose mac it is or isn't
parts-known : (keys : List Key) (id mac message : List ℕ) (decoded_ : Option (List ℕ)) (place : ℕ) (key : Key) → decoded_ ≡ Some mac → place_of keys id ≡ Some place
    → slice_get keys place ≡ Some key → checked_parts keys id decoded_ message ≡ checked_mac (Some key) mac message
parts-known keys id mac message decoded_ place key is at found = rw (is, key_at keys id place at, found) refl

pub parts-right : (keys : List Key) (id mac message : List ℕ) (decoded_ : Option (List ℕ)) (place : ℕ) (key : Key) → decoded_ ≡ Some mac → place_of keys id ≡ Some place
    → slice_get keys place ≡ Some key → is_mac key mac message ≡ true → IsSomeAnd (slice_get keys place) (λ found. checked_parts keys id decoded_ message ≡ Ok found)
parts-right keys id mac message decoded_ place key is at found right =
    let checks = parts-known keys id mac message decoded_ place key is at found in
    rw found (checks ∙ rw right refl)

pub parts-wrong : (keys : List Key) (id mac message : List ℕ) (decoded_ : Option (List ℕ)) (place : ℕ) (key : Key) → decoded_ ≡ Some mac → place_of keys id ≡ Some place
    → slice_get keys place ≡ Some key → is_mac key mac message ≡ false → checked_parts keys id decoded_ message ≡ Err WrongMac
parts-wrong keys id mac message decoded_ place key is at found wrong =
    parts-known keys id mac message decoded_ place key is at found ∙ rw wrong refl

-- the text of a header is that of the key, and checked as that key's
pub header-told : {E : Type 0} (keys : List Key) (place : ℕ) (key : Key) (message : List ℕ) (r : Result (String Global) E) → slice_get keys place ≡ Some key
    → IfOk r (λ text. string_bytes text ≡ header_of key message) → IfOk r (λ text. option_map (λ found. header_of found message) (slice_get keys place) ≡ Some (string_bytes text))
header-told keys place key message r is h =
    IfOk-weaker r _ (λ text. option_map (λ found. header_of found message) (slice_get keys place) ≡ Some (string_bytes text)) (λ text spelt. rw is (ap Some (sym spelt))) h

pub header-accepted : {E : Type 0} (keys : List Key) (place : ℕ) (key : Key) (message : List ℕ) (r : Result (String Global) E) → IsTable keys → slice_get keys place ≡ Some key
    → IfOk r (λ text. string_bytes text ≡ header_of key message) → IfOk r (λ text. IsSomeAnd (slice_get keys place) (λ found. checked keys (Some (string_bytes text)) message ≡ Ok found))
header-accepted keys place key message r table is h =
    IfOk-weaker r _ (λ text. IsSomeAnd (slice_get keys place) (λ found. checked keys (Some (string_bytes text)) message ≡ Ok found))
    (λ text spelt. rw is (ap (λ w. checked keys (Some w) message) spelt ∙ checked-header_of keys place key message table is)) h

-- an element that was indexed stands at its place
pub slice_get-index : {X : Type 0} (xs : List X) (i : ℕ) (x : X) → i < length xs → x ≡ get_or xs i x → slice_get xs i ≡ Some x
slice_get-index xs i x h is = slice_get-get_or xs i x h ∙ ap Some (sym is)
