-- The keys text, and its first fault.
use Rattle.std.specs.Prelude.{ℕ, ◌+◌, ◌==◌, Bool, nat_lt, List, [], ◌∷◌, ◌++◌, length, codes, Option, Some, None, is_some, Result, Ok, Err, if◌then◌else◌}
use Rattle.serde_json.specs.Data.{Data, Items}
use Rattle.serde_json.specs.Find.{get, as_str, as_array, as_object}
use Rattle.cv_base.specs.Sequence.{◌>>=◌}
use Rattle.cv_json.specs.Elements.{elements}
use Rattle.cv_json.specs.ObjectText.{object_in}
use Rattle.cv_keys.specs.Key.{is_key_id, is_secret, has_id}
use Rattle.cv_keys.specs.declared.key.Key.{Key}
use Rattle.cv_keys.specs.declared.key_fault.KeyFault.{KeyFault}
use Rattle.cv_keys.specs.declared.read_keys.TheConstants.{KEY_LIMIT}
use Rattle.cv_keys.specs.declared.key_fault.KeyFault.TheVariants.{NotJson, Missing, WrongType, BadValue, Repeated, TooMany, NoKey}

-- a text that has to pass a test
abbrev pub tested_text : ℕ → (List ℕ → Bool) → Option (List ℕ) → Result (List ℕ) KeyFault
tested_text place test None = Err (WrongType place)
tested_text place test (Some text) = if test text then Ok text else Err (BadValue place)

-- a member that has to be such a text
abbrev pub member_text : ℕ → (List ℕ → Bool) → Option Data → Result (List ℕ) KeyFault
member_text place test None = Err (Missing place)
member_text place test (Some d) = tested_text place test (as_str d)

-- the key that an element is: the id is judged before the secret
abbrev pub key_in : ℕ → Data → Result Key KeyFault
key_in place d =
    if is_some (as_object d)
    then (
    member_text place is_key_id (get (codes "id") d) >>= λ id.
    member_text place is_secret (get (codes "secret") d) >>= λ secret.
    Ok (record { id = id; secret = secret })
    )
    else Err (WrongType place)

-- the same behind other keys, none of which may have its id
abbrev pub new_key : List Key → ℕ → Data → Result Key KeyFault
new_key before place d =
    key_in place d >>= λ key.
    if has_id before key.id then Err (Repeated place) else Ok key

-- the keys behind others, in order; faults name places from 1 on
abbrev pub keys_behind : List Key → ℕ → List Data → Result (List Key) KeyFault
keys_behind before place [] = Ok before
keys_behind before place (d ∷ ds) =
    new_key before place d >>= λ key.
    keys_behind (before ++ key ∷ []) (place + 1) ds

-- the keys of an array, whose length is judged before them
abbrev pub array_keys : List Data → Result (List Key) KeyFault
array_keys ds =
    if nat_lt KEY_LIMIT (length ds) then Err TooMany
    else if length ds == 0 then Err NoKey
    else keys_behind [] 1 ds

abbrev pub keys_in_array : Option Items → Result (List Key) KeyFault
keys_in_array None = Err (WrongType 0)
keys_in_array (Some items) = array_keys (elements items)

-- the member `keys`
abbrev pub keys_in_member : Option Data → Result (List Key) KeyFault
keys_in_member None = Err (Missing 0)
keys_in_member (Some d) = keys_in_array (as_array d)

abbrev pub keys_in_object : Option Data → Result (List Key) KeyFault
keys_in_object None = Err NotJson
keys_in_object (Some d) = keys_in_member (get (codes "keys") d)

-- the keys that a text says, or its first fault
abbrev pub keys_of : List ℕ → Result (List Key) KeyFault
keys_of text = keys_in_object (object_in text)
