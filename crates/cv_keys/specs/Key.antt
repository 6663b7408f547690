-- Keys, and the table of a gateway's keys.
use Rattle.std.specs.Prelude.{ℕ, ◌≡◌, ◌≤◌, Bool, true, not, ◌&&◌, nat_le, List, [], ◌∷◌, length, Option}
use Rattle.std.specs.List.{list_all, list_any, find}
use Rattle.std.specs.Str.{bytes_eq}
use Rattle.cv_keys.specs.declared.key.Key.{Key}
use Rattle.cv_keys.specs.declared.read_keys.TheConstants.{KEY_LIMIT, SECRET_LIMIT}
pub use Rattle.cv_base.specs.KeyId.{is_visible, is_key_id}

-- a secret: 1 to 255 bytes
abbrev pub is_secret : List ℕ → Bool
is_secret secret = nat_le 1 (length secret) && nat_le (length secret) SECRET_LIMIT

-- one of the keys has this id
abbrev pub has_id : List Key → List ℕ → Bool
has_id keys id = list_any (λ key. bytes_eq key.id id) keys

-- no two keys have one id
abbrev pub is_distinct : List Key → Bool
is_distinct [] = true
is_distinct (key ∷ keys) = not (has_id keys key.id) && is_distinct keys

-- the key of this id
abbrev pub key_of : List Key → List ℕ → Option Key
key_of keys id = find (λ key. bytes_eq key.id id) keys

-- a table: 1 to 256 keys, each with an id of its own
pub record IsTable (keys : List Key) : Type 0 where
  pub some : 1 ≤ length keys
  pub few : length keys ≤ KEY_LIMIT
  pub ids : list_all (λ key. is_key_id key.id) keys ≡ true
  pub distinct : is_distinct keys ≡ true
