-- The id of a publisher's key.
use Rattle.std.specs.Prelude.{ℕ, Bool, ◌&&◌, nat_le, List, length}
use Rattle.std.specs.List.{list_all}
use Rattle.cv_base.specs.declared.limits.TheConstants.{KEY_ID_LIMIT}

-- an ASCII character that is seen, so that no id has a space
abbrev pub is_visible : ℕ → Bool
is_visible b = nat_le 33 b && nat_le b 126

-- 1 to 255 such characters
abbrev pub is_key_id : List ℕ → Bool
is_key_id id = nat_le 1 (length id) && nat_le (length id) KEY_ID_LIMIT && list_all is_visible id
