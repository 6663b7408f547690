-- The name of a repository.
use Rattle.std.specs.Prelude.{ℕ, Bool, ◌&&◌, ◌||◌, ◌==◌, nat_le, List, length, Option, Some, None, if◌then◌else◌}
use Rattle.std.specs.List.{list_all}
use Rattle.cv_base.specs.declared.name.TheConstants.{NAME_LIMIT}

-- an ASCII letter or digit, '.', '-' or '_'
abbrev pub is_name_byte : ℕ → Bool
is_name_byte c =
    (nat_le 97 c && nat_le c 122) || (nat_le 65 c && nat_le c 90) || (nat_le 48 c && nat_le c 57) || c == 46 || c == 45 || c == 95

-- 1 to 255 such bytes
abbrev pub is_name : List ℕ → Bool
is_name text = nat_le 1 (length text) && nat_le (length text) NAME_LIMIT && list_all is_name_byte text

-- the name that a text is, if it is one
abbrev pub name_of : List ℕ → Option (List ℕ)
name_of text = if is_name text then Some text else None
