-- The target of a link.
use Rattle.std.specs.Prelude.{ℕ, Bool, not, ◌&&◌, ◌==◌, nat_le, List, length, Option, Some, None, if◌then◌else◌}
use Rattle.std.specs.List.{list_all}
use Rattle.std.specs.Str.{is_utf8}
use Rattle.cv_base.specs.declared.target.TheConstants.{TARGET_LIMIT}

-- any byte but NUL
abbrev pub is_target_byte : ℕ → Bool
is_target_byte b = not (b == 0)

-- a text of at most 4,095 bytes without NUL
abbrev pub is_target : List ℕ → Bool
is_target text = is_utf8 text && nat_le (length text) TARGET_LIMIT && list_all is_target_byte text

-- the target that a text is, if it is one
abbrev pub target_of : List ℕ → Option (List ℕ)
target_of text = if is_target text then Some text else None
