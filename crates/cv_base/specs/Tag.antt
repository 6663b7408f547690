-- The tag of a revision.
use Rattle.std.specs.Prelude.{ℕ, Bool, ◌&&◌, nat_le, List, length}
use Rattle.std.specs.List.{list_all}
use Rattle.std.specs.Str.{is_utf8}
use Rattle.cv_base.specs.declared.limits.TheConstants.{TAG_LIMIT}

-- a byte of a tag, which is no control byte
abbrev pub is_tag_byte : ℕ → Bool
is_tag_byte b = nat_le 32 b

-- at most 255 bytes of UTF-8, and no control bytes
abbrev pub is_tag : List ℕ → Bool
is_tag tag = is_utf8 tag && nat_le (length tag) TAG_LIMIT && list_all is_tag_byte tag
