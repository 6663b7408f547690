-- A row, and its bytes.
use Rattle.std.specs.Prelude.{◌≡◌, ℕ, ◌+◌, ◌≤◌, Bool, true, false, ◌&&◌, ◌==◌, nat_le, bytes_eq, List, [], ◌∷◌, ◌++◌, length, Option, Some, None, IsSomeAnd}
use Rattle.std.specs.Int.{w32, w64, to_be_bytes}
use Rattle.hex.specs.Hex.{IsBytes}
use Rattle.cv_base.specs.declared.limits.TheConstants.{OBJECT_LIMIT}
use Rattle.cv_base.specs.Attr.{IsAttr}
use Rattle.cv_base.specs.Digest.{IsDigest}
use Rattle.cv_base.specs.Fields.{text_field}
use Rattle.cv_base.specs.Path.{is_path_name, no_key}
use Rattle.cv_base.specs.Target.{is_target}
use Rattle.cv_rows.specs.declared.row.Row.{Row}
use Rattle.cv_rows.specs.declared.row_kind.RowKind.{RowKind}
use Rattle.cv_rows.specs.declared.row_kind.RowKind.TheVariants.{Directory, Transition, NestedRoot, File, Link}

-- ---- kinds

-- the flags: 1 directory, 2 transition point, 4 file, 8 symbolic link, 32 root of a nested catalogue
abbrev pub flags_of : RowKind → ℕ
flags_of Directory = 1
flags_of Transition = 3
flags_of NestedRoot = 33
flags_of File = 4
flags_of Link = 12

-- the bits of the file type in the mode: 0o040000, 0o100000 or 0o120000
abbrev pub type_bits : RowKind → ℕ
type_bits Directory = 16384
type_bits Transition = 16384
type_bits NestedRoot = 16384
type_bits File = 32768
type_bits Link = 40960

-- whether other rows of the catalogue can stand below a row of this kind
abbrev pub holds_rows : RowKind → Bool
holds_rows Directory = true
holds_rows Transition = false
holds_rows NestedRoot = true
holds_rows File = false
holds_rows Link = false

abbrev pub same_kind : RowKind → RowKind → Bool
same_kind a b = flags_of a == flags_of b

-- ---- the conditions that a row has a spelling

-- a key: sixteen bytes
pub record IsKey (key : List ℕ) : Type 0 where
  pub size : length key ≡ 16
  pub bytes : IsBytes key

-- a name in a path. It is empty only in a row whose parent key is zero bytes
abbrev pub is_row_name : List ℕ → List ℕ → Bool
is_row_name parent [] = bytes_eq parent no_key
is_row_name parent name = is_path_name name

-- 1 to 4,095 bytes of UTF-8 without NUL
abbrev pub is_link_target : List ℕ → Bool
is_link_target target = nat_le 1 (length target) && is_target target

-- the size, the hash and the target that stand in a row of this kind
abbrev pub HasContent : RowKind → ℕ → Option (List ℕ) → List ℕ → Type 0
HasContent Directory size hash target = (size ≡ 0) × (hash ≡ None) × (target ≡ [])
HasContent Transition size hash target = (size ≡ 0) × (hash ≡ None) × (target ≡ [])
HasContent NestedRoot size hash target = (size ≡ 0) × (hash ≡ None) × (target ≡ [])
HasContent File size hash target = (size ≤ OBJECT_LIMIT) × IsSomeAnd hash IsDigest × (target ≡ [])
HasContent Link size hash target = (size ≡ length target) × (hash ≡ None) × (is_link_target target ≡ true)

pub record IsRow (r : Row) : Type 0 where
  pub key : IsKey r.key.0
  pub parent : IsKey r.parent.0
  pub attr : IsAttr r.attr
  pub content : HasContent r.kind r.size r.hash r.target
  pub name : is_row_name r.parent.0 r.name ≡ true

-- ---- the bytes

-- a length of one byte, which is 0 or 20, and the bytes of the hash
abbrev pub hash_field : Option (List ℕ) → List ℕ
hash_field None = 0 ∷ []
hash_field (Some hash) = 20 ∷ hash

-- the fields of a row, one after another
abbrev pub row_bytes : Row → List ℕ
row_bytes r =
    r.key.0 ++ r.parent.0
    ++ to_be_bytes w32 (flags_of r.kind)
    ++ to_be_bytes w32 (type_bits r.kind + r.attr.mode)
    ++ to_be_bytes w64 r.attr.mtime
    ++ to_be_bytes w32 r.attr.uid ++ to_be_bytes w32 r.attr.gid
    ++ to_be_bytes w64 r.size
    ++ hash_field r.hash
    ++ text_field r.name
    ++ text_field r.target
