-- Reading the fields of a row file, one after another from its first byte on: its rows and nested entries, or the first fault.
-- Bytes that are a row file's are read so, and no others are (`file_of` spells them). Where a value isn't as it has to be the fault
-- is the offset of its field; that of a text is the offset of the length where it passes its limit, and of the bytes otherwise. The
-- size of a link is judged at once where no target has that size, and once the target is there otherwise.
use Rattle.std.specs.Prelude.{ℕ, zero, suc, ◌+◌, ◌-◌, Bool, true, not, ◌&&◌, ◌==◌, nat_le, nat_lt, bytes_eq, if◌then◌else◌, List, [], ◌∷◌, length, take, drop, codes, Option, Some, None, Result, Ok, Err}
use Rattle.std.specs.Int.{w32, w64, from_be_bytes}
use Rattle.cv_base.specs.Fields.{accepted, bad, number_at, bytes_at, length_at}
use Rattle.cv_base.specs.Path.{Path}
use Rattle.cv_base.specs.PathText.{path_named}
use Rattle.cv_base.specs.Target.{is_target}
use Rattle.cv_base.specs.Sequence.{◌>>=◌}
use Rattle.cv_base.specs.declared.attr.Attr.{Attr}
use Rattle.cv_base.specs.declared.limits.TheConstants.{MODE_LIMIT, OBJECT_LIMIT}
use Rattle.cv_base.specs.declared.path_name.TheConstants.{PATH_NAME_LIMIT}
use Rattle.cv_base.specs.declared.repo_path.TheConstants.{PATH_LIMIT}
use Rattle.cv_base.specs.declared.target.TheConstants.{TARGET_LIMIT}
use Rattle.cv_rows.specs.Row.{type_bits, is_row_name}
use Rattle.cv_rows.specs.declared.limits.TheConstants.{ROW_LIMIT}
use Rattle.cv_rows.specs.declared.row.Row.{Row}
use Rattle.cv_rows.specs.declared.nested.Nested.{Nested}
use Rattle.cv_rows.specs.declared.row_kind.RowKind.{RowKind}
use Rattle.cv_rows.specs.declared.row_kind.RowKind.TheVariants.{Directory, Transition, NestedRoot, File, Link}
use Rattle.cv_rows.specs.declared.row_fault.RowFault.{RowFault}
use Rattle.cv_rows.specs.declared.row_fault.RowFault.TheVariants.{Short, BadMagic, BadField, TrailingBytes, TooLarge}

-- Below, `all` is the count of all bytes, and a field is read from the text that begins with it: so its
-- offset is `all` less the bytes of that text. What is read comes with the text after it.

-- ---- the fields of a row

abbrev pub kind_of : ℕ → Option RowKind
kind_of flags =
    if flags == 1 then Some Directory
    else if flags == 3 then Some Transition
    else if flags == 33 then Some NestedRoot
    else if flags == 4 then Some File
    else if flags == 12 then Some Link
    else None

unfoldable pub kind_at : ℕ → List ℕ → Result (RowKind × List ℕ) RowFault
kind_at all text = do
  flags ← number_at Short w32 text
  kind ← accepted (bad BadField all text) (kind_of flags.0)
  Ok (kind, flags.1)

-- the permission bits in a mode with the type bits of this kind
abbrev pub permissions : RowKind → ℕ → Option ℕ
permissions kind mode = if nat_le (type_bits kind) mode && nat_lt mode (type_bits kind + MODE_LIMIT) then Some (mode - type_bits kind) else None

unfoldable pub attr_at : ℕ → RowKind → List ℕ → Result (Attr × List ℕ) RowFault
attr_at all kind text = do
  bits ← number_at Short w32 text
  mode ← accepted (bad BadField all text) (permissions kind bits.0)
  mtime ← number_at Short w64 bits.1
  uid ← number_at Short w32 mtime.1
  gid ← number_at Short w32 uid.1
  Ok (record { mode = mode; mtime = mtime.0; uid = uid.0; gid = gid.0 }, gid.1)

-- a size that a row of this kind may have
abbrev pub is_size : RowKind → ℕ → Bool
is_size Directory size = size == 0
is_size Transition size = size == 0
is_size NestedRoot size = size == 0
is_size File size = nat_le size OBJECT_LIMIT
is_size Link size = nat_le 1 size && nat_le size TARGET_LIMIT

unfoldable pub size_at : ℕ → RowKind → List ℕ → Result (ℕ × List ℕ) RowFault
size_at all kind text = do
  size ← number_at Short w64 text
  if is_size kind size.0 then Ok size else Err (bad BadField all text)

-- the hash, behind the byte of its length
abbrev pub hash_behind : ℕ → RowKind → List ℕ → ℕ → List ℕ → Result (Option (List ℕ) × List ℕ) RowFault
hash_behind all File text len rest = if len == 20 then (bytes_at Short 20 rest >>= λ hash. Ok (Some hash.0, hash.1)) else Err (bad BadField all text)
hash_behind all kind text len rest = if len == 0 then Ok (None, rest) else Err (bad BadField all text)

unfoldable pub hash_at : ℕ → RowKind → List ℕ → Result (Option (List ℕ) × List ℕ) RowFault
hash_at all kind [] = Err Short
hash_at all kind (len ∷ rest) = hash_behind all kind (len ∷ rest) len rest

unfoldable pub name_at : ℕ → List ℕ → List ℕ → Result (List ℕ × List ℕ) RowFault
name_at all parent text = do
  len ← length_at Short (bad BadField all text) PATH_NAME_LIMIT text
  name ← bytes_at Short len.0 len.1
  if is_row_name parent name.0 then Ok name else Err (bad BadField all len.1)

-- the most bytes of a target
abbrev pub target_limit : RowKind → ℕ
target_limit Link = TARGET_LIMIT
target_limit kind = 0

-- the size of a link is the length of its target
abbrev pub is_size_of : RowKind → ℕ → List ℕ → Bool
is_size_of Link size target = length target == size
is_size_of kind size target = true

-- a target, in a row whose size is this and begins the text `sized`
unfoldable pub target_at : ℕ → RowKind → ℕ → List ℕ → List ℕ → Result (List ℕ × List ℕ) RowFault
target_at all kind size sized text = do
  len ← length_at Short (bad BadField all text) (target_limit kind) text
  target ← bytes_at Short len.0 len.1
  if not (is_size_of kind size target.0) then Err (bad BadField all sized)
      else if is_target target.0 then Ok target
      else Err (bad BadField all len.1)

-- the row of these first fields, whose size, hash, name and target begin the text
unfoldable pub row_behind : ℕ → List ℕ → List ℕ → RowKind → Attr → List ℕ → Result (Row × List ℕ) RowFault
row_behind all key parent kind attr text = do
  size ← size_at all kind text
  hash ← hash_at all kind size.1
  name ← name_at all parent hash.1
  target ← target_at all kind size.0 text name.1
  Ok (record { key = record { 0 = key }; parent = record { 0 = parent }; kind = kind; attr = attr; size = size.0; hash = hash.0; name = name.0; target = target.0 }, target.1)

unfoldable pub row_at : ℕ → List ℕ → Result (Row × List ℕ) RowFault
row_at all text = do
  key ← bytes_at Short 16 text
  parent ← bytes_at Short 16 key.1
  kind ← kind_at all parent.1
  attr ← attr_at all kind.0 kind.1
  row_behind all key.0 parent.0 kind.0 attr.0 attr.1

-- ---- the fields of a nested entry

unfoldable pub path_at : ℕ → List ℕ → Result (Path × List ℕ) RowFault
path_at all text = do
  len ← length_at Short (bad BadField all text) PATH_LIMIT text
  name ← bytes_at Short len.0 len.1
  path ← accepted (bad BadField all len.1) (path_named name.0)
  Ok (path, name.1)

unfoldable pub nested_at : ℕ → List ℕ → Result (Nested × List ℕ) RowFault
nested_at all text = do
  path ← path_at all text
  hash ← bytes_at Short 20 path.1
  size ← number_at Short w64 hash.1
  Ok (record { path = path.0; hash = hash.0; size = size.0 }, size.1)

-- ---- the whole file

-- so many of what is read each time
unfoldable pub many_at : {A : Type 0} → (List ℕ → Result (A × List ℕ) RowFault) → ℕ → List ℕ → Result (List A × List ℕ) RowFault
many_at one zero text = Ok ([], text)
many_at one (suc n) text = do
  first ← one text
  others ← many_at one n first.1
  Ok (first.0 ∷ others.0, others.1)

abbrev pub Entries : Type 0
Entries = List Row × List Nested

unfoldable pub entries_at : ℕ → ℕ → ℕ → List ℕ → Result Entries RowFault
entries_at all row_count nested_count text = do
  rows ← many_at (row_at all) row_count text
  nested ← many_at (nested_at all) nested_count rows.1
  if length nested.1 == 0 then Ok (rows.0, nested.0) else Err TrailingBytes

-- the four bytes at this offset, as a number
abbrev pub number_in : ℕ → List ℕ → ℕ
number_in offset bytes = from_be_bytes w32 (take 4 (drop offset bytes))

-- more than 16 MiB of bytes, or a count of rows above 50,000, as soon as it is there
abbrev pub is_too_large : List ℕ → Bool
is_too_large bytes = if nat_lt OBJECT_LIMIT (length bytes) then true else nat_le 8 (length bytes) && nat_lt ROW_LIMIT (number_in 4 bytes)

-- the rows and nested entries of all these bytes
unfoldable pub entries_of : List ℕ → Result Entries RowFault
entries_of bytes =
    if is_too_large bytes then Err TooLarge
    else if nat_le 4 (length bytes) && not (bytes_eq (take 4 bytes) (codes "CVR1")) then Err BadMagic
    else if nat_lt (length bytes) 12 then Err Short
    else entries_at (length bytes) (number_in 4 bytes) (number_in 8 bytes) (drop 12 bytes)
