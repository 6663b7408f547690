-- The catalogue of a place, and its bytes.
use Rattle.std.specs.Prelude.{◌≡◌, ℕ, ◌≤◌, Bool, true, false, not, ◌&&◌, bytes_eq, List, ◌++◌, length, codes, Contains}
use Rattle.std.specs.declared.cmp.Ordering.{Ordering}
use Rattle.std.specs.Int.{w32, to_be_bytes}
use Rattle.std.specs.List.{flat_map, list_any, All, AllByRecursion}
use Rattle.std.specs.List.Sorted.{IsStrictlySortedBy}
use Rattle.cv_base.specs.BytesOrder.{bytes_cmp}
use Rattle.cv_base.specs.Marker.{marker}
use Rattle.cv_base.specs.declared.limits.TheConstants.{OBJECT_LIMIT}
use Rattle.cv_base.specs.Path.{Path, IsPath, text_of, key_of, last_name_of}
use Rattle.cv_rows.specs.Row.{IsRow, row_bytes, same_kind}
use Rattle.cv_rows.specs.Nested.{IsNested, nested_bytes}
use Rattle.cv_rows.specs.Places.{IsRoot, StandsAt}
use Rattle.cv_rows.specs.declared.limits.TheConstants.{ROW_LIMIT}
use Rattle.cv_rows.specs.declared.row.Row.{Row}
use Rattle.cv_rows.specs.declared.nested.Nested.{Nested}
use Rattle.cv_rows.specs.declared.row_kind.RowKind.TheVariants.{Directory, Transition, NestedRoot, File}

-- what a catalogue has: the rows and the nested entries of the cut at a place
pub record Contents : Type 0 where
  pub at : Path
  pub rows : List Row
  pub nested : List Nested

-- ---- the spelling

-- the format's name, both counts, the rows and the nested entries
abbrev pub file_of : List Row → List Nested → List ℕ
file_of rows nested =
    codes "CVR1" ++ to_be_bytes w32 (length rows) ++ to_be_bytes w32 (length nested)
    ++ flat_map row_bytes rows ++ flat_map nested_bytes nested

-- the bytes of the row file of a catalogue
abbrev pub catalogue_bytes : Contents → List ℕ
catalogue_bytes c = file_of c.rows c.nested

-- ---- the order

-- rows by key, and nested entries by the text of their path
abbrev pub row_cmp : Row → Row → Ordering
row_cmp a b = bytes_cmp a.key.0 b.key.0

abbrev pub nested_cmp : Nested → Nested → Ordering
nested_cmp a b = bytes_cmp (text_of a.path) (text_of b.path)

-- ---- keys

-- a row fits the path at which it stands: its key is the path's, the path keeps its limits, and the
-- root row has the name of the catalogue's place
pub record FitsAt (at : Path) (r : Row) (q : Path) : Type 0 where
  pub key : r.key.0 ≡ key_of q
  pub path : IsPath q
  pub name : IsRoot at r → r.name ≡ last_name_of at

-- ---- markers

-- a file that marks its directory as the root of a nested catalogue
abbrev pub is_marker : Row → Bool
is_marker r = same_kind r.kind File && bytes_eq r.name marker

-- one stands in the directory of this key
abbrev pub has_marker : List Row → List ℕ → Bool
has_marker rows key = list_any (λ f. is_marker f && bytes_eq f.parent.0 key) rows

-- a Directory that isn't the root row has no marker; a NestedRoot has one
abbrev pub IsMarkedSo : Path → Row → Bool → Type 0
IsMarkedSo at r is_marked = (r.kind ≡ Directory → (IsRoot at r → ⊥) → is_marked ≡ false) × (r.kind ≡ NestedRoot → is_marked ≡ true)

abbrev pub IsMarkedWell : Path → List Row → Row → Type 0
IsMarkedWell at rows r = IsMarkedSo at r (has_marker rows r.key.0)

-- ---- nested entries

-- the path is that of a Transition row
pub record IsTransitionAt (at : Path) (rows : List Row) (q : Path) : Type 0 where
  pub row : Row
  pub kind : row.kind ≡ Transition
  pub stands : StandsAt at rows row q

-- the row, if it is a Transition, has a nested entry
abbrev pub IsListed : Path → List Row → List Nested → Row → Type 0
IsListed at rows nested r = r.kind ≡ Transition → (n : Nested) × Contains nested n × StandsAt at rows r n.path

-- ---- all rules

-- The rules of a catalogue but for its limits and its order, which hold of rows and nested entries in
-- any order. There is a root row. Each row stands at a path that it fits. Directories are marked well.
-- The nested entries are those of the Transition rows.
pub record IsRegion (at : Path) (rows : List Row) (nested : List Nested) : Type 0 where
  pub place : IsPath at
  pub spelled : AllByRecursion IsRow rows
  pub nested_spelled : AllByRecursion IsNested nested
  pub root : (r : Row) × Contains rows r × IsRoot at r
  pub placed : All (λ r. (q : Path) × StandsAt at rows r q × FitsAt at r q) rows
  pub marked : All (IsMarkedWell at rows) rows
  pub named : All (λ n. IsTransitionAt at rows n.path) nested
  pub listed : All (IsListed at rows nested) rows

-- a catalogue: these rules, rows in strictly ascending order of key, nested entries in strictly
-- ascending order of their paths' texts, at most 50,000 rows, and at most 16 MiB
pub record IsCatalogue (c : Contents) : Type 0 where
  pub region : IsRegion c.at c.rows c.nested
  pub ordered : IsStrictlySortedBy row_cmp c.rows
  pub nested_ordered : IsStrictlySortedBy nested_cmp c.nested
  pub count : length c.rows ≤ ROW_LIMIT
  pub size : length (catalogue_bytes c) ≤ OBJECT_LIMIT

-- the row has this key as its parent key, and isn't the row of the key
abbrev pub is_below : Row → List ℕ → Bool
is_below r key = bytes_eq r.parent.0 key && not (bytes_eq r.key.0 key)
