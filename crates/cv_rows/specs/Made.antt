-- Catalogues that are made of rows and nested entries in any order.
use Rattle.std.specs.Prelude.{◌≡◌, ℕ, ◌<◌, ◌⊎◌, List, length, map, Some, slice_get}
use Rattle.std.specs.FinMap.{from_entries, values}
use Rattle.cv_base.specs.BytesOrder.{bytes_cmp}
use Rattle.cv_base.specs.declared.limits.TheConstants.{OBJECT_LIMIT}
use Rattle.cv_base.specs.Path.{Path, text_of}
use Rattle.cv_rows.specs.Catalogue.{Contents, IsRegion, file_of}
use Rattle.cv_rows.specs.declared.limits.TheConstants.{ROW_LIMIT}
use Rattle.cv_rows.specs.declared.row.Row.{Row}
use Rattle.cv_rows.specs.declared.nested.Nested.{Nested}

abbrev pub keys_of : List Row → List (List ℕ)
keys_of rows = map (λ r. r.key.0) rows

abbrev pub texts_of : List Nested → List (List ℕ)
texts_of nested = map (λ n. text_of n.path) nested

-- x stands at two places of a list
pub record IsTwice (xs : List (List ℕ)) (x : List ℕ) : Type 0 where
  pub first : ℕ
  pub second : ℕ
  pub order : first < second
  pub one : slice_get xs first ≡ Some x
  pub other : slice_get xs second ≡ Some x

-- nothing does
abbrev pub AreApart : List (List ℕ) → Type 0
AreApart xs = (x : List ℕ) → IsTwice xs x → ⊥

-- rows in ascending order of their keys, nested entries in ascending order of the texts of their paths
abbrev pub by_key : List Row → List Row
by_key rows = values (from_entries {R = bytes_cmp} (map (λ r. (r.key.0, r)) rows))

abbrev pub by_text : List Nested → List Nested
by_text nested = values (from_entries {R = bytes_cmp} (map (λ n. (text_of n.path, n)) nested))

abbrev pub in_order : Path → List Row → List Nested → Contents
in_order at rows nested = record { at = at; rows = by_key rows; nested = by_text nested }

-- where no two rows have one key, they keep the rules of a catalogue at this place, but that they may stand in any order, and
-- that a limit may be passed. Of rows with one key no more is asked: the rules go by keys, and say nothing of them
pub record AreParts (at : Path) (rows : List Row) (nested : List Nested) : Type 0 where
  pub region : AreApart (keys_of rows) → IsRegion at rows nested
  pub apart : AreApart (texts_of nested)

-- more than 50,000 rows, or more than 16 MiB of bytes
abbrev pub PassesLimit : List Row → List Nested → Type 0
PassesLimit rows nested = (ROW_LIMIT < length rows) ⊎ (OBJECT_LIMIT < length (file_of rows nested))
