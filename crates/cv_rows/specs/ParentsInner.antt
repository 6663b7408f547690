-- The parents of rows, by index. What only this crate's own functions say.
use Rattle.std.specs.Prelude.{◌≡◌, ◌≢◌, Bool, false, ℕ, zero, suc, ◌+◌, ◌<◌, ◌≤◌, List, length, Option, Some, None, slice_index, slice_index_or, Contains}
use Rattle.std.specs.List.{HoldsAt}
use Rattle.std.specs.List.Sorted.{IsStrictlySortedBy}
use Rattle.cv_base.specs.Path.{Path, IsPath, covers}
use Rattle.cv_rows.specs.Catalogue.{row_cmp}
use Rattle.cv_rows.specs.Places.{IsRoot, IsChild, StandsAt}
use Rattle.cv_rows.specs.declared.row.Row.{Row}

-- j is the index of the parent of the row at i, or the count of rows where it has none. That of the root row is its own
pub record IsParentOf (rows : List Row) (root i j : ℕ) : Type 0 where
  pub bound : j ≤ length rows
  pub root_is : i ≡ root → j ≡ root
  pub some : i ≢ root → j < length rows → (d : Row) → IsChild (slice_index_or rows i d) (slice_index_or rows j d)
  pub none : i ≢ root → length rows ≤ j → (d p : Row) → Contains rows p → IsChild (slice_index_or rows i d) p → ⊥

-- the parent of each row; behind them stands the count of rows, as its own parent
pub record AreParents (rows : List Row) (root : ℕ) (parents : List ℕ) : Type 0 where
  pub size : length parents ≡ length rows + 1
  pub each : (i : ℕ) → i < length rows → IsParentOf rows root i (slice_index parents i)
  pub last : slice_index parents (length rows) ≡ length rows

-- rows in order, with the index of the root row of the catalogue at this place and the parents of all
pub record IsPlacing (at : Path) (rows : List Row) (root : ℕ) (parents : List ℕ) : Type 0 where
  pub ordered : IsStrictlySortedBy row_cmp rows
  pub inside : root < length rows
  pub is_root : HoldsAt (IsRoot at) rows root
  pub are : AreParents rows root parents

-- one step up, and so many
abbrev pub step : List ℕ → ℕ → ℕ
step parents i = slice_index parents i

unfoldable pub times : List ℕ → ℕ → ℕ → ℕ
times parents zero i = i
times parents (suc n) i = times parents n (step parents i)

-- what stands so many steps above each
pub record AreAbove (n : ℕ) (parents far : List ℕ) : Type 0 where
  pub size : length far ≡ length parents
  pub each : (i : ℕ) → i < length parents → slice_index far i ≡ times parents n i

-- each parent is the index of one
abbrev pub AreInside : List ℕ → Type 0
AreInside parents = (i : ℕ) → i < length parents → slice_index parents i < length parents

-- what is found of the path of the row at an index: where none is, each at which it stands passes a
-- limit, or has more than `left` names behind those of the place
abbrev pub IsPathOf : Path → List Row → ℕ → ℕ → Option Path → Type 0
IsPathOf at rows i left None = (d : Row) (q : Path) → StandsAt at rows (slice_index_or rows i d) q → IsPath q → length at + left < length q
IsPathOf at rows i left (Some path) = IsPath path × ((d : Row) → StandsAt at rows (slice_index_or rows i d) path)

-- what is found of the path of the row at an index: none where it passes the limits of a path
abbrev pub HasPath : Path → List Row → ℕ → Option Path → Type 0
HasPath at rows i None = (d : Row) (q : Path) → StandsAt at rows (slice_index_or rows i d) q → IsPath q → ⊥
HasPath at rows i (Some path) = IsPath path × ((d : Row) → StandsAt at rows (slice_index_or rows i d) path)

-- the path, if one was found, is covered
abbrev pub is_covered : Path → Option Path → Bool
is_covered path None = false
is_covered path (Some found) = covers path found
