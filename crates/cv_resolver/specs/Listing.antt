-- The names in a directory, by its catalogue.
use Rattle.std.specs.Prelude.{ℕ, List, [], ◌∷◌, ◌++◌, Contains}
use Rattle.std.specs.List.Sorted.{IsStrictlySortedBy}
use Rattle.cv_base.specs.Path.{Path}
use Rattle.cv_base.specs.BytesOrder.{bytes_cmp}
use Rattle.cv_rows.specs.Catalogue.{Contents}
use Rattle.cv_rows.specs.Places.{IsRoot, StandsAt}
use Rattle.cv_rows.specs.declared.row.Row.{Row}

-- a row but for the root row stands at the name in the directory
pub record IsNameAt (c : Contents) (p : Path) (name : List ℕ) : Type 0 where
  pub row : Row
  pub stands : StandsAt c.at c.rows row (p ++ name ∷ [])
  pub other : IsRoot c.at row → ⊥

-- these are all such names, in ascending order of their bytes
pub record AreNames (c : Contents) (p : Path) (names : List (List ℕ)) : Type 0 where
  pub sorted : IsStrictlySortedBy bytes_cmp names
  pub each : (name : List ℕ) → Contains names name → IsNameAt c p name
  pub all : (name : List ℕ) → IsNameAt c p name → Contains names name
