-- The rows that stand directly in a directory.
use Rattle.std.specs.Prelude.{◌≡◌, ◌↔◌, Bool, true, ℕ, List, [], ◌∷◌, ◌++◌}
use Rattle.std.specs.List.{filter}
use Rattle.cv_base.specs.Path.{Path}
use Rattle.cv_rows.specs.Catalogue.{Contents}
use Rattle.cv_rows.specs.Places.{IsRoot, StandsAt}
use Rattle.cv_rows.specs.declared.row.Row.{Row}

-- these are the rows of c, but for its root row, that stand directly in the directory at p, in their order
pub record IsListing (c : Contents) (p : Path) (rows : List Row) : Type 0 where
  pub lists : Row → Bool
  pub lists_is : (r : Row) (q : Path) → StandsAt c.at c.rows r q → (lists r ≡ true) ↔ ((IsRoot c.at r → ⊥) × (name : List ℕ) × (q ≡ p ++ name ∷ []))
  pub rows_are : rows ≡ filter lists c.rows
