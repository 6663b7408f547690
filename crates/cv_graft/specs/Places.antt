-- Directories of a catalogue in which a path may stand.
use Rattle.std.specs.Prelude.{◌≡◌, Bool, true, false, List, ℕ, [], ◌∷◌, ◌++◌}
use Rattle.cv_base.specs.Path.{Path}
use Rattle.cv_rows.specs.Row.{holds_rows}
use Rattle.cv_rows.specs.Catalogue.{Contents}
use Rattle.cv_rows.specs.Places.{StandsAt}
use Rattle.cv_rows.specs.declared.row.Row.{Row}
use Rattle.cv_rows.specs.declared.row_kind.RowKind.{RowKind}
use Rattle.cv_rows.specs.declared.row_kind.RowKind.TheVariants.{Directory, Transition, NestedRoot, File, Link}

-- rows of this kind are those of directories
abbrev pub stands_for_directory : RowKind → Bool
stands_for_directory Directory = true
stands_for_directory Transition = true
stands_for_directory NestedRoot = true
stands_for_directory File = false
stands_for_directory Link = false

-- the directory in which the path stands has a row, below which other rows of the catalogue may stand
pub record HasPlace (c : Contents) (p : Path) : Type 0 where
  pub front : Path
  pub name : List ℕ
  pub is : p ≡ front ++ name ∷ []
  pub row : Row
  pub stands : StandsAt c.at c.rows row front
  pub holds : holds_rows row.kind ≡ true
