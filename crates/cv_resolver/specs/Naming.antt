-- What catalogues name: the cuts below, and the contents of files.
use Rattle.std.specs.Prelude.{◌≡◌, ◌⊎◌, ℕ, List, Some, Contains}
use Rattle.cv_rows.specs.Catalogue.{Contents}
use Rattle.cv_rows.specs.Places.{StandsAt}
use Rattle.cv_rows.specs.declared.row.Row.{Row}
use Rattle.cv_rows.specs.declared.nested.Nested.{Nested}
use Rattle.cv_rows.specs.declared.row_kind.RowKind.TheVariants as kind
use Rattle.cv_resolver.specs.declared.spot.Level.{Level}

-- the catalogue names the level: it has its Transition row, and a nested entry of its path and hash
pub record NamesCut (c : Contents) (l : Level) : Type 0 where
  pub row : Row
  pub is : l.row ≡ Some row
  pub kind : row.kind ≡ kind.Transition
  pub stands : StandsAt c.at c.rows row l.path
  pub entry : Nested
  pub listed : Contains c.nested entry
  pub path : l.path ≡ entry.path
  pub hash : l.hash ≡ entry.hash

-- or the catalogue names it
abbrev pub AreKnown : Contents → List Level → List Level → Type 0
AreKnown c known levels = (l : Level) → Contains levels l → Contains known l ⊎ NamesCut c l

-- the catalogue has a file of this digest
pub record NamesFile (c : Contents) (hash : List ℕ) : Type 0 where
  pub row : Row
  pub there : Contains c.rows row
  pub kind : row.kind ≡ kind.File
  pub digest : row.hash ≡ Some hash
