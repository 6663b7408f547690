-- What one catalogue has outside a path, with what another has at the path and below it.
use Rattle.std.specs.Prelude.{◌≡◌, ◌≢◌, List, ◌++◌, Contains}
use Rattle.cv_base.specs.Path.{Path}
use Rattle.cv_rows.specs.Catalogue.{Contents}
use Rattle.cv_rows.specs.Made.{PassesLimit, in_order}
use Rattle.cv_rows.specs.Places.{StandsAt}
use Rattle.cv_rows.specs.Within.{IsWithin}
use Rattle.cv_rows.specs.Without.{IsWithout}
use Rattle.cv_rows.specs.declared.row.Row.{Row}
use Rattle.cv_rows.specs.declared.nested.Nested.{Nested}
use Rattle.cv_graft.specs.Places.{HasPlace}

-- the rows and nested entries of c, in which the path p has a place, that p doesn't cover, and those of o that it covers
pub record Parts (c o : Contents) (p : Path) : Type 0 where
  pub place : HasPlace c p
  pub rest : Contents
  pub rows : List Row
  pub nested : List Nested
  pub without : IsWithout c p rest
  pub within : IsWithin o p rows nested

-- no key stands in both
abbrev pub AreCrossed : List Row → List Row → Type 0
AreCrossed left right = (a b : Row) → Contains left a → Contains right b → a.key.0 ≢ b.key.0

-- one does, of rows that stand at these paths
pub record Collides (c o : Contents) (left right : List Row) (a b : Path) : Type 0 where
  pub first : Row
  pub second : Row
  pub stays : Contains left first
  pub comes : Contains right second
  pub stands : StandsAt c.at left first a
  pub stood : StandsAt o.at o.rows second b
  pub keys : first.key.0 ≡ second.key.0

-- what comes of putting them together
pub record IsJoined (c o : Contents) (p : Path) (made : Contents) : Type 0 where
  pub parts : Parts c o p
  pub crossed : AreCrossed parts.rest.rows parts.rows
  pub fits : PassesLimit (parts.rest.rows ++ parts.rows) (parts.rest.nested ++ parts.nested) → ⊥
  pub is : made ≡ in_order c.at (parts.rest.rows ++ parts.rows) (parts.rest.nested ++ parts.nested)

-- or a key stands in both, of rows that stand at these paths
pub record CollidesAt (c o : Contents) (p : Path) (a b : Path) : Type 0 where
  pub parts : Parts c o p
  pub collides : Collides parts.rest o parts.rest.rows parts.rows a b

-- or they are too many, or their catalogue has too many bytes
pub record IsFullAt (c o : Contents) (p : Path) (at : Path) : Type 0 where
  pub parts : Parts c o p
  pub crossed : AreCrossed parts.rest.rows parts.rows
  pub place : at ≡ c.at
  pub full : PassesLimit (parts.rest.rows ++ parts.rows) (parts.rest.nested ++ parts.nested)
