-- Which directories there are by what stands on a shelf, whether or not the root means a tree.
use Rattle.std.specs.Prelude.{◌≡◌, ◌⊎◌, ℕ, Bool, true, false, List, []}
use Rattle.cv_base.specs.Path.{Path}
use Rattle.cv_ports.specs.Shelf.{Shelf}
use Rattle.cv_rows.specs.Catalogue.{Contents}
use Rattle.cv_rows.specs.Places.{StandsAt}
use Rattle.cv_rows.specs.declared.row.Row.{Row}
use Rattle.cv_cut.specs.Reached.{Place, HasCatalogue}
use Rattle.cv_graft.specs.Places.{stands_for_directory}
use Rattle.cv_graft.specs.Way.{HasNone, IsOnWay}

-- The catalogue stands on the shelf, on the way to the path, and none of its nested entries is properly above the path.
pub record IsHolder (shelf : Shelf) (root : List ℕ) (p : Path) (c : Contents) : Type 0 where
  pub hash : List ℕ
  pub place : Place
  pub on : IsOnWay shelf root p hash place
  pub has : HasCatalogue shelf hash place c
  pub none : HasNone c p

-- the row at the path says whether it is a directory in the catalogue; where none stands there, it isn't
pub data HasDirectory (c : Contents) (p : Path) : Bool → Type 0 where
  stands : (r : Row) → StandsAt c.at c.rows r p → HasDirectory c p (stands_for_directory r.kind)
  absent : ((r : Row) → StandsAt c.at c.rows r p → ⊥) → HasDirectory c p false

-- the root is a directory; another path is one by the catalogue that directly holds it, on the way to it
abbrev pub IsFound : Shelf → List ℕ → Path → Bool → Type 0
IsFound shelf root p found = ((p ≡ []) × (found ≡ true)) ⊎ ((c : Contents) × IsHolder shelf root p c × HasDirectory c p found)
