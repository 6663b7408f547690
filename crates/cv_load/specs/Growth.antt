-- How a tree grows by the rows of catalogues.
use Rattle.std.specs.Prelude.{◌≡◌, ◌⊎◌, List, Some, Contains}
use Rattle.std.specs.FinMap.{get}
use Rattle.cv_base.specs.Path.{Path}
use Rattle.cv_tree.specs.Tree.{Nodes, single}
use Rattle.cv_tree.specs.declared.node.Node.{Node}
use Rattle.cv_tree.specs.declared.node.Node.TheVariants as node
use Rattle.cv_rows.specs.Catalogue.{Contents}
use Rattle.cv_rows.specs.Places.{IsRoot, StandsAt}
use Rattle.cv_rows.specs.declared.row.Row.{Row}
use Rattle.cv_cut.specs.Told.{node_of}

-- ---- growth

-- no node is lost or changed
abbrev pub Grows : Nodes → Nodes → Type 0
Grows old new = (q : Path) (n : Node) → get old q ≡ Some n → get new q ≡ Some n

-- the node is that of a row which stands there
pub record IsRowNode (at : Path) (rows : List Row) (q : Path) (n : Node) : Type 0 where
  pub row : Row
  pub stands : StandsAt at rows row q
  pub is : n ≡ node_of row

-- the tree grew, and what came is of these rows
pub record GrowsBy (at : Path) (rows : List Row) (old new : Nodes) : Type 0 where
  pub grows : Grows old new
  pub comes : (q : Path) (n : Node) → get new q ≡ Some n → (get old q ≡ Some n) ⊎ IsRowNode at rows q n

-- the root row of the catalogue is the only node of the tree
abbrev pub IsRootOf : Contents → Nodes → Type 0
IsRootOf c t = (r : Row) × Contains c.rows r × IsRoot c.at r × (t ≡ single (node.Dir r.attr))
