-- How the nodes of a catalogue come to a tree.
use Rattle.std.specs.Prelude.{◌≡◌, true, List, ◌⊎◌, Some, IsSome, Contains}
use Rattle.std.specs.FinMap.{get}
use Rattle.cv_base.specs.Path.{Path, overlap}
use Rattle.cv_tree.specs.Node.{IsNode}
use Rattle.cv_tree.specs.Tree.{Nodes}
use Rattle.cv_tree.specs.declared.node.Node.{Node}
use Rattle.cv_rows.specs.Catalogue.{Contents}
use Rattle.cv_rows.specs.Places.{StandsAt}
use Rattle.cv_rows.specs.declared.row.Row.{Row}
use Rattle.cv_load.specs.Growth.{Grows, IsRowNode}
use Rattle.cv_cut.specs.Told.{node_of}

-- the nodes of rows of a catalogue, those on the way to the path and at and below it among them
pub record AreNodes (p : Path) (c : Contents) (nodes : List (Path × Node)) : Type 0 where
  pub each : (e : Path × Node) → Contains nodes e → IsRowNode c.at c.rows e.0 e.1
  pub all : (r : Row) (q : Path) → StandsAt c.at c.rows r q → overlap p q ≡ true → Contains nodes (q, node_of r)

-- each keeps the limits of a node
abbrev pub KeepLimits : List (Path × Node) → Type 0
KeepLimits nodes = (e : Path × Node) → Contains nodes e → IsNode e.1

-- no node was lost or changed, and what came is among these
pub record IsGrown (nodes : List (Path × Node)) (old new : Nodes) : Type 0 where
  pub grows : Grows old new
  pub comes : (q : Path) (n : Node) → get new q ≡ Some n → (get old q ≡ Some n) ⊎ Contains nodes (q, n)

-- something stands at the path of each
abbrev pub AreThere : List (Path × Node) → Nodes → Type 0
AreThere nodes t = (e : Path × Node) → Contains nodes e → IsSome (get t e.0)
