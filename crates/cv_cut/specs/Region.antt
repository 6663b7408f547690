-- The rows and nested entries of the region of a cut, in whatever order.
use Rattle.std.specs.Prelude.{◌≡◌, ◌≢◌, ◌<◌, ◌^◌, true, [], ◌++◌, Some, length, ℕ, List, Contains}
use Rattle.std.specs.FinMap.{get}
use Rattle.cv_base.specs.Path.{Path, key_of}
use Rattle.cv_tree.specs.Tree.{Nodes, at}
use Rattle.cv_tree.specs.declared.node.Node.{Node}
use Rattle.cv_rows.specs.declared.row.Row.{Row}
use Rattle.cv_cut.specs.Cuts.{is_cut, is_marked, is_near}
use Rattle.cv_cut.specs.Catalogues.{kind_of, row_of, cat, IsFull, entry_of}
use Rattle.cv_rows.specs.declared.nested.Nested.{Nested}

-- In what follows u is what stands at a cut c, and its paths begin there.

-- the row of the path behind a cut
abbrev pub row_at : Path → Nodes → Path → Node → Row
row_at c u q n = row_of (kind_of c u q n) (c ++ q) n

-- the region has this node at a path
pub record IsNear (u : Nodes) (q : Path) (n : Node) : Type 0 where
  pub there : get u q ≡ Some n
  pub near : is_near u q ≡ true

-- no two paths of the region share a key
pub record KeysApart (c : Path) (u : Nodes) : Type 0 where
  pub each : (q r : Path) (m n : Node) → IsNear u q m → IsNear u r n → key_of (c ++ q) ≡ key_of (c ++ r) → q ≡ r

-- another cut of the region
pub record IsOther (u : Nodes) (d : Path) : Type 0 where
  pub node_ : Node
  pub there : IsNear u d node_
  pub below : d ≢ []
  pub marked : is_marked u d ≡ true

-- ---- what fits at one cut

-- no two paths of its region share a key, its catalogue passes no limit, and the sizes of those nested in it have 64 bits
pub record FitsAtCut (t : Nodes) (c : Path) : Type 0 where
  pub apart : KeysApart c (at t c)
  pub limits : IsFull t c → ⊥
  pub sizes : (d : Path) → IsOther (at t c) d → length (cat t (c ++ d)) < 2 ^ 64

-- ---- the next cut on the way to a path

-- the cut at e is properly between the cut and r, and what is left behind it is f
pub record StandsOnWay (u : Nodes) (r e f : Path) : Type 0 where
  pub is : r ≡ e ++ f
  pub some : e ≢ []
  pub more : f ≢ []
  pub marked : is_marked u e ≡ true

-- from the cut at c the way to p, which is r behind it, goes through the next cut, which is e behind it
pub record Passes (t : Nodes) (p c r e f : Path) : Type 0 where
  pub is : p ≡ c ++ r
  pub cut : is_cut t c ≡ true
  pub way : StandsOnWay (at t c) r e f
  pub near : is_near (at t c) e ≡ true

-- in whatever order, these are the rows of the region
pub record AreRowsOf (c : Path) (u : Nodes) (rows : List Row) : Type 0 where
  pub each : (r : Row) → Contains rows r → (q : Path) × (n : Node) × IsNear u q n × (r ≡ row_at c u q n)
  pub all : (q : Path) (n : Node) → IsNear u q n → Contains rows (row_at c u q n)

-- in whatever order, these are the nested entries of the region, where the other cuts have these files
pub record AreEntriesOf (c : Path) (u : Nodes) (file : Path → List ℕ) (nested : List Nested) : Type 0 where
  pub each : (n : Nested) → Contains nested n → (d : Path) × IsOther u d × (n ≡ entry_of (c ++ d) (file d))
  pub all : (d : Path) → IsOther u d → Contains nested (entry_of (c ++ d) (file d))
