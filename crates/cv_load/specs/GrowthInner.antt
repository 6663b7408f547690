-- How a tree grows by the rows of catalogues. What only this crate's own functions say.
use Rattle.std.specs.Prelude.{◌≡◌, ◌≢◌, ◌⊎◌, ℕ, true, false, List, Some, Result, Ok, Err, IsSome, IsTrue, Contains}
use Rattle.std.specs.FinMap.{get}
use Rattle.cv_base.specs.Path.{Path, covers}
use Rattle.cv_base.specs.ObjectId.{object_id}
use Rattle.cv_base.specs.declared.id.Kind.TheVariants.{Plain, Catalogue}
use Rattle.cv_base.specs.declared.id.ObjectId.{ObjectId}
use Rattle.cv_ports.specs.Shelf.{Shelf}
use Rattle.cv_tree.specs.Tree.{Nodes, is_directory}
use Rattle.cv_tree.specs.declared.node.Node.{Node}
use Rattle.cv_rows.specs.Row.{holds_rows}
use Rattle.cv_rows.specs.Catalogue.{Contents}
use Rattle.cv_rows.specs.Places.{StandsAt}
use Rattle.cv_rows.specs.declared.row.Row.{Row}
use Rattle.cv_rows.specs.declared.nested.Nested.{Nested}
use Rattle.cv_rows.specs.declared.row_kind.RowKind.TheVariants as kind
use Rattle.cv_cut.specs.Told.{node_of}
use Rattle.cv_cut.specs.Good.{HasFile, HasSize}
use Rattle.cv_cut.specs.Reached.{Place, HasCatalogue, ReachesCatalogue}
use Rattle.cv_cut.specs.declared.load_fault.LoadFault.{LoadFault}
use Rattle.cv_cut.specs.Opening.{Sizes, MayFail}
use Rattle.cv_load.specs.Growth.{Grows, IsRowNode}

-- the same of one row at one path
pub record IsAdded (path : Path) (r : Row) (old new : Nodes) : Type 0 where
  pub grows : Grows old new
  pub comes : (q : Path) (n : Node) → get new q ≡ Some n → (get old q ≡ Some n) ⊎ ((q ≡ path) × (n ≡ node_of r))

-- the tree has a directory at the path, and nothing below it
pub record IsClear (p : Path) (t : Nodes) : Type 0 where
  pub directory : is_directory (get t p) ≡ true
  pub alone : (q : Path) → IsSome (get t q) → covers p q ≡ true → q ≡ p

-- the tree has a directory at the catalogue's place, and of these rows what it has below it
pub record IsReady (at : Path) (rows : List Row) (t : Nodes) : Type 0 where
  pub directory : is_directory (get t at) ≡ true
  pub below : (q : Path) (n : Node) → get t q ≡ Some n → covers at q ≡ true → q ≢ at → IsRowNode at rows q n

-- nothing has changed but at the path and below it
abbrev pub ChangesBelow : Path → Nodes → Nodes → Type 0
ChangesBelow p old new = (q : Path) → covers p q ≡ false → get new q ≡ get old q

-- the path of each row of the catalogue below which rows may stand is in the tree
abbrev pub HasHolders : Contents → Nodes → Type 0
HasHolders c t = (r : Row) (q : Path) → IsTrue (holds_rows r.kind) → StandsAt c.at c.rows r q → IsSome (get t q)

-- the path of each row of the catalogue is in the tree
abbrev pub HasRows : Contents → Nodes → Type 0
HasRows c t = (r : Row) (q : Path) → StandsAt c.at c.rows r q → IsSome (get t q)

-- ---- what a tree has of the catalogues that are reached

-- a reached catalogue has a row for this node
pub record IsOfRow (shelf : Shelf) (root : List ℕ) (q : Path) (n : Node) : Type 0 where
  pub hash : List ℕ
  pub place : Place
  pub contents : Contents
  pub reached : ReachesCatalogue shelf root hash place
  pub has : HasCatalogue shelf hash place contents
  pub node_ : IsRowNode contents.at contents.rows q n

-- each node of the tree is so
abbrev pub IsOfRows : Shelf → List ℕ → Nodes → Type 0
IsOfRows shelf root t = (q : Path) (n : Node) → get t q ≡ Some n → IsOfRow shelf root q n

-- the tree has all that is reached from a catalogue on: a node for each row, and all contents have their sizes
pub data IsFilled (shelf : Shelf) (t : Nodes) : List ℕ → Place → Type 0 where
  filled : {hash : List ℕ} {place : Place} {c : Contents} → HasCatalogue shelf hash place c
      → ((r : Row) → Contains c.rows r → HasFile shelf r)
      → ((n : Nested) → Contains c.nested n → HasSize shelf (object_id n.hash Catalogue) n.size)
      → HasRows c t
      → ((n : Nested) (r : Row) → Contains c.nested n → r.kind ≡ kind.Transition → StandsAt c.at c.rows r n.path → IsFilled shelf t n.hash (record { path = n.path; row = Some r }))
      → IsFilled shelf t hash place

-- the tree grew by what is reached from a catalogue on
pub record FillsIn (shelf : Shelf) (root hash : List ℕ) (place : Place) (old new : Nodes) : Type 0 where
  pub grows : Grows old new
  pub rows : IsOfRows shelf root new
  pub filled : IsFilled shelf new hash place

-- it did, or there is the cause of a fault
abbrev pub Fills : Shelf → List ℕ → List ℕ → Place → Nodes → Nodes → {X : Type 0} → Result X LoadFault → Type 0
Fills shelf root hash place old new (Ok done) = FillsIn shelf root hash place old new
Fills shelf root hash place old new (Err f) = MayFail shelf root f

-- the same of the catalogue that stands under an id, at each place at which it is reached, and a tree of rows that are reached
abbrev pub FillsFrom : Shelf → ObjectId → Contents → Nodes → Nodes → {X : Type 0} → Result X LoadFault → Type 0
FillsFrom shelf id c old new result = (root : List ℕ) (place : Place) → ReachesCatalogue shelf root id.hash place → HasCatalogue shelf id.hash place c → IsOfRows shelf root old
    → Fills shelf root id.hash place old new result

-- ---- what single steps answer

-- the contents of all files of a catalogue have their sizes, or there is the cause of a fault
abbrev pub HasFiles : Shelf → ObjectId → Contents → {X : Type 0} → Result X LoadFault → Type 0
HasFiles shelf id c (Ok done) = (r : Row) → Contains c.rows r → HasFile shelf r
HasFiles shelf id c (Err fault) = (root : List ℕ) (place : Place) → ReachesCatalogue shelf root id.hash place → HasCatalogue shelf id.hash place c → MayFail shelf root fault

-- the content of a row, if it is a file, has its size, or why not
abbrev pub FileSizes : Shelf → ObjectId → Row → {X : Type 0} → Result X LoadFault → Type 0
FileSizes shelf owner r (Ok done) = HasFile shelf r
FileSizes shelf owner r (Err f) = (hash : List ℕ) × (r.kind ≡ kind.File) × (r.hash ≡ Some hash) × Sizes shelf (object_id hash Plain) r.size owner {X = Unit {0}} (Err f)
