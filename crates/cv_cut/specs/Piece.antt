-- A part that is to be set at a path.
use Rattle.std.specs.Prelude.{◌≡◌, ◌≢◌, true, List, [], Contains, filter, reverse}
use Rattle.std.specs.FinMap.{entries}
use Rattle.cv_base.specs.Path.{Path, covers}
use Rattle.cv_tree.specs.Tree.{Nodes, IsTree, at}
use Rattle.cv_tree.specs.declared.node.Node.{Node}
use Rattle.cv_rows.specs.Made.{AreApart}
use Rattle.cv_cut.specs.Cuts.{is_cut, cuts_of}
use Rattle.cv_cut.specs.Catalogues.{SharesKey, IsFull}
use Rattle.cv_cut.specs.Cut.{region_at, keys_at}
use Rattle.cv_cut.specs.Region.{KeysApart}
use Rattle.cv_cut.specs.declared.pieces.Piece.{Piece}
use Rattle.cv_cut.specs.declared.cut_fault.CutFault.{CutFault}
use Rattle.cv_cut.specs.declared.cut_fault.CutFault.TheVariants.{PathCollision, CatalogueFull, NoMemory}

-- the cuts at and below a path, in the order of their paths
abbrev pub cuts_within : Nodes → Path → List Path
cuts_within t p = filter (λ c. covers p c) (cuts_of t)

-- the part stands at the path, and no other cut than the root's but those at the path and below
pub record HasOnly (t : Nodes) (p : Path) (s : Nodes) : Type 0 where
  pub part : at t p ≡ s
  pub only : (d : Path) → is_cut t d ≡ true → d ≢ [] → covers p d ≡ true

-- what the root's region has at the path and below
abbrev pub region_within : Nodes → Path → List (Path × Node)
region_within t p = filter (λ e. covers p e.0) (region_at t [])

-- two paths of one region, at a path or below, share a key
pub record SharesWithin (t : Nodes) (p a b : Path) : Type 0 where
  pub shares : SharesKey t a b
  pub first : covers p a ≡ true
  pub second : covers p b ≡ true

-- the fault names two such paths, or is want of memory
abbrev pub IsSharedWithin : Nodes → Path → CutFault → Type 0
IsSharedWithin t p (PathCollision a b) = SharesWithin t p a b
IsSharedWithin t p (CatalogueFull c) = ⊥
IsSharedWithin t p NoMemory = Unit {0}

-- the fault names one of these cuts whose catalogue is full, or is want of memory
abbrev pub IsFullAmong : Nodes → List Path → CutFault → Type 0
IsFullAmong t cuts (PathCollision a b) = ⊥
IsFullAmong t cuts (CatalogueFull c) = IsFull t c × Contains cuts c
IsFullAmong t cuts NoMemory = Unit {0}

-- the part that stands at p in t: its cuts, and what goes into the catalogue above. In each of these regions the keys differ
pub record IsPiece (piece : Piece) (t : Nodes) (p : Path) : Type 0 where
  pub tree : piece.tree ≡ t
  pub whole : IsTree t
  pub entries_are : piece.entries ≡ entries t
  pub cuts_are : piece.cuts ≡ reverse (cuts_within t p)
  pub region_is : piece.region ≡ region_within t p
  pub apart : (c : Path) → is_cut t c ≡ true → covers p c ≡ true → KeysApart c (at t c)
  pub keys : AreApart (keys_at (region_within t p))

-- what is asked before a piece is cut
pub record IsReady (piece : Piece) : Type 0 where
  pub path : Path
  pub is : IsPiece piece piece.tree path
  pub only : (d : Path) → is_cut piece.tree d ≡ true → d ≢ [] → covers path d ≡ true
