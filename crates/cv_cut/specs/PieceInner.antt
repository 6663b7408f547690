-- A part that is to be set at a path. What only this crate's own functions say.
use Rattle.std.specs.Prelude.{◌≡◌, false, List, Contains, reverse}
use Rattle.std.specs.FinMap.{get}
use Rattle.cv_base.specs.Path.{Path}
use Rattle.cv_tree.specs.Tree.{Nodes, is_file}
use Rattle.cv_cut.specs.Catalogues.{SharesKey, IsFull}
use Rattle.cv_cut.specs.declared.cut_fault.CutFault.{CutFault}
use Rattle.cv_cut.specs.declared.cut_fault.CutFault.TheVariants.{PathCollision, CatalogueFull, NoMemory}
use Rattle.cv_cut.specs.Piece.{cuts_within}

-- all cuts at and below some path, those nested in another before it
pub record AreCutsWithin (t : Nodes) (cuts : List Path) : Type 0 where
  pub path : Path
  pub is : cuts ≡ reverse (cuts_within t path)

-- no path is that of a file
abbrev pub HasNoFiles : Nodes → Type 0
HasNoFiles t = (q : Path) → is_file (get t q) ≡ false

-- the fault names two paths that share a key in the region of one of these cuts, or one of them whose catalogue is full
abbrev pub IsFaultAmong : Nodes → List Path → CutFault → Type 0
IsFaultAmong t cuts (PathCollision a b) = (s : SharesKey t a b) × Contains cuts s.cut
IsFaultAmong t cuts (CatalogueFull c) = IsFull t c × Contains cuts c
IsFaultAmong t cuts NoMemory = Unit {0}

-- it names two such paths
abbrev pub IsSharedAmong : Nodes → List Path → CutFault → Type 0
IsSharedAmong t cuts (PathCollision a b) = (s : SharesKey t a b) × Contains cuts s.cut
IsSharedAmong t cuts (CatalogueFull c) = ⊥
IsSharedAmong t cuts NoMemory = Unit {0}
