-- What comes of a part that is set at a path by the catalogues on the way. What only this crate's own functions say.
use Rattle.std.specs.Prelude.{◌≡◌, ◌≢◌, true, List, [], ◌++◌, Result, Ok, Err}
use Rattle.cv_base.specs.Path.{Path, covers}
use Rattle.cv_tree.specs.Tree.{Nodes}
use Rattle.cv_tree.specs.declared.node.Node.{Node}
use Rattle.cv_rows.specs.Catalogue.{Contents}
use Rattle.cv_rows.specs.Made.{PassesLimit, in_order}
use Rattle.cv_rows.specs.declared.row.Row.{Row}
use Rattle.cv_rows.specs.declared.nested.Nested.{Nested}
use Rattle.cv_cut.specs.Cuts.{is_cut}
use Rattle.cv_cut.specs.Piece.{IsPiece}
use Rattle.cv_cut.specs.declared.pieces.Piece.{Piece}
use Rattle.cv_graft.specs.MakesInner.{Outcomes}
use Rattle.cv_graft.specs.PlacedWay.{IsFullThere, IsPlaced, MeetsAt, MeetsPath}
use Rattle.cv_graft.specs.declared.graft_fault.GraftFault.{GraftFault}
use Rattle.cv_graft.specs.declared.graft_fault.GraftFault.TheVariants as fault

-- what a search for a key of a row that stays and of a path that comes answers
abbrev pub IsMeeting : Contents → List (Path × Node) → GraftFault → Type 0
IsMeeting rest coming (fault.PathCollision a b) = MeetsPath rest coming a b
IsMeeting rest coming (fault.CatalogueFull c) = ⊥
IsMeeting rest coming fault.Failed = ⊥
IsMeeting rest coming (fault.Damaged id found) = ⊥
IsMeeting rest coming fault.NoMemory = Unit {0}

-- what comes of a catalogue and more rows and nested entries, whose keys all differ
abbrev pub JoinsLists : Contents → List Row → List Nested → Result Contents GraftFault → Type 0
JoinsLists rest rows nested (Ok made) = (made ≡ in_order rest.at (rest.rows ++ rows) (rest.nested ++ nested)) × (PassesLimit (rest.rows ++ rows) (rest.nested ++ nested) → ⊥)
JoinsLists rest rows nested (Err (fault.PathCollision a b)) = ⊥
JoinsLists rest rows nested (Err (fault.CatalogueFull d)) = (d ≡ rest.at) × PassesLimit (rest.rows ++ rows) (rest.nested ++ nested)
JoinsLists rest rows nested (Err fault.Failed) = ⊥
JoinsLists rest rows nested (Err (fault.Damaged id found)) = ⊥
JoinsLists rest rows nested (Err fault.NoMemory) = Unit {0}

-- the part that stands at the path in the tree m comes there
abbrev pub from_part : Nodes → Path → Outcomes
from_part m p = record { becomes = λ c made. IsPlaced c p m made; collides = λ c a b. MeetsAt c p m a b; fills = λ c d. IsFullThere c p m d }

-- this piece of a part may be set at the path: in its tree no other cut than the root's is outside it
pub record IsComing (piece : Piece) (p : Path) : Type 0 where
  pub is : IsPiece piece piece.tree p
  pub only : (d : Path) → is_cut piece.tree d ≡ true → d ≢ [] → covers p d ≡ true
