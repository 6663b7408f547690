-- What is answered by the catalogues on the way to a path where a part is set there, whether or not the root means a tree.
use Rattle.std.specs.Prelude.{◌≡◌, ◌⊎◌, ℕ, true, List, [], ◌++◌, filter, map, reverse, length, Contains, Result, Ok, Err}
use Rattle.sha1.specs.Sha1.{sha1}
use Rattle.cv_base.specs.Path.{Path, covers, key_of}
use Rattle.cv_base.specs.ObjectId.{object_id}
use Rattle.cv_base.specs.declared.id.Kind.TheVariants.{Catalogue}
use Rattle.cv_base.specs.declared.object.Object.{Object}
use Rattle.cv_ports.specs.Shelf.{Shelf}
use Rattle.cv_tree.specs.Tree.{Nodes, IsTree, at}
use Rattle.cv_tree.specs.declared.node.Node.{Node}
use Rattle.cv_rows.specs.Catalogue.{Contents, IsCatalogue, catalogue_bytes}
use Rattle.cv_rows.specs.Made.{AreApart, PassesLimit, in_order}
use Rattle.cv_rows.specs.Places.{StandsAt}
use Rattle.cv_rows.specs.Without.{IsWithout}
use Rattle.cv_rows.specs.declared.row.Row.{Row}
use Rattle.cv_rows.specs.declared.nested.Nested.{Nested}
use Rattle.cv_cut.specs.Cuts.{is_cut}
use Rattle.cv_cut.specs.Catalogues.{IsFull}
use Rattle.cv_cut.specs.Cut.{catalogue_object, is_other, keys_at, nested_in, row_in}
use Rattle.cv_cut.specs.Piece.{HasOnly, cuts_within, region_within}
use Rattle.cv_cut.specs.Reached.{HasCatalogue, root_place}
use Rattle.cv_cut.specs.Region.{KeysApart}
use Rattle.cv_graft.specs.Directories.{IsHolder}
use Rattle.cv_graft.specs.Makes.{Makes}
use Rattle.cv_graft.specs.Placed.{SharesOwn}
use Rattle.cv_graft.specs.Places.{HasPlace}
use Rattle.cv_graft.specs.declared.grafted.Grafted.{Grafted}
use Rattle.cv_graft.specs.declared.graft_fault.GraftFault.{GraftFault}
use Rattle.cv_graft.specs.declared.graft_fault.GraftFault.TheVariants as fault

-- in the tree m the part stands alone at the path, and no two of its paths share a key in one region
pub record StandsAlone (s : Nodes) (p : Path) (m : Nodes) : Type 0 where
  pub tree : IsTree m
  pub only : HasOnly m p s
  pub apart : (d : Path) → is_cut m d ≡ true → covers p d ≡ true → KeysApart d (at m d)
  pub keys : AreApart (keys_at (region_within m p))

-- ---- the catalogue that directly holds the path

-- the rows that come of the part, and the nested entries of its cuts
abbrev pub rows_within : Nodes → Path → List Row
rows_within m p = map (row_in m []) (region_within m p)

abbrev pub entries_within : Nodes → Path → List Nested
entries_within m p = map (λ e. nested_in m e.0) (filter (λ e. is_other m [] e.0) (region_within m p))

-- no row that stays has the key of a path that comes
abbrev pub ArePathsCrossed : List Row → List (Path × Node) → Type 0
ArePathsCrossed rows coming = (a : Row) (e : Path × Node) → Contains rows a → Contains coming e → a.key.0 ≡ key_of e.0 → ⊥

-- one does, of a row that stands at this path
pub record MeetsPath (rest : Contents) (coming : List (Path × Node)) (a b : Path) : Type 0 where
  pub row : Row
  pub node_ : Node
  pub stands : StandsAt rest.at rest.rows row a
  pub comes : Contains coming (b, node_)
  pub keys : row.key.0 ≡ key_of b

-- what a catalogue in which the path has a place keeps outside it
pub record Rests (c : Contents) (p : Path) (m : Nodes) : Type 0 where
  pub place : HasPlace c p
  pub rest : Contents
  pub is_ : IsCatalogue rest
  pub without : IsWithout c p rest
  pub crossed : ArePathsCrossed rest.rows (region_within m p)

-- what comes of putting them together, where the part's own catalogues are made
pub record IsPlaced (c : Contents) (p : Path) (m : Nodes) (made : Contents) : Type 0 where
  pub rests : Rests c p m
  pub limits : (d : Path) → is_cut m d ≡ true → covers p d ≡ true → IsFull m d → ⊥
  pub fits : PassesLimit (rests.rest.rows ++ rows_within m p) (rests.rest.nested ++ entries_within m p) → ⊥
  pub is : made ≡ in_order c.at (rests.rest.rows ++ rows_within m p) (rests.rest.nested ++ entries_within m p)

-- or a key stands in both, of a row that stands at the one path and of the other path
pub record MeetsAt (c : Contents) (p : Path) (m : Nodes) (a b : Path) : Type 0 where
  pub place : HasPlace c p
  pub rest : Contents
  pub without : IsWithout c p rest
  pub meets : MeetsPath rest (region_within m p) a b

-- or one of the part's own catalogues is full, or that of the cut itself
pub data IsFullThere (c : Contents) (p : Path) (m : Nodes) : Path → Type 0 where
  of_part : {d : Path} → Rests c p m → IsFull m d → covers p d ≡ true → IsFullThere c p m d
  of_cut_ : {d : Path} → (r : Rests c p m) → d ≡ c.at → PassesLimit (r.rest.rows ++ rows_within m p) (r.rest.nested ++ entries_within m p) → IsFullThere c p m d

-- ---- from the root on

-- The root's catalogue is there; this comes of it, behind the part's own catalogues.
pub record IsSetOnWay (shelf : Shelf) (base : List ℕ) (p : Path) (s : Nodes) (g : Grafted) : Type 0 where
  pub around : Nodes
  pub alone : StandsAlone s p around
  pub top : Contents
  pub there : HasCatalogue shelf base root_place top
  pub made : Contents
  pub objects : List Object
  pub makes : Makes shelf (λ c k. IsPlaced c p around k) p top made objects
  pub added : g.added ≡ map (catalogue_object around) (reverse (cuts_within around p)) ++ objects
  pub root : g.root ≡ object_id (sha1 (catalogue_bytes made)) Catalogue
  pub size : g.size ≡ length (catalogue_bytes made)

-- the way was gone whole: this directly holds the path, and the part stands alone there in m
pub record HasHolder (shelf : Shelf) (base : List ℕ) (p : Path) (s : Nodes) (c : Contents) (m : Nodes) : Type 0 where
  pub holds : IsHolder shelf base p c
  pub alone : StandsAlone s p m

-- what is answered below the root; what isn't by the part and the catalogues on the way is a fault of the shelf, damage or want of memory
abbrev pub PlacesOnWay : Shelf → List ℕ → Path → Nodes → Result Grafted GraftFault → Type 0
PlacesOnWay shelf base p s (Ok g) = IsSetOnWay shelf base p s g
PlacesOnWay shelf base p s (Err (fault.PathCollision a b)) = SharesOwn s p a b ⊎ ((c : Contents) × (m : Nodes) × HasHolder shelf base p s c m × MeetsAt c p m a b)
PlacesOnWay shelf base p s (Err (fault.CatalogueFull d)) = (c : Contents) × (m : Nodes) × HasHolder shelf base p s c m × IsFullThere c p m d
PlacesOnWay shelf base p s (Err fault.Failed) = Unit {0}
PlacesOnWay shelf base p s (Err (fault.Damaged id found)) = Unit {0}
PlacesOnWay shelf base p s (Err fault.NoMemory) = Unit {0}
