-- What comes of a part that is set at a path by the catalogues on the way.
use Rattle.std.specs.Prelude.{◌≡◌, ◌≢◌, ℕ, true, List, [], ◌++◌, map, reverse, length, Contains, Some, Result, Ok, Err}
use Rattle.std.specs.FinMap.{get}
use Rattle.sha1.specs.Sha1.{sha1}
use Rattle.cv_base.specs.Path.{Path, covers}
use Rattle.cv_base.specs.ObjectId.{object_id}
use Rattle.cv_base.specs.declared.attr.Attr.{Attr}
use Rattle.cv_base.specs.declared.id.Kind.TheVariants.{Catalogue}
use Rattle.cv_base.specs.declared.object.Object.{Object}
use Rattle.cv_ports.specs.Shelf.{Shelf}
use Rattle.cv_tree.specs.Tree.{Nodes, IsTree}
use Rattle.cv_tree.specs.declared.node.FileRef.{FileRef}
use Rattle.cv_tree.specs.declared.node.Node.TheVariants.{File}
use Rattle.cv_cut.specs.Above.{cuts_above}
use Rattle.cv_cut.specs.Cuts.{is_cut}
use Rattle.cv_cut.specs.Catalogues.{cat, root_of}
use Rattle.cv_cut.specs.Cut.{catalogue_object}
use Rattle.cv_cut.specs.Means.{HasContentOf}
use Rattle.cv_cut.specs.Piece.{cuts_within, HasOnly, SharesWithin}
use Rattle.cv_cut.specs.Region.{FitsAtCut}
use Rattle.cv_cut.specs.Replaced.{FitsOver, SharesOver, IsFullOver}
use Rattle.cv_cut.specs.declared.cut_fault.CutFault.{CutFault}
use Rattle.cv_cut.specs.declared.cut_fault.CutFault.TheVariants as cut
use Rattle.cv_graft.specs.declared.grafted.Grafted.{Grafted}
use Rattle.cv_graft.specs.declared.graft_fault.GraftFault.{GraftFault}
use Rattle.cv_graft.specs.declared.graft_fault.GraftFault.TheVariants as fault

-- The hash is the root of the tree t, which fits at each cut properly above the path p, and of these the shelf has the
-- catalogues. Of the rest of t no more is asked than that each catalogue nested in these has fewer than 2^64 bytes.
pub record HasCuts (shelf : Shelf) (hash : List ℕ) (t : Nodes) (p : Path) : Type 0 where
  pub tree : IsTree t
  pub root : hash ≡ root_of t
  pub fits : (c : Path) → is_cut t c ≡ true → covers c p ≡ true → p ≢ c → FitsAtCut t c
  pub catalogues : (c : Path) → is_cut t c ≡ true → covers c p ≡ true → p ≢ c → shelf (object_id (sha1 (cat t c)) Catalogue) ≡ Some (cat t c)

-- the root of a tree, and its catalogues at the cuts at and below a path and at those above, those nested in another before it
abbrev pub placed_of : Nodes → Path → Grafted
placed_of t p = record {
  root = object_id (root_of t) Catalogue;
  size = length (cat t []);
  added = map (catalogue_object t) (reverse (cuts_within t p)) ++ map (catalogue_object t) (reverse (cuts_above t p));
}

-- what is answered of the tree in which the part stands at the path: its root, or why the catalogues aren't made
abbrev pub Places : Nodes → Path → Result Grafted GraftFault → Type 0
Places t p (Ok g) = FitsOver t p × (g ≡ placed_of t p)
Places t p (Err (fault.PathCollision a b)) = SharesOver t p a b
Places t p (Err (fault.CatalogueFull c)) = IsFullOver t p c
Places t p (Err fault.Failed) = Unit {0}
Places t p (Err (fault.Damaged id found)) = ⊥
Places t p (Err fault.NoMemory) = Unit {0}

-- two paths share a key where a part stands alone at a path: at it or below it, in one region of a tree whose cuts but the root's are those of the part
pub record SharesOwn (s : Nodes) (p a b : Path) : Type 0 where
  pub around : Nodes
  pub tree : IsTree around
  pub alone : HasOnly around p s
  pub shares : SharesWithin around p a b

-- nothing is made, and no paths are named but two of the part's own
abbrev pub PlacesNothing : Nodes → Path → Result Grafted GraftFault → Type 0
PlacesNothing s p (Ok g) = ⊥
PlacesNothing s p (Err (fault.PathCollision a b)) = SharesOwn s p a b
PlacesNothing s p (Err (fault.CatalogueFull c)) = ⊥
PlacesNothing s p (Err fault.Failed) = Unit {0}
PlacesNothing s p (Err (fault.Damaged id found)) = Unit {0}
PlacesNothing s p (Err fault.NoMemory) = Unit {0}

-- the shelf has each of these objects
pub record HasObjects (shelf : Shelf) (objects : List Object) : Type 0 where
  pub each : (o : Object) → Contains objects o → shelf o.id ≡ Some o.bytes

-- and the content of each file of a part
pub record HasContentsOf (shelf : Shelf) (s : Nodes) : Type 0 where
  pub each : (q : Path) (attr : Attr) (file : FileRef) → get s q ≡ Some (File attr file) → HasContentOf shelf file

-- why a part isn't cut, as it is answered
abbrev pub of_cut : CutFault → GraftFault
of_cut (cut.PathCollision a b) = fault.PathCollision a b
of_cut (cut.CatalogueFull c) = fault.CatalogueFull c
of_cut cut.NoMemory = fault.NoMemory
