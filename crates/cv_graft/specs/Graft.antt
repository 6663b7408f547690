-- What a graft gives.
use Rattle.std.specs.Prelude.{◌≡◌, ◌≢◌, ℕ, true, List, [], map, reverse, length, Some, Result, Ok, Err}
use Rattle.sha1.specs.Sha1.{sha1}
use Rattle.cv_base.specs.Path.{Path, covers}
use Rattle.cv_base.specs.ObjectId.{object_id}
use Rattle.cv_base.specs.declared.id.Kind.TheVariants.{Catalogue}
use Rattle.cv_ports.specs.Shelf.{Shelf}
use Rattle.cv_tree.specs.Tree.{Nodes, IsTree}
use Rattle.cv_cut.specs.Cuts.{is_cut}
use Rattle.cv_cut.specs.Catalogues.{cat, root_of, Fits, SharesKey, IsFull}
use Rattle.cv_cut.specs.Cut.{catalogue_object}
use Rattle.cv_cut.specs.Above.{cuts_above}
use Rattle.cv_graft.specs.declared.grafted.Grafted.{Grafted}
use Rattle.cv_graft.specs.declared.graft_fault.GraftFault.{GraftFault}
use Rattle.cv_graft.specs.declared.graft_fault.GraftFault.TheVariants as fault

-- The hash is the root of the tree t, which fits, and the shelf has the catalogue of each cut of t properly above the path p.
-- A hash that means t is so for each path.
pub record HasWay (shelf : Shelf) (hash : List ℕ) (t : Nodes) (p : Path) : Type 0 where
  pub tree : IsTree t
  pub fits : Fits t
  pub root : hash ≡ root_of t
  pub catalogues : (c : Path) → is_cut t c ≡ true → covers c p ≡ true → p ≢ c → shelf (object_id (sha1 (cat t c)) Catalogue) ≡ Some (cat t c)

-- The shelf has what a graft asks of both trees: the catalogues on the way to the path in each, and the offered one's at the root in any case.
pub record HasWays (shelf : Shelf) (newest offered : List ℕ) (t n : Nodes) (p : Path) : Type 0 where
  pub way : HasWay shelf newest t p
  pub other : HasWay shelf offered n p
  pub top : shelf (object_id offered Catalogue) ≡ Some (cat n [])

-- the root of a tree, and its catalogues at the cuts properly above a path, those nested in another before it
abbrev pub grafted_of : Nodes → Path → Grafted
grafted_of t p = record {
  root = object_id (root_of t) Catalogue;
  size = length (cat t []);
  added = map (catalogue_object t) (reverse (cuts_above t p));
}

-- what is answered of the tree that a graft is to give: it fits, and this is its root, or why it doesn't fit
abbrev pub Grafts : Nodes → Path → Result Grafted GraftFault → Type 0
Grafts t p (Ok g) = Fits t × (g ≡ grafted_of t p)
Grafts t p (Err (fault.PathCollision a b)) = SharesKey t a b
Grafts t p (Err (fault.CatalogueFull c)) = IsFull t c × ((a b : Path) → SharesKey t a b → ⊥)
Grafts t p (Err fault.Failed) = Unit {0}
Grafts t p (Err (fault.Damaged id found)) = ⊥
Grafts t p (Err fault.NoMemory) = Unit {0}
