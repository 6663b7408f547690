-- What a load answers.
use Rattle.std.specs.Prelude.{◌≡◌, List, ℕ, Result, Ok, Err, Some, IsTrue}
use Rattle.std.specs.FinMap.{get}
use Rattle.sha1.specs.Sha1.{sha1}
use Rattle.cv_base.specs.Path.{Path}
use Rattle.cv_base.specs.ObjectId.{object_id}
use Rattle.cv_base.specs.declared.attr.Attr.{Attr}
use Rattle.cv_base.specs.declared.id.Kind.TheVariants.{Plain, Catalogue}
use Rattle.cv_ports.specs.Shelf.{Shelf}
use Rattle.cv_tree.specs.Tree.{Nodes, IsTree}
use Rattle.cv_tree.specs.declared.node.FileRef.{FileRef}
use Rattle.cv_tree.specs.declared.node.Node.TheVariants.{File}
use Rattle.cv_cut.specs.Cuts.{is_cut}
use Rattle.cv_cut.specs.Catalogues.{Fits, cat, root_of}
use Rattle.cv_cut.specs.Good.{HasSize}
use Rattle.cv_cut.specs.Opening.{MayFail}
use Rattle.cv_cut.specs.declared.load_fault.LoadFault.{LoadFault}

-- The hash is the root of the tree t, which fits, and the shelf has each catalogue of t, and for each file of t bytes of its size,
-- whose digests aren't looked at.
pub record IsMeasured (shelf : Shelf) (hash : List ℕ) (t : Nodes) : Type 0 where
  pub tree : IsTree t
  pub fits : Fits t
  pub root : hash ≡ root_of t
  pub catalogues : (c : Path) → IsTrue (is_cut t c) → shelf (object_id (sha1 (cat t c)) Catalogue) ≡ Some (cat t c)
  pub files : (q : Path) (attr : Attr) (file : FileRef) → get t q ≡ Some (File attr file) → HasSize shelf (object_id file.hash Plain) file.size

-- the tree of the hash, for contents aren't fetched; or the cause of a fault
abbrev pub Loads : Shelf → List ℕ → Result Nodes LoadFault → Type 0
Loads shelf root (Ok t) = IsMeasured shelf root t
Loads shelf root (Err f) = MayFail shelf root f
