-- What a hash means on a shelf.
use Rattle.std.specs.Prelude.{◌≡◌, List, ℕ, length, Some, IsTrue, IsSomeAnd}
use Rattle.std.specs.FinMap.{get}
use Rattle.sha1.specs.Sha1.{sha1}
use Rattle.cv_base.specs.Path.{Path}
use Rattle.cv_base.specs.ObjectId.{object_id}
use Rattle.cv_base.specs.declared.attr.Attr.{Attr}
use Rattle.cv_base.specs.declared.id.Kind.TheVariants.{Plain, Catalogue}
use Rattle.cv_ports.specs.Shelf.{Shelf}
use Rattle.cv_tree.specs.Tree.{Nodes, IsTree}
use Rattle.cv_tree.specs.declared.node.FileRef.{FileRef}
use Rattle.cv_tree.specs.declared.node.Node.TheVariants.{File}
use Rattle.cv_cut.specs.Cuts.{is_cut}
use Rattle.cv_cut.specs.Catalogues.{cat, root_of, Fits}

-- the shelf has the content of a file under its plain id: bytes of the id's hash, and of the file's size
abbrev pub HasContentOf : Shelf → FileRef → Type 0
HasContentOf shelf file = IsSomeAnd (shelf (object_id file.hash Plain)) (λ bytes. (sha1 bytes ≡ file.hash) × (length bytes ≡ file.size))

-- The hash means the tree t: t fits, its root is the hash, and the shelf has each catalogue of t, and the content of each file
-- of t. All these bytes have the hashes of their ids, so on a shelf that has others no hash means the tree.
pub record Means (shelf : Shelf) (hash : List ℕ) (t : Nodes) : Type 0 where
  pub tree : IsTree t
  pub fits : Fits t
  pub root : hash ≡ root_of t
  pub catalogues : (c : Path) → IsTrue (is_cut t c) → shelf (object_id (sha1 (cat t c)) Catalogue) ≡ Some (cat t c)
  pub files : (q : Path) (attr : Attr) (file : FileRef) → get t q ≡ Some (File attr file) → HasContentOf shelf file
