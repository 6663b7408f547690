-- Changes: the entries of a folder, and the contents of its files.
use Rattle.std.specs.Prelude.{◌≡◌, ◌≤◌, ℕ, List, Some, length, slice_get}
use Rattle.sha1.specs.Sha1.{sha1}
use Rattle.cv_base.specs.Path.{Path}
use Rattle.cv_base.specs.declared.attr.Attr.{Attr}
use Rattle.cv_base.specs.declared.limits.TheConstants.{OBJECT_LIMIT}
use Rattle.cv_base.specs.declared.object.Object.{Object}
use Rattle.cv_base.specs.declared.id.Kind.TheVariants.{Plain}
use Rattle.cv_base.specs.ObjectId.{object_id}
use Rattle.cv_tree.specs.declared.node.FileRef.{FileRef}
use Rattle.cv_tree.specs.declared.node.Node.TheVariants.{File}
use Rattle.cv_tree.specs.Tree.{Nodes}
use Rattle.cv_overlay.specs.Overlay.{named}

-- the entries by their paths, below a root that stands for the folder itself, and the contents
pub record ChangesView : Type 0 where
  pub nodes : Nodes
  pub objects : List Object

-- the file of the folder that has this hash
pub record IsFileOf (c : Nodes) (digest : List ℕ) : Type 0 where
  pub path : Path
  pub attr : Attr
  pub file : FileRef
  pub is : named c path ≡ Some (File attr file)
  pub hash : file.hash ≡ digest

-- the contents of the files that aren't whiteouts, each id once, and none of more than 16 MiB
pub record AreContents (c : Nodes) (objects : List Object) : Type 0 where
  pub own : (i : ℕ) (o : Object) → slice_get objects i ≡ Some o → o.id ≡ object_id (sha1 o.bytes) Plain
  pub sizes : (i : ℕ) (o : Object) → slice_get objects i ≡ Some o → length o.bytes ≤ OBJECT_LIMIT
  pub once : (i j : ℕ) (o p : Object) → slice_get objects i ≡ Some o → slice_get objects j ≡ Some p → o.id ≡ p.id → i ≡ j
  pub only : (i : ℕ) (o : Object) → slice_get objects i ≡ Some o → IsFileOf c o.id.hash
  pub all : (hash : List ℕ) → IsFileOf c hash → (i : ℕ) × (o : Object) × (slice_get objects i ≡ Some o) × (o.id ≡ object_id hash Plain)
