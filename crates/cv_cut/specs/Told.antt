-- What the rows and nested entries of a canonical catalogue tell of its tree.
use Rattle.std.specs.Prelude.{◌≡◌, ℕ, true, List, [], length, Option, Some, None}
use Rattle.sha1.specs.Sha1.{sha1}
use Rattle.cv_tree.specs.Tree.{Nodes}
use Rattle.cv_tree.specs.declared.node.Node.{Node}
use Rattle.cv_tree.specs.declared.node.Node.TheVariants as node
use Rattle.cv_rows.specs.declared.row.Row.{Row}
use Rattle.cv_rows.specs.declared.nested.Nested.{Nested}
use Rattle.cv_rows.specs.declared.row_kind.RowKind.{RowKind}
use Rattle.cv_rows.specs.declared.row_kind.RowKind.TheVariants as kind
use Rattle.cv_cut.specs.Cuts.{is_cut}
use Rattle.cv_cut.specs.Catalogues.{cat}

-- the node of a row
abbrev pub hash_of : Option (List ℕ) → List ℕ
hash_of None = []
hash_of (Some hash) = hash

abbrev pub node_as : RowKind → Row → Node
node_as kind.Directory r = node.Dir r.attr
node_as kind.Transition r = node.Dir r.attr
node_as kind.NestedRoot r = node.Dir r.attr
node_as kind.File r = node.File r.attr (record { hash = hash_of r.hash; size = r.size })
node_as kind.Link r = node.Link r.attr r.target

abbrev pub node_of : Row → Node
node_of r = node_as r.kind r

-- the nested entry is that of a cut
pub record IsEntryOfCut (t : Nodes) (n : Nested) : Type 0 where
  pub cut : is_cut t n.path ≡ true
  pub hash : n.hash ≡ sha1 (cat t n.path)
  pub size : n.size ≡ length (cat t n.path)
