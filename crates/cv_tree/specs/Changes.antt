-- What the calls on trees and parts answer.
use Rattle.std.specs.Prelude.{◌≡◌, Bool, true, not, [], ◌∷◌, ◌++◌, Option, Some, None, Result, Ok, Err, is_some, IsSome, IsTrue, if◌then◌else◌}
use Rattle.std.specs.FinMap.{empty, get}
use Rattle.cv_base.specs.Path.{Path, parent, IsPath}
use Rattle.cv_tree.specs.declared.tree_fault.TreeFault.{TreeFault}
use Rattle.cv_tree.specs.declared.tree_fault.TreeFault.TheVariants.{NoParent, Exists}
use Rattle.cv_tree.specs.Tree.{Nodes, is_directory, at}

-- a path may have a node: it is the root, or its parent is a directory
abbrev pub has_place : Nodes → Path → Bool
has_place t [] = true
has_place t (name ∷ names) = is_directory (get t (parent (name ∷ names)))

-- the answer to an insertion at a path
abbrev pub insertion : Nodes → Path → Result (Unit {0}) TreeFault
insertion t p = if not (has_place t p) then Err NoParent else if is_some (get t p) then Err Exists else Ok tt

-- the answer to a replacement at a path
abbrev pub replacement : Nodes → Path → Result (Unit {0}) TreeFault
replacement t p = if has_place t p then Ok tt else Err NoParent

-- the part at a path, if the path is there
abbrev pub subtree_of : Nodes → Path → Option Nodes
subtree_of t p = if is_some (get t p) then Some (at t p) else None

-- the nodes of a part, or of nothing
abbrev pub nodes_of : Option Nodes → Nodes
nodes_of None = empty
nodes_of (Some s) = s

-- each path of s, put behind p, keeps the limits of a path
abbrev pub FitsUnder : Path → Nodes → Type 0
FitsUnder p s = (q : Path) → IsSome (get s q) → IsPath (p ++ q)

-- what may stand at the root of a tree
abbrev pub IsTreeAtRoot : Path → Nodes → Type 0
IsTreeAtRoot p s = p ≡ [] → IsTrue (is_directory (get s []))
