-- Parts of trees.
use Rattle.std.proofs.Common.{◌≡◌, Bool, true, cond, is_some, [], ◌++◌, None, Some, ap, ◌∙◌}
use Rattle.std.specs.FinMap.{get}
use Rattle.cv_base.specs.Path.{Path}
use Rattle.cv_tree.specs.Tree.{Nodes, IsTree, is_directory, at}
use Rattle.cv_tree.specs.Changes.{IsTreeAtRoot, nodes_of, subtree_of}
use Rattle.cv_tree.proofs.Laws.{get-at}

-- what a tree has at the root is a directory
pub root_subtree : (t : Nodes) (p : Path) → IsTree t → IsTreeAtRoot p (nodes_of (subtree_of t p))
root_subtree t p tree none =
    let there : is_some (get t p) ≡ true = ap (λ (x : Path). is_some (get t x)) none ∙ tree.part.root in
    ap (λ (b : Bool). is_directory (get (nodes_of (cond b (Some (at t p)) None)) [])) there ∙ ap is_directory (get-at t p []) ∙ ap (λ (x : Path). is_directory (get t (x ++ []))) none ∙ tree.root
