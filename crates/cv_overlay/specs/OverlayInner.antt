-- The part that changes make of a base: what stands at each path. What only this crate's own functions say.
use Rattle.std.specs.Prelude.{◌≡◌, Some}
use Rattle.std.specs.FinMap.{get}
use Rattle.cv_base.specs.Path.{Path}
use Rattle.cv_tree.specs.declared.node.Node.{Node}
use Rattle.cv_tree.specs.Tree.{Nodes, HasParents}
use Rattle.cv_tree.specs.Node.{IsNode}
use Rattle.cv_base.specs.Path.{IsPath}
use Rattle.std.specs.Prelude.{IsSome}

-- what a part has, or nothing
pub record IsBase (b : Nodes) : Type 0 where
  pub parents : HasParents b
  pub paths : (q : Path) → IsSome (get b q) → IsPath q
  pub nodes : (q : Path) (node : Node) → get b q ≡ Some node → IsNode node
