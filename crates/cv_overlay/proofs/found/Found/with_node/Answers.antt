use Rattle.cv_overlay.proofs.Objects.{node_added}
use Rattle.cv_overlay.proofs.found.Found.with_node.Goals as goal

pub invariant_of-result : goal.invariant_of-result
invariant_of-result c = (
  node_added c.self.inside.tree c.in_ok-tree.tree c.self.inside.contents c.args.path.now c.args.node c.self.invariant.0 c.in_ok-tree.ensures.made c.in_ok-tree.ensures.free c.requires.other,
  c.self.invariant.1,
)
