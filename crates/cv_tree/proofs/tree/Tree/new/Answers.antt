use Rattle.cv_tree.proofs.Shapes.{IsTree-single}
use Rattle.cv_tree.proofs.tree.Tree.new.Goals as goal

pub invariant_of-result : goal.invariant_of-result
invariant_of-result c = rw c.in_ok-nodes.ensures (IsTree-single c.args.root c.requires)
