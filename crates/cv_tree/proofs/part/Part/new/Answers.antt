use Rattle.cv_tree.proofs.Shapes.{IsPart-single}
use Rattle.cv_tree.proofs.part.Part.new.Goals as goal

pub invariant_of-result : goal.invariant_of-result
invariant_of-result c = rw c.in_ok-nodes.ensures (IsPart-single c.args.node c.requires)
