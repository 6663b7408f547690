use Rattle.cv_checkout.proofs.Steps.{AreNodesOf}
use Rattle.cv_checkout.proofs.growing.nodes_toward.Given as goal

abbrev pub invariant-loop-number : goal.invariant-loop-number
invariant-loop-number l = AreNodesOf l.path l.catalogue l.number l.nodes.items
