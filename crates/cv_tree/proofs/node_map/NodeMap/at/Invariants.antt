use Rattle.cv_tree.specs.Tree.{at}
use Rattle.cv_tree.proofs.Gathers.{GathersFrom}
use Rattle.cv_tree.proofs.node_map.NodeMap.at.Given as goal

abbrev pub invariant-loop-place : goal.invariant-loop-place
invariant-loop-place l = GathersFrom l.path l.place-iterator l.found (at l.self l.path)
