use Rattle.cv_tree.specs.Tree.{entries_outside, outside_with}
use Rattle.cv_tree.proofs.Gathers.{Gathers}
use Rattle.cv_tree.proofs.node_map.NodeMap.outside_with.Given as goal

abbrev pub invariant-loop-place : goal.invariant-loop-place
invariant-loop-place l = Gathers (entries_outside l.path) l.place-iterator l.all (outside_with l.self l.path l.fn.others)
