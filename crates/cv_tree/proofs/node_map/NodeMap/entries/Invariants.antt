use Rattle.std.proofs.Common.{◌≡◌, ◌++◌}
use Rattle.std.specs.FinMap as map
use Rattle.cv_tree.proofs.node_map.NodeMap.entries.Given as goal

abbrev pub invariant-loop-path : goal.invariant-loop-path
invariant-loop-path l = l.entries.items ++ l.path-iterator ≡ map.entries l.self
