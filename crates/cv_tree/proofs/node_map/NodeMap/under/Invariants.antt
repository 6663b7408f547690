use Rattle.cv_tree.specs.Tree.{entries_under, under}
use Rattle.cv_tree.proofs.Gathers.{Gathers}
use Rattle.cv_tree.proofs.node_map.NodeMap.under.Given as goal

abbrev pub invariant-loop-rest : goal.invariant-loop-rest
invariant-loop-rest l =
    (goal.iterator-loop-rest).can_next l.rest-iterator
    × (goal.iterator-loop-rest).is_finite l.rest-iterator
    × Gathers (entries_under l.path) l.rest-iterator l.moved (under l.path l.fn.self)
