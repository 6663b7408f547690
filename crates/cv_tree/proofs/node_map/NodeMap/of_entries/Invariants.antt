use Rattle.std.proofs.Common.{vec_len}
use Rattle.cv_tree.proofs.Made.{IsMadeOf}
use Rattle.cv_tree.proofs.node_map.NodeMap.of_entries.Given as goal

abbrev pub invariant-entries : goal.invariant-entries
invariant-entries l = IsMadeOf l.rest.items l.fn.entries.items l.made

abbrev pub decreases-entries : goal.decreases-entries
decreases-entries l = vec_len l.rest
