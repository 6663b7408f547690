use Rattle.cv_tree.proofs.part.Part.of_entries.Goals as goal

pub invariant_of-result : goal.invariant_of-result
invariant_of-result c = rw c.in_ok-nodes.ensures c.requires
