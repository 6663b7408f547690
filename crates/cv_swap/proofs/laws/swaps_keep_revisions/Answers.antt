use Rattle.cv_swap.proofs.Swapped.{swap_leaves, swap_makes}
use Rattle.cv_swap.proofs.laws.swaps_keep_revisions.Goals as goal

pub returns : goal.returns
returns c = record { leaves = swap_leaves; makes = swap_makes }
