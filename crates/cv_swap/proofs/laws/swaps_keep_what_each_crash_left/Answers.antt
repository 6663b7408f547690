use Rattle.cv_swap.proofs.Unsettled.{each_leaves, each_makes}
use Rattle.cv_swap.proofs.laws.swaps_keep_what_each_crash_left.Goals as goal

pub returns : goal.returns
returns c = record {
  leaves = each_leaves;
  makes = λ name is_seal d d' history epoch new manifest each can. each_makes name is_seal d history epoch new manifest each can d';
}
