use Rattle.cv_load.proofs.OneTree.{one_tree}
use Rattle.cv_load.proofs.laws.a_hash_means_one_tree.Goals as goal

pub returns : goal.returns
returns c = one_tree
