use Rattle.cv_load.proofs.GoodTree.{a_tree_is_meant}
use Rattle.cv_load.proofs.laws.a_good_root_means_a_tree.Goals as goal

pub returns : goal.returns
returns c = λ shelf hash hashes is. a_tree_is_meant shelf hash hashes is
