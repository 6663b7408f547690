use Rattle.cv_load.proofs.Means.{measured_means}
use Rattle.cv_load.proofs.laws.a_measured_tree_is_meant.Goals as goal

pub returns : goal.returns
returns c = λ shelf hash t hashes is. measured_means shelf hash t hashes is
