use Rattle.cv_graft.proofs.laws.a_graft_means_its_tree.Goals as goal
use Rattle.cv_cut.proofs.Lemmas.{means_after}

pub returns : goal.returns
returns c = means_after
