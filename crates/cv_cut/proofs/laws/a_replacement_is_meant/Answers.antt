use Rattle.cv_cut.proofs.MeansAfter.{means_after}
use Rattle.cv_cut.proofs.laws.a_replacement_is_meant.Goals as goal

pub returns : goal.returns
returns _ = means_after
