use Rattle.cv_cut.proofs.Over.{nearest}
use Rattle.cv_cut.proofs.laws.the_last_cut_is_the_nearest.Goals as goal

pub returns : goal.returns
returns c = nearest
