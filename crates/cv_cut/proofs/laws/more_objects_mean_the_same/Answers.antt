use Rattle.cv_cut.proofs.Grafts.{Means-more}
use Rattle.cv_cut.proofs.laws.more_objects_mean_the_same.Goals as goal

pub returns : goal.returns
returns _ = Means-more
