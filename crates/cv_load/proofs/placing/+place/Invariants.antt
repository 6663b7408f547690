use Rattle.std.proofs.Common.{length}
use Rattle.cv_load.proofs.placing.+place.Given as goal

abbrev pub decreases-place : goal.decreases-place
decreases-place l = length l.path.now
