use Rattle.std.proofs.Common.{◌-◌, length}
use Rattle.cv_graft.proofs.way.+holder_from.Given as goal

abbrev pub decreases-holder_from : goal.decreases-holder_from
decreases-holder_from g l = length l.path.now - length l.catalogue.at
