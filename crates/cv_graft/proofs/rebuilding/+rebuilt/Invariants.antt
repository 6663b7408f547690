use Rattle.std.proofs.Common.{◌-◌, length}
use Rattle.cv_graft.proofs.rebuilding.+rebuilt.Given as goal

abbrev pub decreases-rebuilt : goal.decreases-rebuilt
decreases-rebuilt g l = length l.path.now - length l.catalogue.at
