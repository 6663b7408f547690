use Rattle.std.proofs.Common.{length}
use Rattle.cv_cut.proofs.Collecting.{Collects}
use Rattle.cv_cut.proofs.region.region.Given as goal

abbrev pub invariant-loop-first : goal.invariant-loop-first
invariant-loop-first l = Collects l.tree l.cut l.region.items l.rest

abbrev pub decreases-loop-first : goal.decreases-loop-first
decreases-loop-first l = length l.rest
