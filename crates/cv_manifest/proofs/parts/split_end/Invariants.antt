use Rattle.std.proofs.Common.{length}
use Rattle.cv_manifest.proofs.Ends.{Before}
use Rattle.cv_manifest.proofs.parts.split_end.Given as goal

abbrev pub invariant-loop-line : goal.invariant-loop-line
invariant-loop-line l = Before l.bytes l.rest

abbrev pub decreases-loop-line : goal.decreases-loop-line
decreases-loop-line l = length l.rest
