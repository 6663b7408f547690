use Rattle.std.proofs.Common.{length}
use Rattle.cv_manifest.proofs.Progress.{Progress}
use Rattle.cv_manifest.proofs.fields.Fields.read.Given as goal

abbrev pub invariant-loop-line : goal.invariant-loop-line
invariant-loop-line l = Progress l.lines l.rest l.number l.fields

abbrev pub decreases-loop-line : goal.decreases-loop-line
decreases-loop-line l = length l.rest
