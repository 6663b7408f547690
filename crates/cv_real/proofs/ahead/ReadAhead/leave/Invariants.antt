use Rattle.std.proofs.Common.{◌≤◌, length}
use Rattle.cv_real.proofs.ahead.ReadAhead.leave.Given as goal

abbrev pub invariant-loop-directory : goal.invariant-loop-directory
invariant-loop-directory g l = length l.self.readers.items ≤ length l.fn.self.readers.items

abbrev pub decreases-loop-directory : goal.decreases-loop-directory
decreases-loop-directory g l = length l.self.directories.items
