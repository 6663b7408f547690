use Rattle.std.proofs.Common.{◌≡◌}
use Rattle.cv_real.proofs.ahead.Directory.keep.Given as goal

abbrev pub invariant-loop-file : goal.invariant-loop-file
invariant-loop-file l = l.self.folder ≡ l.fn.self.folder
