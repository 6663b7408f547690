use Rattle.std.proofs.Common.{◌≡◌}
use Rattle.cv_real.specs.AheadInner.{names}
use Rattle.cv_real.proofs.ahead.read_each.Given as goal

abbrev pub invariant-loop-file : goal.invariant-loop-file
invariant-loop-file l = names l.file-items ≡ names l.fn.files.items
