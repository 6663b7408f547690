use Rattle.std.proofs.Common.{◌≡◌, ◌≤◌, length}
use Rattle.cv_real.specs.AheadInner.{held}
use Rattle.cv_real.specs.declared.ahead.TheConstants.{THREAD_LIMIT}
use Rattle.cv_real.proofs.ahead.ReadAhead.start_all.Given as goal

abbrev pub invariant-loop : goal.invariant-loop
invariant-loop g l = record {
  threads : length l.fn.self.readers.items ≤ THREAD_LIMIT → length l.self.readers.items ≤ THREAD_LIMIT;
  held : held l.self.directories.items ≡ held l.fn.self.directories.items;
}
