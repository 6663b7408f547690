use Rattle.std.proofs.Common.{◌≡◌, length}
use Rattle.std.specs.Prelude.{IsSome}
use Rattle.cv_real.proofs.begun.BegunSyncs.join_all.Given as goal

abbrev pub invariant-loop-thread : goal.invariant-loop-thread
invariant-loop-thread g l = record {
  failed : IsSome l.fn.self.failed → IsSome l.self.failed;
  waiting : l.self.waiting ≡ l.fn.self.waiting;
}

abbrev pub decreases-loop-thread : goal.decreases-loop-thread
decreases-loop-thread g l = length l.self.threads.items
