use Rattle.std.proofs.Common.{◌≡◌, ◌≤◌, ◌+◌, ◌*◌, length}
use Rattle.cv_base.specs.declared.repo_path.TheConstants.{NAMES_LIMIT}
use Rattle.cv_leases.specs.Leases.{unexpired, DeadlinesRise}
use Rattle.cv_leases.specs.Queue.{leases_in}
use Rattle.cv_leases.specs.Linked.{IsLinked}
use Rattle.cv_leases.proofs.lease_table.LeaseTable.expire.Given as goal

abbrev pub invariant-loop-self : goal.invariant-loop-self
invariant-loop-self g l = record {
  whole : IsLinked l.self-inside.linked;
  rise : DeadlinesRise (leases_in l.self-inside.linked.queue);
  leases : unexpired l.moment (leases_in l.self-inside.linked.queue) ≡ unexpired l.moment l.fn.self;
  steps : l.steps + (NAMES_LIMIT + 2) * length (leases_in l.self-inside.linked.queue) ≤ l.fn.steps + (NAMES_LIMIT + 2) * length l.fn.self;
}

abbrev pub decreases-loop-self : goal.decreases-loop-self
decreases-loop-self g l = length (leases_in l.self-inside.linked.queue)
