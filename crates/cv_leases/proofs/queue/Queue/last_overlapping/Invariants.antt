use Rattle.std.proofs.Common.{◌≡◌, length, IfSome, Contains}
use Rattle.std.specs.List.{filter, last_or}
use Rattle.cv_base.specs.Path.{overlap}
use Rattle.cv_links.specs.Arena.{value_at}
use Rattle.cv_links.specs.Chains.{rest_of}
use Rattle.cv_leases.specs.Leases.{busy}
use Rattle.cv_leases.specs.Queue.{leases_by, leases_in, ids_of}
use Rattle.cv_leases.specs.QueueInner.{lease_at}
use Rattle.cv_leases.proofs.queue.Queue.last_overlapping.Given as goal

abbrev pub invariant-loop-at : goal.invariant-loop-at
invariant-loop-at g l = record {
  within : IfSome l.at (λ id. Contains (ids_of l.self) id);
  found : IfSome l.last (λ id. Contains (ids_of l.self) id);
  rest : last_or (lease_at l.self l.last) (filter (λ lease. overlap lease.path l.path) (leases_by (value_at l.self.entries) (rest_of l.self.entries l.self.order l.at))) ≡ busy (leases_in l.self) l.path;
}

abbrev pub decreases-loop-at : goal.decreases-loop-at
decreases-loop-at g l = length (rest_of l.self.entries l.self.order l.at)
