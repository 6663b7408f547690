use Rattle.std.proofs.Common.{◌≡◌, ◌+◌, ◌++◌, length, map, IfSome, Contains}
use Rattle.cv_links.specs.Arena.{value_at}
use Rattle.cv_links.specs.Chains.{rest_of}
use Rattle.cv_leases.specs.Queue.{leases_by, leases_in, ids_of}
use Rattle.cv_leases.proofs.queue.Queue.leases.Given as goal

abbrev pub invariant-loop-at : goal.invariant-loop-at
invariant-loop-at g l = record {
  within : IfSome l.at (λ id. Contains (ids_of l.self) id);
  listed : map (λ lease. lease.now) l.leases.items ++ leases_by (value_at l.self.entries) (rest_of l.self.entries l.self.order l.at) ≡ leases_in l.self;
  steps : l.steps ≡ l.fn.steps + length l.leases.items;
}

abbrev pub decreases-loop-at : goal.decreases-loop-at
decreases-loop-at g l = length (rest_of l.self.entries l.self.order l.at)
