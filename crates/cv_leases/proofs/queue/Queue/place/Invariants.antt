use Rattle.std.proofs.Common.{◌≡◌, IfSome, Contains, slice_get}
use Rattle.cv_links.specs.Arena.{value_at}
use Rattle.cv_links.specs.Chains.{rest_of}
use Rattle.cv_leases.specs.Queue.{leases_by, leases_in, ids_of}
use Rattle.cv_leases.proofs.queue.Queue.place.Given as goal

abbrev pub invariant-loop-left : goal.invariant-loop-left
invariant-loop-left g l = record {
  within : IfSome l.at (λ id. Contains (ids_of l.self) id);
  rest : slice_get (leases_by (value_at l.self.entries) (rest_of l.self.entries l.self.order l.at)) l.left ≡ slice_get (leases_in l.self) l.before;
}

abbrev pub decreases-loop-left : goal.decreases-loop-left
decreases-loop-left g l = l.left
