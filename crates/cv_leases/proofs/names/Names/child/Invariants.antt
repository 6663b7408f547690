use Rattle.std.proofs.Common.{◌≡◌, length, IfSome, Contains}
use Rattle.cv_links.specs.Arena.{value_at}
use Rattle.cv_links.specs.Chains.{list_of, rest_of}
use Rattle.cv_leases.specs.Names.{named}
use Rattle.cv_leases.proofs.names.Names.child.Given as goal

abbrev pub invariant-loop-at : goal.invariant-loop-at
invariant-loop-at g l = record {
  within : IfSome l.at (λ id. Contains (list_of l.self.places l.below) id);
  rest : named (value_at l.self.places) l.name (rest_of l.self.places l.below l.at) ≡ named (value_at l.self.places) l.name (list_of l.self.places l.below);
}

abbrev pub decreases-loop-at : goal.decreases-loop-at
decreases-loop-at g l = length (rest_of l.self.places l.below l.at)
