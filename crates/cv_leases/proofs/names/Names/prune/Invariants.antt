use Rattle.std.proofs.Common.{◌≤◌, ◌+◌, IfSome}
use Rattle.cv_links.specs.Arena.{IsLive}
use Rattle.cv_leases.specs.Names.{IsNames, IsWithin}
use Rattle.cv_leases.specs.NamesInner.{IsPrunedTo, SameLeased}
use Rattle.cv_leases.proofs.names.Names.prune.Given as goal

abbrev pub invariant-loop-left : goal.invariant-loop-left
invariant-loop-left g l = record {
  whole : IsNames l.self;
  leases : SameLeased l.fn.self l.self;
  live : IfSome l.at (λ id. IsLive l.self.places id);
  pruned : IsPrunedTo l.self l.at;
  near : IfSome l.at (λ id. IsWithin l.self l.left id);
  steps : l.steps + l.left ≤ l.fn.steps + 64;
}

abbrev pub decreases-loop-left : goal.decreases-loop-left
decreases-loop-left g l = l.left
