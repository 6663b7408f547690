use Rattle.std.proofs.Common.{◌≡◌, Some, take}
use Rattle.cv_links.specs.Arena.{IsLive}
use Rattle.cv_leases.specs.Names.{place_of, IsNames, IsWithin}
use Rattle.cv_leases.specs.NamesInner.{IsPrunedBut, SameLeased}
use Rattle.cv_leases.proofs.names.Names.place.Given as goal

abbrev pub invariant-loop-name : goal.invariant-loop-name
invariant-loop-name g l = record {
  whole : IsNames l.self;
  leases : SameLeased l.fn.self l.self;
  live : IsLive l.self.places l.at;
  pruned : IsPrunedBut l.self l.at;
  near : IsWithin l.self l.name-index l.at;
  so_far : place_of l.self (take l.name-index l.path) ≡ Some l.at;
}
