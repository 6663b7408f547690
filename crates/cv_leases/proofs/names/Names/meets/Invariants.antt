use Rattle.std.proofs.Common.{◌≡◌, IfSome, drop}
use Rattle.cv_links.specs.Arena.{value_at, IsLive}
use Rattle.cv_leases.specs.Names.{below_of}
use Rattle.cv_leases.specs.NamesInner.{meets}
use Rattle.cv_leases.proofs.names.Names.meets.Given as goal

abbrev pub invariant-loop-name : goal.invariant-loop-name
invariant-loop-name g l = record {
  live : IfSome l.at (λ id. IsLive l.self.places id);
  rest : meets (value_at l.self.places) (below_of l.self.places) (drop l.name-index l.path) l.at ≡ meets (value_at l.self.places) (below_of l.self.places) l.path l.self.root;
}
