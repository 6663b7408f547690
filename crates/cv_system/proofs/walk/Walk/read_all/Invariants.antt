use Rattle.std.proofs.Common.{◌≡◌}
use Rattle.std.specs.Prelude.{IsSome}
use Rattle.cv_system.specs.Walks.{Reads}
use Rattle.cv_system.proofs.walk.Walk.read_all.Given as goal

abbrev pub invariant-loop : goal.invariant-loop
invariant-loop g l = record {
  folder : l.self.place.folder ≡ l.fn.self.place.folder;
  last : l.self.place.last ≡ l.fn.self.place.last;
  entered : IsSome (g.S.System.log l.system) → g.S.System.folder l.entered ≡ l.fn.self.place.folder;
  reads : Reads l.fn.self.place.folder l.fn.self.place.last l.fn.self.place.ahead (g.S.System.log l.fn.system) l.counter l.self.place.ahead (g.S.System.log l.system);
}
