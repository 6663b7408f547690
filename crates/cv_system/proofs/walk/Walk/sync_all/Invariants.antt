use Rattle.cv_system.specs.Walks.{IsUnder, Walks}
use Rattle.cv_system.proofs.walk.Walk.sync_all.Given as goal

abbrev pub invariant-loop : goal.invariant-loop
invariant-loop g l = record {
  under : IsUnder l.top l.self.place.folder;
  walks : Walks l.top (g.S.System.log l.fn.system) l.counter l.self.place.folder l.self.place.last l.self.place.ahead (g.S.System.log l.system);
}
