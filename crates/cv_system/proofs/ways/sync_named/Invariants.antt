use Rattle.std.proofs.Common.{◌≡◌}
use Rattle.std.specs.Prelude.{IsSome}
use Rattle.cv_system.specs.Ways.{ReadsWays}
use Rattle.cv_system.proofs.ways.sync_named.Given as goal

abbrev pub invariant-loop : goal.invariant-loop
invariant-loop g l = record {
  entered : IsSome (g.S.System.log l.system) → g.S.System.folder l.entered ≡ l.folder;
  reads : ReadsWays l.folder (g.S.System.log l.fn.system) l.counter (g.S.System.log l.system);
}
