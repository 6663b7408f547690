use Rattle.std.proofs.Common.{◌≡◌, ◌++◌}
use Rattle.std.specs.Prelude.{IsSome}
use Rattle.cv_folder.specs.GoingOn.{GoesOn}
use Rattle.cv_folder.specs.Listed.{AllBegin, IsSkipped}
use Rattle.cv_folder.specs.ListedInner.{ListsOn}
use Rattle.cv_folder.proofs.listing.Listing.list_open.Given as goal

abbrev pub invariant-loop : goal.invariant-loop
invariant-loop g l = record {
  begin : AllBegin l.prefix l.fn.self.found.items → AllBegin l.prefix l.self.found.items;
  entered : IsSome (g.S.System.log l.system) → g.S.System.folder l.entered ≡ l.front ++ l.folder;
  lists : ListsOn l.front l.folder l.fn.self l.self (g.S.System.log l.fn.system) (g.S.System.log l.system);
  goes : GoesOn IsSkipped (g.S.System.log l.fn.system) (g.S.System.log l.system);
}
