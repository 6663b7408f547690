use Rattle.std.proofs.Common.{length}
use Rattle.cv_folder.specs.GoingOn.{GoesOn}
use Rattle.cv_folder.specs.Listed.{AllBegin, IsSkipped}
use Rattle.cv_folder.specs.ListedInner.{ListsOn}
use Rattle.cv_folder.proofs.listing.Listing.list_names.Given as goal

abbrev pub invariant-loop-name : goal.invariant-loop-name
invariant-loop-name g l = record {
  begin : AllBegin l.prefix l.fn.self.found.items → AllBegin l.prefix l.self.found.items;
  lists : ListsOn l.front l.folder l.fn.self l.self (g.S.System.log l.fn.system) (g.S.System.log l.system);
  goes : GoesOn IsSkipped (g.S.System.log l.fn.system) (g.S.System.log l.system);
}

abbrev pub decreases-loop-name : goal.decreases-loop-name
decreases-loop-name g l = length l.rest
