use Rattle.cv_folder.specs.GoingOn.{GoesOn}
use Rattle.cv_folder.specs.Listed.{AllBegin, IsSkipped}
use Rattle.cv_folder.specs.ListedInner.{Stands}
use Rattle.cv_base.specs.Path.{with_slash}
use Rattle.cv_folder.proofs.listing.list_files.Given as goal

abbrev pub invariant-loop : goal.invariant-loop
invariant-loop g l = record {
  begin : AllBegin l.prefix l.listing.found.items;
  stands : Stands (with_slash l.root) l.listing (g.S.System.log l.fn.system) (g.S.System.log l.system);
  goes : GoesOn IsSkipped (g.S.System.log l.fn.system) (g.S.System.log l.system);
}
