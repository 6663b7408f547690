use Rattle.std.proofs.Common.{Ok, ◌≡◌, ◌≤◌, ◌-◌, length}
use Rattle.cv_base.specs.Told.{WhereTold}
use Rattle.cv_load.proofs.Filling.{FillsSomeFrom}
use Rattle.cv_load.proofs.Fetching.{FetchesFirstOf}
use Rattle.cv_load.specs.GrowthInner.{ChangesBelow}
use Rattle.cv_load.proofs.Clearing.{AreClear}
use Rattle.cv_load.proofs.loading.+fill.Given as goal

abbrev pub decreases-fill : goal.decreases-fill
decreases-fill g l = 64 - length l.catalogue.now.at

abbrev pub invariant-loop-nested : goal.invariant-loop-nested
invariant-loop-nested g l = record {
  fills : WhereTold (g.S.Shelf.shelf l.fn.shelf) (λ standing. FillsSomeFrom standing l.fn.id l.fn.catalogue l.fn.tree l.tree l.nested-index);
  reads : g.S.Shelf.reads l.fn.shelf l.shelf;
  unchanged : g.S.Shelf.shelf l.shelf ≡ g.S.Shelf.shelf l.fn.shelf;
  clear : AreClear l.fn.catalogue l.nested-index l.tree;
  within : ChangesBelow l.fn.catalogue.at l.fn.tree l.tree;
  later : g.S.Shelf.faults l.fn.shelf ≤ g.S.Shelf.faults l.shelf;
  fetches : WhereTold (g.S.Shelf.shelf l.fn.shelf) (λ standing. FetchesFirstOf standing l.fn.id l.fn.catalogue l.nested-index (g.S.Shelf.taken l.fn.shelf) (g.S.Shelf.taken l.shelf) {X = Unit {0}} (Ok (tt {0})));
}
