use Rattle.std.proofs.Common.{◌≡◌, ◌≤◌, ◌-◌, length}
use Rattle.cv_base.specs.Told.{WhereTold}
use Rattle.cv_load.specs.Known.{AreKnown}
use Rattle.cv_load.proofs.Checks.{ChecksSomeFrom}
use Rattle.cv_load.specs.NewFetchesInner.{HasAll}
use Rattle.cv_load.proofs.NewFetching.{FirstNewOf}
use Rattle.cv_load.proofs.NewPairs.{FirstAddedOf}
use Rattle.cv_load.proofs.Listing.{ListsSome}
use Rattle.cv_load.proofs.checking.+check.Given as goal

abbrev pub decreases-check : goal.decreases-check
decreases-check g l = 64 - length l.catalogue.now.at

abbrev pub invariant-loop-nested : goal.invariant-loop-nested
invariant-loop-nested g l = record {
  checks : WhereTold (g.S.Shelf.shelf l.fn.shelf) (λ standing. AreKnown standing l.fn.known → ChecksSomeFrom standing l.fn.catalogue l.fn.pairs.items l.pairs.items l.nested-index);
  keeps : HasAll l.fn.pairs.items l.pairs.items;
  adds : WhereTold (g.S.Shelf.shelf l.fn.shelf) (λ standing. FirstAddedOf standing l.fn.known l.fn.id l.fn.catalogue l.nested-index l.fn.pairs.items l.pairs.items);
  lists : WhereTold (g.S.Shelf.shelf l.fn.shelf) (λ standing. ListsSome standing l.fn.known l.fn.catalogue l.pairs.items l.nested-index);
  reads : g.S.Shelf.reads l.fn.shelf l.shelf;
  unchanged : g.S.Shelf.shelf l.shelf ≡ g.S.Shelf.shelf l.fn.shelf;
  fetches : WhereTold (g.S.Shelf.shelf l.fn.shelf) (λ standing. FirstNewOf standing l.fn.known l.fn.id l.fn.catalogue l.nested-index (g.S.Shelf.taken l.fn.shelf) (g.S.Shelf.taken l.shelf));
  later : g.S.Shelf.faults l.fn.shelf ≤ g.S.Shelf.faults l.shelf;
}
