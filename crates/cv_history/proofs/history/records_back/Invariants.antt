use Rattle.std.proofs.Common.{◌≡◌, ◌≤◌, ◌+◌}
use Rattle.cv_base.specs.Told.{WhereTold}
use Rattle.cv_history.specs.Chain.{Names, StandsAt}
use Rattle.cv_history.proofs.WalksBack.{Leads, Hangs}
use Rattle.cv_history.proofs.history.records_back.Given as goal

abbrev pub invariant-records : goal.invariant-records
invariant-records g l = record {
  chain : WhereTold (g.S.Shelf.shelf l.fn.shelf) (λ standing. Leads (StandsAt standing) l.fn.revision l.fn.last l.records.items l.wanted l.id);
  breaks : WhereTold (g.S.Shelf.shelf l.fn.shelf) (λ standing. Hangs standing l.fn.revision l.fn.last l.wanted l.id);
  linked : Leads Names l.fn.revision l.fn.last l.records.items l.wanted l.id;
  reads : g.S.Shelf.reads l.fn.shelf l.shelf;
  unchanged : g.S.Shelf.shelf l.shelf ≡ g.S.Shelf.shelf l.fn.shelf;
  later : g.S.Shelf.faults l.fn.shelf ≤ g.S.Shelf.faults l.shelf;
  fetches : g.S.Shelf.taken l.shelf + l.wanted ≤ g.S.Shelf.taken l.fn.shelf + l.fn.revision;
}

abbrev pub decreases-records : goal.decreases-records
decreases-records g l = l.wanted
