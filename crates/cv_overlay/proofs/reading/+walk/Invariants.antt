use Rattle.std.proofs.Common.{◌≡◌, ◌≤◌, ◌+◌, ◌++◌}
use Rattle.std.specs.VecDeque.{deque_len}
use Rattle.cv_base.specs.Path.{Path}
use Rattle.cv_base.specs.Told.{WhereTold}
use Rattle.cv_ports.specs.Folder.{IsOrdered}
use Rattle.cv_tree.specs.Changes.{FitsUnder}
use Rattle.cv_overlay.specs.EventsInner.{visits_of, visits_deep}
use Rattle.cv_overlay.specs.FoundInner.{run}
use Rattle.cv_overlay.proofs.reading.+walk.Given as goal

abbrev pub decreases-walk : goal.decreases-walk
decreases-walk g l = l.left

abbrev pub decreases-events : goal.decreases-events
decreases-events g l = deque_len l.events

abbrev pub invariant-events : goal.invariant-events
invariant-events g l = record {
  told : WhereTold (g.F.Folder.folder l.fn.folder) (λ holds. (at : Path) → l.published ≡ at ++ l.above
      → run holds at (visits_of (visits_deep l.left holds at) at l.above l.events.items) l.found ≡ run holds at (visits_deep (l.left + 1) holds at l.above) l.fn.found);
  ordered : WhereTold (g.F.Folder.folder l.fn.folder) IsOrdered;
  unchanged : g.F.Folder.folder l.folder ≡ g.F.Folder.folder l.fn.folder;
  stays : g.F.Folder.named l.folder ≡ g.F.Folder.named l.fn.folder;
  lasts : g.F.Folder.holds l.folder ≡ g.F.Folder.holds l.fn.folder;
  later : g.F.Folder.faults l.fn.folder ≤ g.F.Folder.faults l.folder;
  fits : (at : Path) → l.published ≡ at ++ l.above → FitsUnder at l.fn.found.nodes → FitsUnder at l.found.nodes;
}
