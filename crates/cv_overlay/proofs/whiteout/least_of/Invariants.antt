use Rattle.std.proofs.Common.{◌≡◌, None}
use Rattle.std.specs.Vec.Iter.{into_iter_items}
use Rattle.cv_overlay.specs.LeastInner.{least_from}
use Rattle.cv_overlay.proofs.whiteout.least_of.Given as goal

abbrev pub invariant-loop-path : goal.invariant-loop-path
invariant-loop-path l = least_from l.changes l.least (into_iter_items l.path-iterator) ≡ least_from l.changes None l.fn.entries.items
