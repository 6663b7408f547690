use Rattle.std.proofs.Common.{◌≡◌, ◌++◌}
use Rattle.std.specs.Vec.Iter.{into_iter_items}
use Rattle.cv_overlay.specs.Overlay.{named_entries}
use Rattle.cv_overlay.proofs.overlaying.push_named.Given as goal

abbrev pub invariant-loop-path : goal.invariant-loop-path
invariant-loop-path l = l.entries.items ++ named_entries (into_iter_items l.path-iterator) ≡ l.initial.entries.items ++ named_entries l.fn.all.items
