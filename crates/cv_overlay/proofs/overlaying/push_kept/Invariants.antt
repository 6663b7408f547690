use Rattle.std.proofs.Common.{◌≡◌, ◌≢◌, ◌++◌, [], true, false}
use Rattle.std.specs.Vec.Iter.{into_iter_items}
use Rattle.cv_overlay.specs.Overlay.{kept_entries, hidden}
use Rattle.cv_overlay.proofs.overlaying.push_kept.Given as goal

abbrev pub invariant-loop-path : goal.invariant-loop-path
invariant-loop-path l = record {
  entries : l.entries.items ++ kept_entries l.changes (into_iter_items l.path-iterator) ≡ l.initial.entries.items ++ kept_entries l.changes l.fn.all.items;
  shown : hidden l.changes l.shown ≡ false;
  gone : l.gone ≢ [] → hidden l.changes l.gone ≡ true;
}
