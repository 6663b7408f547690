use Rattle.std.proofs.Common.{◌≡◌, ◌+◌, [], map, drop}
use Rattle.serde_json.specs.View.{view}
use Rattle.cv_keys.specs.KeysText.{keys_behind}
use Rattle.cv_keys.proofs.read_keys.read_elements.Given as goal

abbrev pub invariant-loop-i : goal.invariant-loop-i
invariant-loop-i l = keys_behind [] 1 (map view l.list) ≡ keys_behind l.keys.items (l.i + 1) (map view (drop l.i l.list))
