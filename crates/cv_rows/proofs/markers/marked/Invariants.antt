use Rattle.std.proofs.Common.{◌≡◌, ℕ, List, take}
use Rattle.std.specs.BTreeSet.{contains}
use Rattle.cv_base.specs.BytesOrder.{bytes_cmp}
use Rattle.cv_rows.specs.Catalogue.{has_marker}
use Rattle.cv_rows.proofs.markers.marked.Given as goal

abbrev pub invariant-loop-row : goal.invariant-loop-row
invariant-loop-row l = (key : List ℕ) → contains bytes_cmp l.keys key ≡ has_marker (take l.row-index l.rows) key
