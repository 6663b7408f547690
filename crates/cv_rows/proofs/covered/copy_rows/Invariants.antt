use Rattle.std.proofs.Common.{◌≡◌, take, filter}
use Rattle.std.specs.BTreeSet.{contains}
use Rattle.cv_base.specs.BytesOrder.{bytes_cmp}
use Rattle.cv_rows.proofs.covered.copy_rows.Given as goal

abbrev pub invariant-loop-row : goal.invariant-loop-row
invariant-loop-row l = l.found.items ≡ filter (λ r. contains bytes_cmp l.keys r.key.0) (take l.row-index l.rows)
