use Rattle.std.proofs.Common.{◌≡◌, take, filter}
use Rattle.cv_rows.specs.ListingInner.{is_in}
use Rattle.cv_rows.proofs.children.rows_below.Given as goal

abbrev pub invariant-loop-row : goal.invariant-loop-row
invariant-loop-row l = l.found.items ≡ filter (is_in l.root l.key) (take l.row-index l.rows)
