use Rattle.std.proofs.Common.{ℕ, ◌<◌, get_or}
use Rattle.cv_rows.specs.Catalogue.{IsMarkedWell}
use Rattle.cv_rows.specs.declared.row.Row.{Row}
use Rattle.cv_rows.proofs.markers.first_marked_badly.Given as goal

abbrev pub invariant-loop-row : goal.invariant-loop-row
invariant-loop-row l = (k : ℕ) (d : Row) → k < l.row → IsMarkedWell l.at l.rows (get_or l.rows k d)
