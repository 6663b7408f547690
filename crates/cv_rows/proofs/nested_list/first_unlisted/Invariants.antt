use Rattle.std.proofs.Common.{ℕ, ◌<◌, get_or}
use Rattle.cv_rows.specs.NestedListInner.{HasNested}
use Rattle.cv_rows.specs.declared.row.Row.{Row}
use Rattle.cv_rows.proofs.nested_list.first_unlisted.Given as goal

abbrev pub invariant-loop-row : goal.invariant-loop-row
invariant-loop-row l = (k : ℕ) (d : Row) → k < l.row → HasNested l.nested (get_or l.rows k d)
