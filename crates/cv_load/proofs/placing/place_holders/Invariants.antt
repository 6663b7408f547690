use Rattle.std.proofs.Common.{ℕ, ◌<◌, IsSome, IsTrue, get_or}
use Rattle.std.specs.FinMap.{get}
use Rattle.cv_base.specs.Path.{Path}
use Rattle.cv_rows.specs.Row.{holds_rows}
use Rattle.cv_rows.specs.Places.{StandsAt}
use Rattle.cv_rows.specs.declared.row.Row.{Row}
use Rattle.cv_load.specs.Growth.{GrowsBy}
use Rattle.cv_load.proofs.placing.place_holders.Given as goal

abbrev pub invariant-loop-row : goal.invariant-loop-row
invariant-loop-row l = record {
  grows : GrowsBy l.fn.catalogue.at l.fn.catalogue.rows l.fn.tree l.tree;
  there : (k : ℕ) (d : Row) (q : Path) → k < l.row → IsTrue (holds_rows (get_or l.fn.catalogue.rows k d).kind) → StandsAt l.fn.catalogue.at l.fn.catalogue.rows (get_or l.fn.catalogue.rows k d) q → IsSome (get l.tree q);
}
