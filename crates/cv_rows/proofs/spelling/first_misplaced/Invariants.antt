use Rattle.std.proofs.Common.{ℕ, ◌<◌, get_or}
use Rattle.cv_base.specs.Path.{Path}
use Rattle.cv_rows.specs.Places.{StandsAt}
use Rattle.cv_rows.specs.Catalogue.{FitsAt}
use Rattle.cv_rows.specs.DigestsInner.{AreKept}
use Rattle.cv_rows.specs.declared.row.Row.{Row}
use Rattle.cv_rows.proofs.spelling.first_misplaced.Given as goal

abbrev pub invariant-loop-row : goal.invariant-loop-row
invariant-loop-row l = record {
  kept : AreKept l.at l.rows l.kept.items;
  placed : (k : ℕ) (d : Row) → k < l.row → (q : Path) × StandsAt l.at l.rows (get_or l.rows k d) q × FitsAt l.at (get_or l.rows k d) q;
}
