use Rattle.std.proofs.Common.{arith}
use Rattle.cv_base.specs.Path.{Path}
use Rattle.cv_rows.specs.Places.{StandsAt}
use Rattle.cv_rows.specs.Catalogue.{FitsAt}
use Rattle.cv_rows.proofs.Spelled.{is_in_place, is_misplaced}
use Rattle.cv_rows.proofs.Walks.{first_misplaced_is, one_more_row}
use Rattle.cv_rows.proofs.spelling.first_misplaced.Goals as goal

pub loop-row-init : goal.loop-row-init
loop-row-init c = record { kept = c.in_ok-kept.ensures c.args.at.now; placed = λ k d lt. absurd (omega arith) }

pub returns-then-not-fits : goal.returns-then-not-fits
returns-then-not-fits c =
    first_misplaced_is c.args.at.now c.args.rows.now c.loop-row.row c.requires.placing.ordered c.loop-row.invariant.placed c.loop-row-test.true
    (is_misplaced c.args.at.now c.args.rows.now c.loop-row.row _ c.in_ok-fits.ensures.placed c.if-not-fits.true)

pub loop-row-preserved : goal.loop-row-preserved
loop-row-preserved c = record {
  kept = c.in_ok-fits.ensures.kept;
  placed =
      one_more_row (λ r. (q : Path) × StandsAt c.args.at.now c.args.rows.now r q × FitsAt c.args.at.now r q) c.args.rows.now c.loop-row.row c.loop-row.invariant.placed
      (is_in_place c.args.at.now c.args.rows.now c.loop-row.row _ c.in_ok-fits.ensures.placed c.if-not-fits.false);
}
