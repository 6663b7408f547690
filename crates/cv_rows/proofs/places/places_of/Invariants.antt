use Rattle.std.proofs.Common.{take}
use Rattle.cv_rows.specs.Places.{StandEach}
use Rattle.cv_rows.proofs.places.places_of.Given as goal

abbrev pub invariant-loop-row : goal.invariant-loop-row
invariant-loop-row l = StandEach l.at l.rows (take l.row l.rows) l.paths.items
