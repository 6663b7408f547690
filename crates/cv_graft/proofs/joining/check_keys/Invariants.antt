use Rattle.std.proofs.Common.{take}
use Rattle.cv_graft.specs.Joins.{AreCrossed}
use Rattle.cv_graft.proofs.joining.check_keys.Given as goal

abbrev pub invariant-loop-row : goal.invariant-loop-row
invariant-loop-row l = AreCrossed l.catalogue.rows (take l.row-index l.rows)
