use Rattle.std.proofs.Common.{take}
use Rattle.cv_graft.specs.PlacedWay.{ArePathsCrossed}
use Rattle.cv_graft.proofs.placing.check_paths.Given as goal

abbrev pub invariant-loop-entry : goal.invariant-loop-entry
invariant-loop-entry l = ArePathsCrossed l.catalogue.rows (take l.entry-index l.coming)
