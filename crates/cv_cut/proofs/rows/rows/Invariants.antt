use Rattle.std.proofs.Common.{◌≡◌, map, take}
use Rattle.cv_cut.specs.Cut.{row_in}
use Rattle.cv_cut.proofs.rows.rows.Given as goal

abbrev pub invariant-loop-entry : goal.invariant-loop-entry
invariant-loop-entry l = l.rows.items ≡ map (row_in l.tree l.cut) (take l.entry-index l.region)
