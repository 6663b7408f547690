use Rattle.std.proofs.Common.{◌≡◌, ◌++◌, map, take, drop}
use Rattle.cv_rows.specs.Renewed.{renewed}
use Rattle.cv_rows.proofs.renewing.renew_entry.Given as goal

abbrev pub invariant-loop-entry : goal.invariant-loop-entry
invariant-loop-entry l = l.entry-items ≡ map (renewed l.path l.hash l.size) (take l.entry-index l.initial.entry-items) ++ drop l.entry-index l.initial.entry-items
