use Rattle.std.proofs.Common.{take}
use Rattle.cv_graft.proofs.Nexts.{NoneOf}
use Rattle.cv_graft.proofs.way.entry_above.Given as goal

abbrev pub invariant-loop-entry : goal.invariant-loop-entry
invariant-loop-entry l = NoneOf (take l.entry-index l.entry-items) l.path
