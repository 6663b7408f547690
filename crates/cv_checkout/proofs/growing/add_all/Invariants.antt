use Rattle.cv_checkout.proofs.Steps.{Adds}
use Rattle.cv_checkout.proofs.growing.add_all.Given as goal

abbrev pub invariant-loop-path : goal.invariant-loop-path
invariant-loop-path l = Adds l.nodes l.initial.tree l.tree l.path-index
