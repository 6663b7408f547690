use Rattle.cv_objects.proofs.Noted.{AreHere}
use Rattle.cv_objects.proofs.batch.clash_in.Given as goal

abbrev pub invariant-loop-second : goal.invariant-loop-second
invariant-loop-second l = AreHere l.batch l.second l.places
