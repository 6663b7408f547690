use Rattle.std.proofs.Common.{◌≡◌, ◌++◌, take}
use Rattle.cv_publisher.specs.Packing.{objects_at}
use Rattle.cv_publisher.proofs.filling.filled.Given as goal

abbrev pub invariant-loop-place : goal.invariant-loop-place
invariant-loop-place l = l.writer ≡ objects_at (l.contents ++ l.catalogues) (take l.place-index l.places)
