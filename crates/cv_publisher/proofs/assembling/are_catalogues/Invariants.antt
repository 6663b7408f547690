use Rattle.std.proofs.Common.{take}
use Rattle.std.specs.Prelude.{All}
use Rattle.cv_publisher.specs.PackingInner.{IsCatalogueObject}
use Rattle.cv_publisher.proofs.assembling.are_catalogues.Given as goal

abbrev pub invariant-loop-object : goal.invariant-loop-object
invariant-loop-object l = All IsCatalogueObject (take l.object-index l.objects)
