use Rattle.std.proofs.Common.{◌++◌}
use Rattle.std.specs.BTreeMap.{get_by_text}
use Rattle.cv_publisher.specs.Packing.{id_texts}
use Rattle.cv_publisher.specs.PackingInner.{FindsFirst}
use Rattle.cv_publisher.proofs.ordering.places_by_text.Given as goal

abbrev pub invariant-loop-place : goal.invariant-loop-place
invariant-loop-place l = FindsFirst (id_texts (l.contents ++ l.catalogues)) l.place (get_by_text l.places)
