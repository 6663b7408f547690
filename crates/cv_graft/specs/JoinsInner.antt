-- What one catalogue has outside a path, with what another has at the path and below it. What only this crate's own functions say.
use Rattle.std.specs.Prelude.{List}
use Rattle.cv_base.specs.Path.{Path}
use Rattle.cv_rows.specs.Catalogue.{Contents}
use Rattle.cv_rows.specs.declared.row.Row.{Row}
use Rattle.cv_graft.specs.Joins.{Collides, CollidesAt, IsFullAt, IsJoined}
use Rattle.cv_graft.specs.MakesInner.{Outcomes}
use Rattle.cv_graft.specs.declared.graft_fault.GraftFault.{GraftFault}
use Rattle.cv_graft.specs.declared.graft_fault.GraftFault.TheVariants as fault

-- what a search for such a key answers
abbrev pub IsCollision : Contents → Contents → List Row → GraftFault → Type 0
IsCollision rest o rows (fault.PathCollision a b) = Collides rest o rest.rows rows a b
IsCollision rest o rows (fault.CatalogueFull c) = ⊥
IsCollision rest o rows fault.Failed = ⊥
IsCollision rest o rows (fault.Damaged id found) = ⊥
IsCollision rest o rows fault.NoMemory = Unit {0}

-- what another tree has at the path and below it comes there
abbrev pub from_tree : Contents → Path → Outcomes
from_tree o p = record { becomes = λ c made. IsJoined c o p made; collides = λ c a b. CollidesAt c o p a b; fills = λ c d. IsFullAt c o p d }
