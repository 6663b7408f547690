use Rattle.cv_graft.proofs.Ways.{way_above, way_reached, way_fails}
use Rattle.cv_graft.proofs.laws.the_way_is_above_and_reached.Goals as goal

pub returns-clause-above : goal.returns-clause-above
returns-clause-above c = λ shelf root p hash place on. way_above shelf root p on

pub returns-clause-reached : goal.returns-clause-reached
returns-clause-reached c = λ shelf root p hash place on. way_reached shelf root p on

pub returns-clause-fault : goal.returns-clause-fault
returns-clause-fault c = way_fails
