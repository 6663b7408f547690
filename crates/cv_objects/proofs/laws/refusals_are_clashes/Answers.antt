use Rattle.cv_objects.proofs.Clashing.{collision_clashes, damage_is_none}
use Rattle.cv_objects.proofs.laws.refusals_are_clashes.Goals as goal

pub returns : goal.returns
returns c = record { collision = collision_clashes; damage = damage_is_none }
