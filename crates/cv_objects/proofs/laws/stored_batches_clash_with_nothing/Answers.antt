use Rattle.cv_objects.proofs.Clashing.{agreeing_clash, stored_clash, gains_some, has_all}
use Rattle.cv_objects.proofs.laws.stored_batches_clash_with_nothing.Goals as goal

pub returns : goal.returns
returns c = record { fresh = agreeing_clash; stored = stored_clash; gains = gains_some; has = has_all }
