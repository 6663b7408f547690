use Rattle.cv_swap.proofs.Prepared.{added_stands}
use Rattle.cv_swap.proofs.laws.more_objects_keep_revisions.Goals as goal

pub returns : goal.returns
returns c = added_stands
