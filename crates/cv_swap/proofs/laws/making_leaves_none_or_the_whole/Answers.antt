use Rattle.cv_swap.proofs.Inits.{leaves_settled}
use Rattle.cv_swap.proofs.laws.making_leaves_none_or_the_whole.Goals as goal

pub returns : goal.returns
returns c = leaves_settled
