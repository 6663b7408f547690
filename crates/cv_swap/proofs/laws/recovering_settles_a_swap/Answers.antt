use Rattle.cv_swap.proofs.Recovered.{recover_leaves, recover_makes, recover_drops}
use Rattle.cv_swap.proofs.laws.recovering_settles_a_swap.Goals as goal

pub returns : goal.returns
returns c = record { leaves = recover_leaves; made = recover_makes; unmade = recover_drops }
